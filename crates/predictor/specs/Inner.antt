-- What inner functions promise; a reader of the definitions does not need it.
use Rattle.std.specs.Prelude.{◌≡◌, ℕ, ◌≤◌}
use Rattle.predictor.specs.Float.{EXP, MANT}
use Rattle.predictor.specs.declared.float.Floating.{Floating}

unfoldable pub float_of : ℕ → Floating
float_of MAG = record { exp = EXP MAG; mant = MANT MAG }

-- r is the float of a word, with the bounds that whoever computes with it wants
pub record IsFloat (MAG : ℕ) (r : Floating) : Type 0 where
  pub is : r ≡ float_of MAG
  pub few : r.exp ≤ 16
  pub small : r.mant ≤ 63
