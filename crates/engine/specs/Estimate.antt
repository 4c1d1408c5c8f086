-- What a memory foretells of the next sample, before any bit of it is known: the scale factor Y, the signal estimate SE and its part SEZ from
-- the sixth order predictor. All come from delayed values (Figures 8, 9 and 10 of G.727).
use Rattle.std.specs.Prelude.{List, ℕ, ◌-◌, get_or}
use Rattle.scale.specs.Scale.{MIX}
use Rattle.speed.specs.Speed.{LIMA}
use Rattle.predictor.specs.Sums.{ACCUM}
use Rattle.predictor.specs.Float.{FMULT}
use Rattle.predictor.specs.declared.sums.Estimate.{Estimate}
use Rattle.state.specs.declared.memory.Memory.{Memory}
use Rattle.engine.specs.declared.Estimated.{Estimated}

-- the n-th of six: B1 to B6, DQ1 to DQ6
abbrev pub nth : List ℕ → ℕ → ℕ
nth six n = get_or six (n - 1) 0

module _ (m : Memory) where
  -- Figure 9: the delayed AP gives AL. Figure 8: the delayed YU and YL give Y
  unfoldable pub Y : ℕ
  Y = MIX (LIMA m.ap) m.yu m.yl

  -- Figure 10: the delayed coefficients meet the delayed signals
  unfoldable pub WA1 : ℕ
  WA1 = FMULT m.a1 m.sr1

  unfoldable pub WA2 : ℕ
  WA2 = FMULT m.a2 m.sr2

  -- WB1 to WB6
  unfoldable pub WB : ℕ → ℕ
  WB n = FMULT (nth m.b n) (nth m.dq n)

  unfoldable pub predicted : Estimate
  predicted = ACCUM WA1 WA2 (WB 1) (WB 2) (WB 3) (WB 4) (WB 5) (WB 6)

  unfoldable pub SE : ℕ
  SE = predicted.se

  unfoldable pub SEZ : ℕ
  SEZ = predicted.sez

  unfoldable pub estimate_of : Estimated
  estimate_of = record { y = Y; se = SE; sez = SEZ }
