-- The ranges of what RECONST, FUNCTW and FUNCTF give, and the column DQS of Tables 12 to 15.
-- DQLN and WI are 12-bit words in two's complement: a range from -k to m is written (x + k) % 4096 ≤ k + m.
use mathlib.Core.Path.{◌≡◌}
use mathlib.Core.Bool.{Bool, true, ◌&&◌}
use mathlib.Core.List.{List, [], ◌∷◌}
use Prim.Native.Nat.{ℕ, ◌+◌, ◌-◌, ◌%◌, ◌≤◌, ◌<◌}
use lib.Dec.{T, eqb, leb, ltb, eqb→eq, leb→le, ltb→lt}
use lib.ListN.{get_or}
use Rattle.words.specs.Notation.{◌>>◌}
use Rattle.words.proofs.Tests.{and_left, and_right}
use Rattle.lists.specs.Tabulate.{entries, tabulate}
use Rattle.quantizer.specs.Codeword.{Width, Codeword, CoreCodeword}
use Rattle.quantizer.specs.Table.{Level, level, output}
use Rattle.quantizer.specs.Output.{outputs, table12, table13, table14, table15, RECONST}
use Rattle.quantizer.specs.Multiplier.{IM_core, WI_2, WI_3, WI_4, FUNCTW, FI_2, FI_3, FI_4, FUNCTF}
use Rattle.quantizer.proofs.Columns.{column}
use Rattle.quantizer.proofs.Tests.{at_width, at_codeword, at_core}

-- x is a 12-bit word from -below to span - below
pub record Near (below span x : ℕ) : Type 0 where
  pub word : x < 4096
  pub near : (x + below) % 4096 ≤ span

abbrev nearb : ℕ → ℕ → ℕ → Bool
nearb below span x = ltb x 4096 && leb ((x + below) % 4096) span

is_near : (below span x : ℕ) → T (nearb below span x) → Near below span x
is_near below span x t =
    record {
      word = ltb→lt x 4096 (and_left (ltb x 4096) (leb ((x + below) % 4096) span) t);
      near = leb→le _ _ (and_right (ltb x 4096) (leb ((x + below) % 4096) span) t);
    }

pub reconst_signed : {w I : ℕ} → Codeword w I → (RECONST w I).dqs < 2
unfolding RECONST
reconst_signed h = ltb→lt _ _ (at_codeword (λ w I. ltb (I >> (w - 1)) 2) tt h)

-- from -264 to 456
pub reconst_near : {w I : ℕ} → Codeword w I → Near 264 720 (RECONST w I).dqln
unfolding RECONST output outputs table12 table13 table14 table15
reconst_near h = is_near 264 720 _ (at_codeword (λ w I. nearb 264 720 (output (outputs w) I)) tt h)

-- from -135 to 428
pub core_near : {w I : ℕ} → CoreCodeword w I → Near 135 563 (RECONST w I).dqln
unfolding RECONST output outputs table12 table13 table14 table15
core_near h = is_near 135 563 _ (at_core (λ w I. nearb 135 563 (output (outputs w) I)) tt h)

-- from -22 to 1,108
pub functw_near : {core I : ℕ} → CoreCodeword core I → Near 22 1130 (FUNCTW core I)
unfolding FUNCTW WI_2 WI_3 WI_4 IM_core
functw_near h = is_near 22 1130 _ (at_core (λ w I. nearb 22 1130 (FUNCTW w I)) tt h)

pub functf_small : {core I : ℕ} → CoreCodeword core I → FUNCTF core I ≤ 7
unfolding FUNCTF FI_2 FI_3 FI_4 IM_core
functf_small h = leb→le _ _ (at_core (λ w I. leb (FUNCTF w I) 7) tt h)

-- the levels of the sign 0 are those of both signs, read by magnitude
pub column_is : (v : ℕ) {w I m : ℕ} → Codeword w I → w ≡ v → m ≡ IM_core w I → get_or (column v) m 0 ≡ output (outputs w) I
unfolding column entries tabulate IM_core output outputs table12 table13 table14 table15
column_is v h e is =
    rw (is, ← e)
    (eqb→eq _ _ (at_codeword (λ w I. eqb (get_or (column w) (IM_core w I) 0) (output (outputs w) I)) tt h))

-- each row's DQS is the sign of its I
unfoldable pub signed_by : ℕ → List Level → Bool
signed_by w [] = true
signed_by w (level I DQS DQLN ∷ rows) = eqb DQS (I >> (w - 1)) && signed_by w rows

pub outputs_signed : {w : ℕ} → Width w → T (signed_by w (outputs w))
unfolding signed_by outputs table12 table13 table14 table15
outputs_signed h = at_width (λ w. signed_by w (outputs w)) tt h
