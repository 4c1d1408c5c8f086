-- FUNCTW and FUNCTF as the code holds them: for each core the values from IM = 0 upwards. Each is a test of every core codeword.
use mathlib.Core.Path.{◌≡◌}
use mathlib.Core.List.{List, [], ◌∷◌}
use Prim.Native.Nat.{ℕ}
use lib.Dec.{eqb, eqb→eq}
use lib.ListN.{get_or}
use Rattle.words.specs.Notation.{pick}
use Rattle.quantizer.specs.Codeword.{CoreCodeword}
use Rattle.quantizer.specs.Multiplier.{IM_core, WI_2, WI_3, WI_4, FUNCTW, FI_2, FI_3, FI_4, FUNCTF}
use Rattle.quantizer.proofs.Tests.{at_core}

abbrev pub multipliers : ℕ → List ℕ
multipliers C =
    pick (eqb C 2) (4074 ∷ 439 ∷ [])
    (pick (eqb C 3) (4092 ∷ 30 ∷ 137 ∷ 582 ∷ [])
    (4084 ∷ 4 ∷ 27 ∷ 50 ∷ 98 ∷ 184 ∷ 340 ∷ 1108 ∷ []))

abbrev pub speeds : ℕ → List ℕ
speeds C =
    pick (eqb C 2) (0 ∷ 7 ∷ [])
    (pick (eqb C 3) (0 ∷ 1 ∷ 2 ∷ 7 ∷ [])
    (0 ∷ 0 ∷ 0 ∷ 1 ∷ 1 ∷ 1 ∷ 3 ∷ 7 ∷ []))

module _ {C I : ℕ} (h : CoreCodeword C I) where
  pub functw_is : get_or (multipliers C) (IM_core C I) 0 ≡ FUNCTW C I
  unfolding FUNCTW WI_2 WI_3 WI_4 IM_core
  functw_is = eqb→eq _ _ (at_core (λ C I. eqb (get_or (multipliers C) (IM_core C I) 0) (FUNCTW C I)) tt h)

  pub functf_is : get_or (speeds C) (IM_core C I) 0 ≡ FUNCTF C I
  unfolding FUNCTF FI_2 FI_3 FI_4 IM_core
  functf_is = eqb→eq _ _ (at_core (λ C I. eqb (get_or (speeds C) (IM_core C I) 0) (FUNCTF C I)) tt h)
