-- Tests that antt computes, over the numbers of a list, the widths and their codewords (words/proofs/Tests.antt has those over a span);
-- each with the law that turns it into a fact.
use mathlib.Core.Path.{sym, subst}
use mathlib.Core.Bool.{Bool, true, false, not, ◌&&◌, ◌||◌}
use mathlib.Core.List.{List, [], ◌∷◌}
use Prim.Native.Nat.{ℕ, ◌+◌, ◌^◌, ◌≤◌, ◌<◌}
use native.Mathlib.Omega.{arith}
use lib.Dec.{T, eqb, leb, eqb→eq, leb→le}
use Rattle.words.proofs.Tests.{and_left, and_right, span, span_at, below_at}
use Rattle.quantizer.specs.Codeword.{Width, Codeword, CoreCodeword}

pub or_cases : {A : Type 0} (a b : Bool) → (T a → A) → (T b → A) → T (a || b) → A
or_cases true b f g t = f tt
or_cases false b f g t = g t

pub test_cases : {A : Type 0} (a : Bool) → (T a → A) → (T (not a) → A) → A
test_cases true f g = f tt
test_cases false f g = g tt

abbrev pub all : (ℕ → Bool) → List ℕ → Bool
all p [] = true
all p (x ∷ xs) = p x && all p xs

abbrev pub has : ℕ → List ℕ → Bool
has k [] = false
has k (x ∷ xs) = eqb k x || has k xs

pub all_at : (p : ℕ → Bool) (k : ℕ) (xs : List ℕ) → T (all p xs) → T (has k xs) → T (p k)
all_at p k [] t e = absurd e
all_at p k (x ∷ xs) t e =
    or_cases (eqb k x) (has k xs) (λ u. subst (λ (m : ℕ). T (p m)) (sym (eqb→eq k x u)) (and_left (p x) (all p xs) t))
    (λ u. all_at p k xs (and_right (p x) (all p xs) t) u)
    e

-- p of each width
abbrev pub widths : (ℕ → Bool) → Bool
widths p = span 2 4 p

pub at_width : (p : ℕ → Bool) → T (widths p) → {w : ℕ} → Width w → T (p w)
at_width p t {w} h = span_at p 4 2 w t h.least (omega arith)

pub width : (w : ℕ) → T (leb 2 w && leb w 5) → Width w
width w t =
    record { least = leb→le 2 w (and_left (leb 2 w) (leb w 5) t); most = leb→le w 5 (and_right (leb 2 w) (leb w 5) t) }

-- p of each codeword of n widths, from 2 on
abbrev pub codewords : ℕ → (ℕ → ℕ → Bool) → Bool
codewords n p = span 2 n (λ w. span 0 (2 ^ w) (p w))

at_width_and_codeword : (n : ℕ) (p : ℕ → ℕ → Bool) → T (codewords n p) → {w I : ℕ} → 2 ≤ w → w < 2 + n → I < 2 ^ w → T (p w I)
at_width_and_codeword n p t {w} {I} least most short =
    below_at (p w) (2 ^ w) I (span_at (λ w. span 0 (2 ^ w) (p w)) n 2 w t least most) short

pub at_codeword : (p : ℕ → ℕ → Bool) → T (codewords 4 p) → {w I : ℕ} → Codeword w I → T (p w I)
at_codeword p t h = at_width_and_codeword 4 p t h.least (omega arith) h.short

pub at_core : (p : ℕ → ℕ → Bool) → T (codewords 3 p) → {w I : ℕ} → CoreCodeword w I → T (p w I)
at_core p t h = at_width_and_codeword 3 p t h.least (omega arith) h.short
