-- The code's form of Tables 8 to 11: a codeword is the number of thresholds that the value has reached, or its complement
-- (G.727, section 6.2.2; specs/Threshold.antt).
use mathlib.Core.Path.{◌≡◌, refl, sym, ◌∙◌}
use mathlib.Core.Bool.{Bool, cond, ◌&&◌}
use mathlib.Core.List.{List, [], ◌∷◌}
use Prim.Native.Nat.{ℕ, suc, ◌≤◌, ◌<◌}
use native.Mathlib.Omega.{arith}
use lib.ListN.{length}
use Rattle.std.proofs.lemmas.List.Sums.{sum_by-cons, count_by-le-length}
use lib.Dec.{T, leb, ltb, ltb→lt}
use Rattle.words.proofs.Tests.{and_left, and_right}
use Rattle.quantizer.specs.Decision.{table11}
use Rattle.quantizer.specs.Threshold.{offset, reached, coded}
use Rattle.quantizer.proofs.Tests.{has, all}
use Rattle.quantizer.proofs.Bounds.{bounds, leasts, Free, apart, same_test}

-- a word at which a row begins
abbrev pub is_threshold : ℕ → Bool
is_threshold x = has x bounds && ltb x 4096

module _ {n : ℕ} (f : Free n) where
  offset_steady : (x : ℕ) → T (is_threshold x) → leb (offset x) (offset n) ≡ leb (offset x) (offset (suc n))
  unfolding bounds leasts table11
  offset_steady x t =
      let word : x < 4096 = ltb→lt x 4096 (and_right (has x bounds) (ltb x 4096) t) in
      let off : x ≡ suc n → ⊥ = apart (and_left (has x bounds) (ltb x 4096) t) f in
      let negative : 2048 ≡ suc n → ⊥ = apart tt f in
      same_test {a = offset x} {b = offset n} {c = offset x} {d = offset (suc n)} (λ h. omega arith) (λ h. omega arith)

  reached_steady : (xs : List ℕ) → T (all is_threshold xs) → reached xs n ≡ reached xs (suc n)
  reached_steady [] t = refl
  reached_steady (x ∷ xs) t =
      sum_by-cons (λ level. cond (leb (offset level) (offset n)) 1 0) x xs
      ∙ (rw (offset_steady x (and_left (is_threshold x) (all is_threshold xs) t), reached_steady xs (and_right (is_threshold x) (all is_threshold xs) t)))
      ∙ sym (sum_by-cons (λ level. cond (leb (offset level) (offset (suc n))) 1 0) x xs)

  pub coded_steady : (xs : List ℕ) (s : ℕ) → T (all is_threshold xs) → coded xs n s ≡ coded xs (suc n) s
  unfolding coded
  coded_steady xs s t = rw (reached_steady xs t)

pub reached_within : (xs : List ℕ) (n : ℕ) → reached xs n ≤ length xs
reached_within xs n = count_by-le-length _ xs
