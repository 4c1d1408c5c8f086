-- Tests that antt computes, over the numbers from one to another, each with the law that turns it into a fact; and the two sides of a
-- conjunction.
use Rattle.std.proofs.Common.{◌≡◌, ℕ, zero, suc, ◌+◌, ◌<◌, ◌≤◌, Bool, true, false, ◌&&◌, T, refl, subst, zero-le, arith}
use native.Mathlib.Decide.{dec_le}

pub and_left : (a b : Bool) → T (a && b) → T a
and_left true b t = tt
and_left false b t = t

pub and_right : (a b : Bool) → T (a && b) → T b
and_right true b t = t
and_right false b t = absurd t

pub is_true : (a : Bool) → T a → a ≡ true
is_true true t = refl
is_true false t = absurd t

-- p at `low` and the numbers above it, n in all
abbrev pub span : ℕ → ℕ → (ℕ → Bool) → Bool
span low zero p = true
span low (suc n) p = p low && span (suc low) n p

module _ (p : ℕ → Bool) where
  first_or_later : {low k : ℕ} → low ≤ k → T (p low) → (suc low ≤ k → T (p k)) → Dec (suc low ≤ k) → T (p k)
  first_or_later h first later (yes d) = later d
  first_or_later {low} {k} h first later (no d) =
      let same : low ≡ k = omega arith in
      subst (λ (m : ℕ). T (p m)) same first

  pub span_at : (n low k : ℕ) → T (span low n p) → low ≤ k → k < low + n → T (p k)
  span_at zero low k t h l = absurd (omega arith)
  span_at (suc n) low k t h l =
      first_or_later h (and_left (p low) (span (suc low) n p) t)
      (λ d. span_at n (suc low) k (and_right (p low) (span (suc low) n p) t) d (omega arith))
      (dec_le (suc low) k)

  pub below_at : (n k : ℕ) → T (span 0 n p) → k < n → T (p k)
  below_at n k t l = span_at n 0 k t zero-le (omega arith)
