-- A rule of both laws of companding, proved at every number below a bound by one test that antt computes, one number after the other.
-- LAW 0 is mu-law, and every other LAW reads as A-law, which is tested at LAW 1.
use mathlib.Core.Path.{◌≡◌, subst, sym}
use mathlib.Core.Bool.{Bool}
use Prim.Native.Nat.{ℕ, zero, suc, ◌≤◌, ◌<◌}
use lib.Dec.{T, eqb, leb, eqb→eq, leb→le}
use Rattle.words.proofs.Tests.{span, below_at}

module _ (f : ℕ → ℕ → Bool) where
  pub both : ((i l : ℕ) → f i (suc l) ≡ f i 1) → (n : ℕ) → T (span 0 n (λ i. f i 0)) → T (span 0 n (λ i. f i 1))
      → (k LAW : ℕ) → k < n → T (f k LAW)
  both one n mu a k zero h = below_at (λ i. f i 0) n k mu h
  both one n mu a k (suc l) h = subst T (sym (one k l)) (below_at (λ i. f i 1) n k a h)

module _ (f g : ℕ → ℕ → ℕ) where
  abbrev pub equal : ℕ → ℕ → Bool
  equal k LAW = eqb (f k LAW) (g k LAW)

  abbrev pub ordered : ℕ → ℕ → Bool
  ordered k LAW = leb (f k LAW) (g k LAW)

  pub agree : ((i l : ℕ) → equal i (suc l) ≡ equal i 1) → (n : ℕ) → T (span 0 n (λ i. equal i 0)) → T (span 0 n (λ i. equal i 1))
      → (k LAW : ℕ) → k < n → f k LAW ≡ g k LAW
  agree one n mu a k LAW h = eqb→eq (f k LAW) (g k LAW) (both equal one n mu a k LAW h)

  pub bounded : ((i l : ℕ) → ordered i (suc l) ≡ ordered i 1) → (n : ℕ) → T (span 0 n (λ i. ordered i 0)) → T (span 0 n (λ i. ordered i 1))
      → (k LAW : ℕ) → k < n → f k LAW ≤ g k LAW
  bounded one n mu a k LAW h = leb→le (f k LAW) (g k LAW) (both ordered one n mu a k LAW h)
