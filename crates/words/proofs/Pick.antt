-- What holds of each row of a brace where its condition holds, holds of the brace.
use Rattle.std.proofs.Common.{◌≡◌, ℕ, ◌<◌, ◌≤◌, Bool, true, false, refl, arith}
use Rattle.words.specs.Notation.{pick}

pub by_pick : {A : Type 0} (P : A → Type 0) (t : Bool) (a b : A) → (t ≡ true → P a) → (t ≡ false → P b) → P (pick t a b)
by_pick P true a b p q = p refl
by_pick P false a b p q = q refl

-- a test comes out one way or the other
pub cases : {P : Type 0} (t : Bool) → (t ≡ true → P) → (t ≡ false → P) → P
cases true p q = p refl
cases false p q = q refl

pub pick_le : (t : Bool) {a b n : ℕ} → a ≤ n → b ≤ n → pick t a b ≤ n
pick_le t {a} {b} {n} p q = by_pick (λ (x : ℕ). x ≤ n) t a b (λ e. p) (λ e. q)

pub pick_lt : (t : Bool) {a b n : ℕ} → a < n → b < n → pick t a b < n
pick_lt t {a} {b} {n} p q = by_pick (λ (x : ℕ). x < n) t a b (λ e. p) (λ e. q)

-- a brace whose rows are 1 and 0 is a bit
pub bit : (t : Bool) → pick t 1 0 < 2
bit t = pick_lt t (omega arith) (omega arith)
