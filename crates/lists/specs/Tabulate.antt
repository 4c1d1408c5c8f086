-- The list of f 0, f 1, .. f (n - 1).
use Rattle.std.specs.Prelude.{List, [], ◌∷◌, ℕ, zero, suc}

module _ {A : Type 0} where
  -- n entries from i on
  unfoldable pub entries : (ℕ → A) → ℕ → ℕ → List A
  entries f i zero = []
  entries f i (suc n) = f i ∷ entries f (suc i) n

  unfoldable pub tabulate : ℕ → (ℕ → A) → List A
  tabulate n f = entries f 0 n
