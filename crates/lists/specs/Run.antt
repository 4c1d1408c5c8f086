-- A step run over a list of inputs, whatever its state and its inputs are: the state at the end, what it puts out on the way, and the
-- sum of a count that it keeps.
use Rattle.std.specs.Prelude.{List, [], ◌∷◌, ℕ, ◌+◌}

module _ {S A : Type 0} (next : S → A → S) where
  -- the state after the last input
  unfoldable pub last : S → List A → S
  last s [] = s
  last s (a ∷ xs) = last (next s a) xs

  -- an output for each input, from the state that the input meets
  unfoldable pub outs : {B : Type 0} → (S → A → B) → S → List A → List B
  outs f s [] = []
  outs f s (a ∷ xs) = f s a ∷ outs f (next s a) xs

  -- the sum of a number for each input
  unfoldable pub total : (S → A → ℕ) → S → List A → ℕ
  total f s [] = 0
  total f s (a ∷ xs) = f s a + total f (next s a) xs
