-- How a text falls into the parts between its marks.
use Rattle.std.specs.Prelude.{◌≡◌, ℕ, Option, Some, None, IsSomeAnd, MatchOption, Contains, List, ◌∷◌, ◌++◌}

-- of what is left, the part before the first mark, and what is left behind that mark; the last part has no mark behind it
abbrev pub IsPart : ℕ → Option (List ℕ) → Option (List ℕ) → Option (List ℕ) → Type 0
IsPart mark None part left = (part ≡ None) × (left ≡ None)
IsPart mark (Some text) part left = IsSomeAnd part (λ p. (¬ Contains p mark) × MatchOption left (text ≡ p) (λ behind. text ≡ p ++ (mark ∷ behind)))
