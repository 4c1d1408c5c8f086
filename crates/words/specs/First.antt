-- A table of refusals: rows of a number and a test. The first row whose test holds gives its number; where none holds it is 0.
use Rattle.std.specs.Prelude.{ℕ, Bool, List, [], ◌∷◌}
use Rattle.words.specs.Notation.{◌when◌∣◌}

abbrev pub Row : Type 0
Row = ℕ × Bool

unfoldable pub first : List Row → ℕ
first [] = 0
first ((number, test) ∷ rows) = number when test ∣ first rows
