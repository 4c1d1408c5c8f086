-- The text that the writer makes of values (docs/RULES.md, "The text of a sequence"): capitals, 32 values to a line except the last of them, then the
-- remainder's line.
use Rattle.std.specs.Prelude.{ℕ, zero, suc, ◌+◌, ◌-◌, ◌/◌, ◌%◌, List, [], ◌∷◌, ◌++◌, length, take, drop, nat_lt}
use Rattle.words.specs.Notation.{◌when◌∣◌}
use Rattle.sequence.specs.Limits.{line_feed, most_values}
use Rattle.sequence.specs.Text.{remainder}

-- "in capitals"
unfoldable pub capital : ℕ → ℕ
capital d = 48 + d when nat_lt d 10 ∣ 55 + d

-- values, two digits each, and a line feed
unfoldable pub line_of : List ℕ → List ℕ
line_of [] = line_feed ∷ []
line_of (v ∷ vs) = capital (v / 16) ∷ capital (v % 16) ∷ line_of vs

-- n lines
unfoldable pub rows : ℕ → List ℕ → List ℕ
rows zero vs = []
rows (suc n) vs = line_of (take most_values vs) ++ rows n (drop most_values vs)

unfoldable pub text_of : List ℕ → List ℕ
text_of vs = rows ((length vs + (most_values - 1)) / most_values) vs ++ line_of (remainder vs ∷ [])
