-- The numbers of a text's layout, each named once.
use Rattle.std.specs.Prelude.{ℕ, ◌+◌, ◌*◌, ◌%◌, Bool, ◌&&◌, ◌==◌, nat_le}

abbrev pub line_feed : ℕ
line_feed = 10

-- "up to 32 values a line", two characters each
abbrev pub most_values : ℕ
most_values = 32

abbrev pub longest : ℕ
longest = 2 * most_values

-- "the sum of all values modulo 255"
abbrev pub modulus : ℕ
modulus = 255

-- such a sum, with one value more
abbrev pub added : ℕ → ℕ → ℕ
added sum v = (sum + v) % modulus

-- so many characters of a line are whole values, and not none
abbrev pub is_whole : ℕ → Bool
is_whole n = n % 2 == 0 && nat_le 2 n
