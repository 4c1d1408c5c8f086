-- Hexadecimal digits as characters, in either case of letter.
use Rattle.std.specs.Prelude.{ℕ, ◌-◌, Bool, nat_lt}
use Rattle.words.specs.Notation.{◌when◌∣◌}
use Rattle.words.specs.Within.{within}

-- "Both cases of letter are read": 0 to 9, A to F, a to f; 16 where a character is none of these
unfoldable pub digit_of : ℕ → ℕ
digit_of c = c - 48 when within 48 57 c ∣ c - 55 when within 65 70 c ∣ c - 87 when within 97 102 c ∣ 16

abbrev pub is_digit : ℕ → Bool
is_digit c = nat_lt (digit_of c) 16

-- the capital of a letter from a to f, and every other character as it is
abbrev pub upper : ℕ → ℕ
upper c = c - 32 when within 97 102 c ∣ c
