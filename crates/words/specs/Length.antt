-- The exponent tables of LOG, FLOATA, FLOATB and FMULT, which are one table: its rows stand at the powers of two.
-- LOG's EXP is one less than the others', and all four have 0 in their lowest row.
use Rattle.std.specs.Prelude.{ℕ, zero, suc, ◌^◌, nat_le}
use Rattle.words.specs.Notation.{◌when◌∣◌}

-- the rows from k down: "k, 2 ^ (k - 1) ≤ m", and so on to "1, m = 1" and "0, m = 0"
unfoldable pub rows : ℕ → ℕ → ℕ
rows zero m = 0
rows (suc k) m = suc k when nat_le (2 ^ k) m ∣ rows k m

-- the number of bits of a 16-bit magnitude, its leading zeros left out
unfoldable pub bit_length : ℕ → ℕ
bit_length m = rows 16 m
