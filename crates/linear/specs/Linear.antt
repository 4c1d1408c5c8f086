-- Linear samples: signed numbers of 16 bits, on the scale of the levels that EXPAND gives. An encoder takes those from -8,192 to 8,191, which 14 bits
-- hold; a decoder gives the reconstructed signal SR, held to them.
use Rattle.std.specs.Prelude.{Bool, ◌&&◌, ℕ, ◌-◌, ◌^◌, ltb, ℤ, pos, negsuc, neg_ℤ}
use Rattle.std.specs.Int.Signed.{le_z, lt_z}
use Rattle.words.specs.Notation.{◌when◌∣◌}

abbrev pub lowest : ℤ
lowest = neg_ℤ (pos 8192)

abbrev pub highest : ℤ
highest = pos 8191

unfoldable pub is_level : ℤ → Bool
is_level x = le_z lowest x && le_z x highest

-- the level as the encoder takes it: SL, 14 bits, two's complement; negsuc n is -(n + 1)
unfoldable pub SL : ℤ → ℕ
SL (pos n) = n
SL (negsuc n) = 16383 - n

-- a word of so many bits, two's complement, read as signed
unfoldable pub signed : ℕ → ℕ → ℤ
signed bits W = pos W when ltb W (2 ^ (bits - 1)) ∣ negsuc (2 ^ bits - 1 - W)

-- a number held to the levels
unfoldable pub held : ℤ → ℤ
held x = lowest when lt_z x lowest ∣ highest when lt_z highest x ∣ x
