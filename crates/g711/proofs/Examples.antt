-- What the Recommendation shows by example near the origin, Tables 16 and 21/G.727, follows from the definitions.
use mathlib.Core.Path.{◌≡◌, refl}
use mathlib.Core.List.{[], ◌∷◌, ◌++◌, map}
use Rattle.g711.specs.G711.{decisions_mu, decisions_A}
use Rattle.g711.specs.Compress.{reached, level_of, COMPRESS}
use Rattle.g711.specs.Neighbour.{above, above_mu, above_T, below, below_mu, below_T}

-- Table 16, the rows with IS = 0 and then those with IS = 1. For A-law SR is twice IMAG, for mu-law it is IMAG
pub table_16_A : map (λ SR. COMPRESS SR 1) (6 ∷ 4 ∷ 2 ∷ 0 ∷ 65534 ∷ 65532 ∷ 65530 ∷ [])
    ≡ 0b11010100 ∷ 0b11010100 ∷ 0b11010101 ∷ 0b11010101 ∷ 0b01010101 ∷ 0b01010101 ∷ 0b01010100 ∷ []
unfolding COMPRESS level_of reached decisions_mu decisions_A
table_16_A = refl

pub table_16_mu : map (λ SR. COMPRESS SR 0) (3 ∷ 2 ∷ 1 ∷ 0 ∷ 65535 ∷ 65534 ∷ 65533 ∷ [])
    ≡ 0b11111101 ∷ 0b11111110 ∷ 0b11111110 ∷ 0b11111111 ∷ 0b01111110 ∷ 0b01111110 ∷ 0b01111101 ∷ []
unfolding COMPRESS level_of reached decisions_mu decisions_A
table_16_mu = refl

-- Table 21, the rows with ID < IM, where SD is SP+, and then those with ID > IM, where it is SP-
pub table_21_A :
    map (λ SP. above SP 1) (0b11010101 ∷ 0b01010101 ∷ 0b01010100 ∷ []) ++ map (λ SP. below SP 1) (0b11010101 ∷ 0b01010101 ∷ 0b01010100 ∷ [])
    ≡ 0b11010100 ∷ 0b11010101 ∷ 0b01010101 ∷ 0b01010101 ∷ 0b01010100 ∷ 0b01010111 ∷ []
unfolding above above_mu above_T below below_mu below_T
table_21_A = refl

pub table_21_mu :
    map (λ SP. above SP 0) (0b11111110 ∷ 0b11111111 ∷ 0b01111110 ∷ []) ++ map (λ SP. below SP 0) (0b11111110 ∷ 0b11111111 ∷ 0b01111110 ∷ [])
    ≡ 0b11111101 ∷ 0b11111110 ∷ 0b01111111 ∷ 0b11111111 ∷ 0b01111110 ∷ 0b01111101 ∷ []
unfolding above above_mu above_T below below_mu below_T
table_21_mu = refl

-- neither of mu-law's zeros steps to the other, and A-law's two levels about zero are next to each other
pub zeros : below 0xFF 0 ∷ above 0x7F 0 ∷ below 0xD5 1 ∷ above 0x55 1 ∷ [] ≡ 0x7E ∷ 0xFE ∷ 0x55 ∷ 0xD5 ∷ []
unfolding above above_mu above_T below below_mu below_T
zeros = refl
