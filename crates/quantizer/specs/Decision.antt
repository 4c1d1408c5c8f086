-- G.727, section 6.2.2: QUAN. Tables 8 to 11, row by row and digit for digit: DS, the range of DLN, and I.
use Rattle.std.specs.Prelude.{List, [], ◌∷◌, ℕ, eqb}
use Rattle.words.specs.Notation.{◌when◌∣◌}
use Rattle.quantizer.specs.Table.{Range, row, find}

-- Table 8/G.727: 16 kbit/s
unfoldable pub table8 : List Range
table8 =
    row 0 261 2047 0b01 ∷
    row 0 0 260 0b00 ∷
    row 0 2048 4095 0b00 ∷
    row 1 2048 4095 0b11 ∷
    row 1 0 260 0b11 ∷
    row 1 261 2047 0b10 ∷
    []

-- Table 9/G.727: 24 kbit/s
unfoldable pub table9 : List Range
table9 =
    row 0 356 2047 0b011 ∷
    row 0 261 355 0b010 ∷
    row 0 123 260 0b001 ∷
    row 0 0 122 0b000 ∷
    row 0 2048 4095 0b000 ∷
    row 1 2048 4095 0b111 ∷
    row 1 0 122 0b111 ∷
    row 1 123 260 0b110 ∷
    row 1 261 355 0b101 ∷
    row 1 356 2047 0b100 ∷
    []

-- Table 10/G.727: 32 kbit/s
unfoldable pub table10 : List Range
table10 =
    row 0 405 2047 0b0111 ∷
    row 0 356 404 0b0110 ∷
    row 0 310 355 0b0101 ∷
    row 0 261 309 0b0100 ∷
    row 0 202 260 0b0011 ∷
    row 0 123 201 0b0010 ∷
    row 0 0 122 0b0001 ∷
    row 0 4089 4095 0b0001 ∷
    row 0 2048 4088 0b0000 ∷
    row 1 2048 4088 0b1111 ∷
    row 1 4089 4095 0b1110 ∷
    row 1 0 122 0b1110 ∷
    row 1 123 201 0b1101 ∷
    row 1 202 260 0b1100 ∷
    row 1 261 309 0b1011 ∷
    row 1 310 355 0b1010 ∷
    row 1 356 404 0b1001 ∷
    row 1 405 2047 0b1000 ∷
    []

-- Table 11/G.727: 40 kbit/s
unfoldable pub table11 : List Range
table11 =
    row 0 439 2047 0b01111 ∷
    row 0 405 438 0b01110 ∷
    row 0 380 404 0b01101 ∷
    row 0 356 379 0b01100 ∷
    row 0 333 355 0b01011 ∷
    row 0 310 332 0b01010 ∷
    row 0 286 309 0b01001 ∷
    row 0 261 285 0b01000 ∷
    row 0 233 260 0b00111 ∷
    row 0 202 232 0b00110 ∷
    row 0 166 201 0b00101 ∷
    row 0 123 165 0b00100 ∷
    row 0 69 122 0b00011 ∷
    row 0 0 68 0b00010 ∷
    row 0 4089 4095 0b00010 ∷
    row 0 3961 4088 0b00001 ∷
    row 0 2048 3960 0b00000 ∷
    row 1 2048 3960 0b11111 ∷
    row 1 3961 4088 0b11110 ∷
    row 1 4089 4095 0b11101 ∷
    row 1 0 68 0b11101 ∷
    row 1 69 122 0b11100 ∷
    row 1 123 165 0b11011 ∷
    row 1 166 201 0b11010 ∷
    row 1 202 232 0b11001 ∷
    row 1 233 260 0b11000 ∷
    row 1 261 285 0b10111 ∷
    row 1 286 309 0b10110 ∷
    row 1 310 332 0b10101 ∷
    row 1 333 355 0b10100 ∷
    row 1 356 379 0b10011 ∷
    row 1 380 404 0b10010 ∷
    row 1 405 438 0b10001 ∷
    row 1 439 2047 0b10000 ∷
    []

-- the table of a width, which is 2, 3, 4 or 5
unfoldable pub decisions : ℕ → List Range
decisions width = table8 when eqb width 2 ∣ table9 when eqb width 3 ∣ table10 when eqb width 4 ∣ table11

-- "Quantize difference signal in logarithmic domain": I
unfoldable pub QUAN : ℕ → ℕ → ℕ → ℕ
QUAN width DLN DS = find (decisions width) DS DLN
