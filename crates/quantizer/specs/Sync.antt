-- G.727, section 6.2.10, SYNC: the order of codewords. IM is the place of the received codeword among the levels, the most negative
-- level first; ID is the place of the level that the re-encoded difference falls into. Tables 17 to 20, row by row and digit for digit.
use Rattle.std.specs.Prelude.{List, [], ◌∷◌, ℕ, ◌+◌, ◌-◌, ◌^◌, ◌%◌, eqb}
use Rattle.words.specs.Notation.{◌when◌∣◌, ◌>>◌}
use Rattle.quantizer.specs.Table.{Range, row, find}

-- IM: I + 2, 4, 8 or 16 where the sign IS is 0, else I & 1, 3, 7 or 15
unfoldable pub IM : ℕ → ℕ → ℕ
IM width I =
    let IS = I >> (width - 1) in
    I + 2 ^ (width - 1) when eqb IS 0 ∣ I % 2 ^ (width - 1)

-- Table 17/G.727: ID for E + C = 2
unfoldable pub table17 : List Range
table17 =
    row 0 261 2047 3 ∷
    row 0 0 260 2 ∷
    row 0 2048 4095 2 ∷
    row 1 2048 4095 1 ∷
    row 1 0 260 1 ∷
    row 1 261 2047 0 ∷
    []

-- Table 18/G.727: ID for E + C = 3
unfoldable pub table18 : List Range
table18 =
    row 0 356 2047 7 ∷
    row 0 261 355 6 ∷
    row 0 123 260 5 ∷
    row 0 0 122 4 ∷
    row 0 2048 4095 4 ∷
    row 1 2048 4095 3 ∷
    row 1 0 122 3 ∷
    row 1 123 260 2 ∷
    row 1 261 355 1 ∷
    row 1 356 2047 0 ∷
    []

-- Table 19/G.727: ID for E + C = 4
unfoldable pub table19 : List Range
table19 =
    row 0 405 2047 15 ∷
    row 0 356 404 14 ∷
    row 0 310 355 13 ∷
    row 0 261 309 12 ∷
    row 0 202 260 11 ∷
    row 0 123 201 10 ∷
    row 0 0 122 9 ∷
    row 0 4089 4095 9 ∷
    row 0 2048 4088 8 ∷
    row 1 2048 4088 7 ∷
    row 1 4089 4095 6 ∷
    row 1 0 122 6 ∷
    row 1 123 201 5 ∷
    row 1 202 260 4 ∷
    row 1 261 309 3 ∷
    row 1 310 355 2 ∷
    row 1 356 404 1 ∷
    row 1 405 2047 0 ∷
    []

-- Table 20/G.727: ID for E + C = 5
unfoldable pub table20 : List Range
table20 =
    row 0 439 2047 31 ∷
    row 0 405 438 30 ∷
    row 0 380 404 29 ∷
    row 0 356 379 28 ∷
    row 0 333 355 27 ∷
    row 0 310 332 26 ∷
    row 0 286 309 25 ∷
    row 0 261 285 24 ∷
    row 0 233 260 23 ∷
    row 0 202 232 22 ∷
    row 0 166 201 21 ∷
    row 0 123 165 20 ∷
    row 0 69 122 19 ∷
    row 0 0 68 18 ∷
    row 0 4089 4095 18 ∷
    row 0 3961 4088 17 ∷
    row 0 2048 3960 16 ∷
    row 1 2048 3960 15 ∷
    row 1 3961 4088 14 ∷
    row 1 4089 4095 13 ∷
    row 1 0 68 13 ∷
    row 1 69 122 12 ∷
    row 1 123 165 11 ∷
    row 1 166 201 10 ∷
    row 1 202 232 9 ∷
    row 1 233 260 8 ∷
    row 1 261 285 7 ∷
    row 1 286 309 6 ∷
    row 1 310 332 5 ∷
    row 1 333 355 4 ∷
    row 1 356 379 3 ∷
    row 1 380 404 2 ∷
    row 1 405 438 1 ∷
    row 1 439 2047 0 ∷
    []

-- the table of a width, which is 2, 3, 4 or 5
unfoldable pub places : ℕ → List Range
places width = table17 when eqb width 2 ∣ table18 when eqb width 3 ∣ table19 when eqb width 4 ∣ table20

unfoldable pub ID : ℕ → ℕ → ℕ → ℕ
ID width DLNX DSX = find (places width) DSX DLNX
