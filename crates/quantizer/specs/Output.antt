-- G.727, section 6.2.4: RECONST. Tables 12 to 15, row by row and digit for digit: I, DQS and DQLN.
use Rattle.std.specs.Prelude.{List, [], ◌∷◌, ℕ, ◌-◌, eqb}
use Rattle.words.specs.Notation.{◌when◌∣◌, ◌>>◌}
use Rattle.quantizer.specs.declared.Quantized.{Quantized}
use Rattle.quantizer.specs.Table.{Level, level, output}

-- Table 12/G.727: 16 kbit/s
unfoldable pub table12 : List Level
table12 =
    level 0b01 0 365 ∷
    level 0b00 0 116 ∷
    level 0b11 1 116 ∷
    level 0b10 1 365 ∷
    []

-- Table 13/G.727: 24 kbit/s
unfoldable pub table13 : List Level
table13 =
    level 0b011 0 395 ∷
    level 0b010 0 307 ∷
    level 0b001 0 199 ∷
    level 0b000 0 4085 ∷
    level 0b111 1 4085 ∷
    level 0b110 1 199 ∷
    level 0b101 1 307 ∷
    level 0b100 1 395 ∷
    []

-- Table 14/G.727: 32 kbit/s
unfoldable pub table14 : List Level
table14 =
    level 0b0111 0 428 ∷
    level 0b0110 0 377 ∷
    level 0b0101 0 332 ∷
    level 0b0100 0 285 ∷
    level 0b0011 0 232 ∷
    level 0b0010 0 165 ∷
    level 0b0001 0 68 ∷
    level 0b0000 0 3961 ∷
    level 0b1111 1 3961 ∷
    level 0b1110 1 68 ∷
    level 0b1101 1 165 ∷
    level 0b1100 1 232 ∷
    level 0b1011 1 285 ∷
    level 0b1010 1 332 ∷
    level 0b1001 1 377 ∷
    level 0b1000 1 428 ∷
    []

-- Table 15/G.727: 40 kbit/s
unfoldable pub table15 : List Level
table15 =
    level 0b01111 0 456 ∷
    level 0b01110 0 419 ∷
    level 0b01101 0 391 ∷
    level 0b01100 0 367 ∷
    level 0b01011 0 344 ∷
    level 0b01010 0 321 ∷
    level 0b01001 0 298 ∷
    level 0b01000 0 273 ∷
    level 0b00111 0 246 ∷
    level 0b00110 0 217 ∷
    level 0b00101 0 184 ∷
    level 0b00100 0 145 ∷
    level 0b00011 0 97 ∷
    level 0b00010 0 34 ∷
    level 0b00001 0 4035 ∷
    level 0b00000 0 3832 ∷
    level 0b11111 1 3832 ∷
    level 0b11110 1 4035 ∷
    level 0b11101 1 34 ∷
    level 0b11100 1 97 ∷
    level 0b11011 1 145 ∷
    level 0b11010 1 184 ∷
    level 0b11001 1 217 ∷
    level 0b11000 1 246 ∷
    level 0b10111 1 273 ∷
    level 0b10110 1 298 ∷
    level 0b10101 1 321 ∷
    level 0b10100 1 344 ∷
    level 0b10011 1 367 ∷
    level 0b10010 1 391 ∷
    level 0b10001 1 419 ∷
    level 0b10000 1 456 ∷
    []

-- the table of a width, which is 2, 3, 4 or 5
unfoldable pub outputs : ℕ → List Level
outputs width = table12 when eqb width 2 ∣ table13 when eqb width 3 ∣ table14 when eqb width 4 ∣ table15

-- "Reconstruction of quantized difference signal in the logarithmic domain": DQS = I >> (width - 1), and DQLN.
-- The width is the core's on the feedback path and the received codeword's on the output path
unfoldable pub RECONST : ℕ → ℕ → Quantized
RECONST width I = record { dqs = I >> (width - 1); dqln = output (outputs width) I }
