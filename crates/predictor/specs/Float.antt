-- G.727, section 6.2.7: FLOATA, FLOATB and FMULT. A signal is kept as an 11-bit float word, a sign, 4 exponent bits and 6 mantissa bits;
-- a coefficient is a 16-bit two's complement word with 14 bits behind the point. DQ's sign stands at place s, as in Sums.antt.
use Rattle.std.specs.Prelude.{ℕ, ◌+◌, ◌-◌, ◌*◌, ◌^◌, ◌%◌, ◌≤◌, ◌<◌, eqb, leb}
use Rattle.words.specs.Notation.{◌when◌∣◌, ◌<<◌, ◌>>◌, ◌**◌}
use Rattle.words.specs.Length.{bit_length}

-- EXP, part of FLOATA, FLOATB and FMULT. Its table, ".. 3, 4 ≤ MAG ≤ 7; 2, 2 ≤ MAG ≤ 3; 1, MAG = 1; 0, MAG = 0", is the number of bits
-- of MAG
unfoldable pub EXP : ℕ → ℕ
EXP MAG = bit_length MAG

-- MANT, part of FLOATA, FLOATB and FMULT: "compute mantissa with a 1 in the most significant bit"
unfoldable pub MANT : ℕ → ℕ
MANT MAG = 1 << 5 when eqb MAG 0 ∣ (MAG << 6) >> EXP MAG

-- "Convert 15-bit signed magnitude to floating point": DQ0, 11 bits
unfoldable pub FLOATA : ℕ → ℕ → ℕ
FLOATA s DQ =
    let DQS = DQ >> s in
    let MAG = DQ % 2 ^ s in
    (DQS << 10) + (EXP MAG << 6) + MANT MAG

-- "Convert 16-bit two's complement to floating point": SR0, 11 bits
unfoldable pub FLOATB : ℕ → ℕ
FLOATB SR =
    let SRS = SR >> 15 in
    let MAG = SR when eqb SRS 0 ∣ (65536 - SR) % 32768 in
    (SRS << 10) + (EXP MAG << 6) + MANT MAG

-- WAnMAG, part of FMULT: "convert floating point to magnitude"
unfoldable pub WAnMAG : ℕ → ℕ → ℕ
WAnMAG WAnEXP WAnMANT =
    (WAnMANT << 7) >> (26 - WAnEXP) when leb WAnEXP 26 ∣
    ((WAnMANT << 7) << (WAnEXP - 26)) % 32768

-- "Multiply predictor coefficients with corresponding quantized difference signal or reconstructed signal": WAn, 16 bits,
-- two's complement. AnMAG's mask makes the magnitude of the four words from 32,768 to 32,771 zero: An >> 2 is 8,192 for each
unfoldable pub FMULT : ℕ → ℕ → ℕ
FMULT An SRn =
    let AnS = An >> 15 in
    let AnMAG = An >> 2 when eqb AnS 0 ∣ (16384 - (An >> 2)) % 8192 in
    let AnEXP = EXP AnMAG in
    let AnMANT = MANT AnMAG in
    let SRnS = SRn >> 10 in
    let SRnEXP = (SRn >> 6) % 16 in
    let SRnMANT = SRn % 64 in
    let WAnS = SRnS ** AnS in
    let WAnEXP = SRnEXP + AnEXP in
    let WAnMANT = ((SRnMANT * AnMANT) + 48) >> 4 in
    WAnMAG WAnEXP WAnMANT when eqb WAnS 0 ∣ (65536 - WAnMAG WAnEXP WAnMANT) % 65536

-- an 11-bit float word: a sign bit, an exponent up to `most` and a mantissa from 32 to 63
pub record FloatWord (most w : ℕ) : Type 0 where
  pub word : w < 2048
  pub exponent : (w >> 6) % 16 ≤ most
  pub mantissa : 32 ≤ w % 64
