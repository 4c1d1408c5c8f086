-- G.727, section 6.2.1: EXPAND. LAW is 0 for mu-law and 1 for A-law (Table 5/G.727).
-- A PCM code word has its sign first and then the number of its level: mu-law with all bits inverted, A-law with the even bits inverted.
use Rattle.std.specs.Prelude.{ℕ, ◌+◌, ◌-◌, ◌%◌, eqb, get_or}
use Rattle.words.specs.Notation.{◌when◌∣◌, ◌<<◌, ◌>>◌, ◌**◌}
use Rattle.g711.specs.G711.{outputs_mu, outputs_A}

-- SS for mu-law: 14 bits, sign and magnitude, the sign bit 1 for negative values. A code word below 128 is negative
unfoldable pub SS_mu : ℕ → ℕ
SS_mu S =
    let n = (255 - S) % 128 in
    8192 + get_or outputs_mu n 0 when eqb (S >> 7) 0 ∣ get_or outputs_mu n 0

-- SS for A-law: 13 bits, sign and magnitude. After the inversion of the even bits a code word below 128 is negative
unfoldable pub SS_A : ℕ → ℕ
SS_A S =
    let T = S ** 85 in
    let n = T % 128 in
    4096 + get_or outputs_A n 0 when eqb (T >> 7) 0 ∣ get_or outputs_A n 0

-- "Convert either A-law or mu-law PCM to uniform PCM": SL, 14 bits, two's complement
unfoldable pub EXPAND : ℕ → ℕ → ℕ
EXPAND S LAW =
    let SSS = SS_mu S >> 13 when eqb LAW 0 ∣ SS_A S >> 12 in
    let SSQ = SS_mu S % 8192 when eqb LAW 0 ∣ (SS_A S % 4096) << 1 in
    SSQ when eqb SSS 0 ∣ (16384 - SSQ) % 16384
