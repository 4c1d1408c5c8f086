-- G.727, sections 6.2.2 and 6.2.4: LOG, SUBTB, ADDA and ANTILOG, the way from a difference to its normalized logarithm and back.
use Rattle.std.specs.Prelude.{ℕ, ◌+◌, ◌-◌, ◌%◌, eqb}
use Rattle.words.specs.Notation.{◌when◌∣◌, ◌<<◌, ◌>>◌}
use Rattle.words.specs.Length.{bit_length}
use Rattle.logarithm.specs.declared.Logged.{Logged}

-- "Convert difference signal from the linear to the logarithmic domain": DL, with 4 exponent bits and 7 mantissa bits, and DS.
-- EXP's table, "14, 16384 ≤ DQM; 13, 8192 ≤ DQM ≤ 16383; .. 0, 0 ≤ DQM ≤ 1", is the number of bits of DQM >> 1: row k, for k from 1 on,
-- has DQM from 2 ^ k to 2 ^ (k + 1) - 1, which is where DQM >> 1 has k bits, and the lowest row has 0 and 1, both of which leave 0
unfoldable pub LOG : ℕ → Logged
LOG D =
    let DS = D >> 15 in
    let DQM = D when eqb DS 0 ∣ (65536 - D) % 32768 in
    let EXP = bit_length (DQM >> 1) in
    let MANT = ((DQM << 7) >> EXP) % 128 in
    record { dl = (EXP << 7) + MANT; ds = DS }

-- "Scale logarithmic version of difference signal by subtracting scale factor": DLN, 12 bits, two's complement
abbrev pub SUBTB : ℕ → ℕ → ℕ
SUBTB DL Y = (DL + 4096 - (Y >> 2)) % 4096

-- "Addition of scale factor to logarithmic version of quantized difference signal": DQL, 12 bits, two's complement
abbrev pub ADDA : ℕ → ℕ → ℕ
ADDA DQLN Y = (DQLN + (Y >> 2)) % 4096

-- "Convert quantized difference signal from the logarithmic to the linear domain": DQ, a sign at place s and a magnitude below it.
-- s is 14 in G.727; in G.726, whose DQ is a bit wider, it is 15. On both paths of G.727 DQL is from -128 to 1,736, so that DEX is 13 at most
-- where DS = 0 (proofs/Range.antt)
unfoldable pub ANTILOG : ℕ → ℕ → ℕ → ℕ
ANTILOG s DQL DQS =
    let DS = DQL >> 11 in
    let DEX = (DQL >> 7) % 16 in
    let DMN = DQL % 128 in
    let DQT = (1 << 7) + DMN in
    let DQMAG = (DQT << 7) >> (14 - DEX) when eqb DS 0 ∣ 0 in
    (DQS << s) + DQMAG
