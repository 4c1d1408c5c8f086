-- G.727, section 6.2.7: ACCUM, ADDB and ADDC, the sums of the predictor: the signal estimate, and what the quantized difference DQ makes of it.
-- DQ is a sign bit at place s with its magnitude below it: s is 14 in G.727; in G.726, whose DQ is a bit wider, it is 15.
use Rattle.std.specs.Prelude.{ℕ, ◌+◌, ◌-◌, ◌^◌, ◌%◌, eqb}
use Rattle.words.specs.Notation.{◌when◌∣◌, ◌<<◌, ◌>>◌}
use Rattle.predictor.specs.declared.sums.Estimate.{Estimate}
use Rattle.predictor.specs.declared.sums.Sign.{Sign}

-- "Addition of predictor outputs to form the partial signal estimate (from the sixth order predictor) and the signal estimate":
-- SE and SEZ, 15 bits, two's complement
unfoldable pub ACCUM : ℕ → ℕ → ℕ → ℕ → ℕ → ℕ → ℕ → ℕ → Estimate
ACCUM WA1 WA2 WB1 WB2 WB3 WB4 WB5 WB6 =
    let SEZI = (((((((((WB1 + WB2) % 65536) + WB3) % 65536) + WB4) % 65536) + WB5) % 65536) + WB6) % 65536 in
    let SEI = (((SEZI + WA2) % 65536) + WA1) % 65536 in
    record { sez = SEZI >> 1; se = SEI >> 1 }

-- DQI, part of ADDB and ADDC: "convert signed magnitude to two's complement"
unfoldable pub DQI : ℕ → ℕ → ℕ
DQI s DQ =
    let DQS = DQ >> s in
    DQ when eqb DQS 0 ∣ (65536 - (DQ % 2 ^ s)) % 65536

-- SEI, part of ADDB, and SEZI, part of ADDC: "sign extension"
unfoldable pub SEI : ℕ → ℕ
SEI SE =
    let SES = SE >> 14 in
    SE when eqb SES 0 ∣ (1 << 15) + SE

-- "Addition of quantized difference signal and signal estimate to form reconstructed signal": SR, 16 bits, two's complement
unfoldable pub ADDB : ℕ → ℕ → ℕ → ℕ
ADDB s DQ SE = (DQI s DQ + SEI SE) % 65536

-- "Obtain sign of addition of quantized difference signal and partial signal estimate": PK0 and SIGPK
unfoldable pub ADDC : ℕ → ℕ → ℕ → Sign
ADDC s DQ SEZ =
    let DQSEZ = (DQI s DQ + SEI SEZ) % 65536 in
    record { pk0 = DQSEZ >> 15; sigpk = 1 when eqb DQSEZ 0 ∣ 0 }
