-- G.727, section 6.2.7: the predictor's coefficients, LIMC, LIMD, TRIGB, UPA1, UPA2, UPB and XOR. All are 16-bit two's complement words and
-- are kept modulo 65,536: "implicitly limited" is no licence to clamp. DQ's sign stands at place s, as in Sums.antt.
use Rattle.std.specs.Prelude.{◌&&◌, not, ℕ, ◌+◌, ◌-◌, ◌^◌, ◌%◌, eqb, leb}
use Rattle.words.specs.Notation.{◌when◌∣◌, ◌<<◌, ◌>>◌, ◌**◌}

-- "Limits on a2 coefficient of second order predictor": A2P, from -0.75 to +0.75
unfoldable pub LIMC : ℕ → ℕ
LIMC A2T =
    let A2UL : ℕ = 12288 in
    let A2LL : ℕ = 53248 in
    A2LL when leb 32768 A2T && leb A2T A2LL ∣
    A2UL when leb A2UL A2T && leb A2T 32767 ∣
    A2T

-- "Limits on a1 coefficient of second order predictor": A1P
unfoldable pub LIMD : ℕ → ℕ → ℕ
LIMD A1T A2P =
    let OME : ℕ = 15360 in
    let A1UL = (OME + 65536 - A2P) % 65536 in
    let A1LL = (A2P + 65536 - OME) % 65536 in
    A1LL when leb 32768 A1T && leb A1T A1LL ∣
    A1UL when leb A1UL A1T && leb A1T 32767 ∣
    A1T

-- "Predictor trigger block": AnR, BnR or TDR
abbrev pub TRIGB : ℕ → ℕ → ℕ
TRIGB TR AnP = AnP when eqb TR 0 ∣ 0

-- ULA1, part of UPA1, ULA2, part of UPA2, and ULBn, part of UPB: the leak factor is 1/256 where n is 8, and 1/128 where n is 7. SIGN is the
-- n ones that extend the sign of a negative A >> n
unfoldable pub UL : ℕ → ℕ → ℕ → ℕ
UL n SIGN A =
    let AS = A >> 15 in
    (65536 - (A >> n)) % 65536 when eqb AS 0 ∣
    (65536 - ((A >> n) + SIGN)) % 65536

-- "Update a1 coefficient of second order predictor": A1T. The gain is 3/256
unfoldable pub UPA1 : ℕ → ℕ → ℕ → ℕ → ℕ
UPA1 PK0 PK1 A1 SIGPK =
    let PKS = PK0 ** PK1 in
    let UGA1 : ℕ = 192 when eqb PKS 0 && eqb SIGPK 0 ∣ 65344 when eqb PKS 1 && eqb SIGPK 0 ∣ 0 in
    let ULA1 = UL 8 65280 A1 in
    let UA1 = (UGA1 + ULA1) % 65536 in
    (A1 + UA1) % 65536

-- FA, part of UPA2: f(a1) = 4 a1, where a1 is held at +1/2 and -1/2, with the sign of PKS1 attached. FA1's second row, printed with
-- "A1 > 8192", has 8,192 too (docs/DECISIONS.md)
unfoldable pub FA : ℕ → ℕ → ℕ
FA PKS1 A1 =
    let A1S = A1 >> 15 in
    let FA1 = (A1 << 2 when leb A1 8191 ∣ 8191 << 2) when eqb A1S 0 ∣ ((A1 << 2) % 131072 when leb 57345 A1 ∣ 24577 << 2) in
    FA1 when eqb PKS1 1 ∣ (131072 - FA1) % 131072

-- UGA2, part of UPA2: the gain is 1/128
unfoldable pub UGA2 : ℕ → ℕ → ℕ
UGA2 UGA2B SIGPK =
    let UGA2S = UGA2B >> 16 in
    UGA2B >> 7 when eqb UGA2S 0 && eqb SIGPK 0 ∣
    (UGA2B >> 7) + 64512 when eqb UGA2S 1 && eqb SIGPK 0 ∣
    0

-- "Update a2 coefficient of second order predictor": A2T. The leak factor is 1/128
unfoldable pub UPA2 : ℕ → ℕ → ℕ → ℕ → ℕ → ℕ → ℕ
UPA2 PK0 PK1 PK2 A1 A2 SIGPK =
    let PKS1 = PK0 ** PK1 in
    let PKS2 = PK0 ** PK2 in
    let UGA2A : ℕ = 16384 when eqb PKS2 0 ∣ 114688 in
    let UGA2B = (UGA2A + FA PKS1 A1) % 131072 in
    let ULA2 = UL 7 65024 A2 in
    let UA2 = (UGA2 UGA2B SIGPK + ULA2) % 65536 in
    (A2 + UA2) % 65536

-- "Update for coefficients of sixth order predictor": BnP. The gain is 1/128 or 0
unfoldable pub UPB : ℕ → ℕ → ℕ → ℕ → ℕ
UPB s Un Bn DQ =
    let DQMAG = DQ % 2 ^ s in
    let UGBn : ℕ = 128 when eqb Un 0 && not (eqb DQMAG 0) ∣ 65408 when eqb Un 1 && not (eqb DQMAG 0) ∣ 0 in
    let ULBn = UL 8 65280 Bn in
    let UBn = (UGBn + ULBn) % 65536 in
    (Bn + UBn) % 65536

-- "One bit exclusive or of sign of difference signal and sign of delayed difference signal": Un
unfoldable pub XOR : ℕ → ℕ → ℕ → ℕ
XOR s DQn DQ =
    let DQS = DQ >> s in
    let DQnS = DQn >> 10 in
    DQS ** DQnS
