-- G.727, section 6.2.6: adaptation speed control. FUNCTF, whose table goes by the core, stands with the quantizer.
use Rattle.std.specs.Prelude.{◌&&◌, ℕ, ◌+◌, ◌-◌, ◌%◌, eqb, leb, ltb}
use Rattle.words.specs.Notation.{◌when◌∣◌, ◌<<◌, ◌>>◌}

-- "Update of short-term average of F(I)": DMSP
unfoldable pub FILTA : ℕ → ℕ → ℕ
FILTA FI DMS =
    let DIF = ((FI << 9) + 8192 - DMS) % 8192 in
    let DIFS = DIF >> 12 in
    let DIFSX = DIF >> 5 when eqb DIFS 0 ∣ (DIF >> 5) + 3840 in
    (DIFSX + DMS) % 4096

-- "Update of long-term average of F(I)": DMLP. The time constant is 1/128
unfoldable pub FILTB : ℕ → ℕ → ℕ
FILTB FI DML =
    let DIF = ((FI << 11) + 32768 - DML) % 32768 in
    let DIFS = DIF >> 14 in
    let DIFSX = DIF >> 7 when eqb DIFS 0 ∣ (DIF >> 7) + 16128 in
    (DIFSX + DML) % 16384

-- "Low pass filter of speed control parameter": APP
unfoldable pub FILTC : ℕ → ℕ → ℕ
FILTC AX AP =
    let DIF = ((AX << 9) + 2048 - AP) % 2048 in
    let DIFS = DIF >> 10 in
    let DIFSX = DIF >> 4 when eqb DIFS 0 ∣ (DIF >> 4) + 896 in
    (DIFSX + AP) % 1024

-- "Limit speed control parameter": AL
unfoldable pub LIMA : ℕ → ℕ
LIMA AP = 64 when leb 256 AP ∣ AP >> 2

-- "Compute magnitude of the difference of short and long term functions of quantizer output sequence and then perform threshold
-- comparison for quantizing speed control parameter": AX
unfoldable pub SUBTC : ℕ → ℕ → ℕ → ℕ → ℕ
SUBTC DMSP DMLP TDP Y =
    let DIF = ((DMSP << 2) + 32768 - DMLP) % 32768 in
    let DIFS = DIF >> 14 in
    let DIFM = DIF when eqb DIFS 0 ∣ (32768 - DIF) % 16384 in
    let DTHR = DMLP >> 3 in
    0 when leb 1536 Y && ltb DIFM DTHR && eqb TDP 0 ∣ 1

-- "Speed control trigger block": APR
abbrev pub TRIGA : ℕ → ℕ → ℕ
TRIGA TR APP = APP when eqb TR 0 ∣ 256
