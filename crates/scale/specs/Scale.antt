-- G.727, section 6.2.5: quantizer scale factor adaptation. FUNCTW, whose table goes by the core, stands with the quantizer.
-- YU and Y have 9 bits behind the point, YL 15, AL 6.
use Rattle.std.specs.Prelude.{ℕ, ◌+◌, ◌-◌, ◌*◌, ◌%◌, eqb}
use Rattle.words.specs.Notation.{◌when◌∣◌, ◌<<◌, ◌>>◌}

-- "Update of fast quantizer scale factor": YUT
unfoldable pub FILTD : ℕ → ℕ → ℕ
FILTD WI Y =
    let DIF = ((WI << 5) + 131072 - Y) % 131072 in
    let DIFS = DIF >> 16 in
    let DIFSX = DIF >> 5 when eqb DIFS 0 ∣ (DIF >> 5) + 4096 in
    (Y + DIFSX) % 8192

-- "Update of slow quantizer scale factor": YLP
unfoldable pub FILTE : ℕ → ℕ → ℕ
FILTE YUP YL =
    let DIF = (YUP + ((1048576 - YL) >> 6)) % 16384 in
    let DIFS = DIF >> 13 in
    let DIFSX = DIF when eqb DIFS 0 ∣ DIF + 507904 in
    (YL + DIFSX) % 524288

-- "Limit quantizer scale factor": YUP
unfoldable pub LIMB : ℕ → ℕ
LIMB YUT =
    let GEUL = ((YUT + 11264) % 16384) >> 13 in
    let GELL = ((YUT + 15840) % 16384) >> 13 in
    544 when eqb GELL 1 ∣
    5120 when eqb GEUL 0 ∣
    YUT

-- "Form linear combination of fast and slow quantizer scale factors": Y
unfoldable pub MIX : ℕ → ℕ → ℕ → ℕ
MIX AL YU YL =
    let DIF = (YU + 16384 - (YL >> 6)) % 16384 in
    let DIFS = DIF >> 13 in
    let DIFM = DIF when eqb DIFS 0 ∣ (16384 - DIF) % 8192 in
    let PRODM = (DIFM * AL) >> 6 in
    let PROD = PRODM when eqb DIFS 0 ∣ (16384 - PRODM) % 16384 in
    ((YL >> 6) + PROD) % 8192
