-- What each sub-block of the predictor gives is a word of the width that Table 7/G.727 says, and a float word as the rules' table has it.
use mathlib.Core.Bool.{◌&&◌}
use mathlib.Core.Path.{◌≡◌}
use Prim.Native.Nat.{ℕ, ◌+◌, ◌-◌, ◌*◌, ◌/◌, ◌%◌, ◌^◌, ◌≤◌, ◌<◌}
use native.Mathlib.Omega.{arith}
use lib.Dec.{eqb, leb, ltb}
use borrow.Author.Tests.{eqb-true}
use Rattle.words.specs.Notation.{pick}
use Rattle.words.proofs.Length.{length_le}
use Rattle.words.proofs.Pick.{by_pick, pick_lt, bit}
use Rattle.words.specs.Within.{Within}
use Rattle.predictor.specs.Sums.{ACCUM, DQI, SEI, ADDB, ADDC}
use Rattle.predictor.specs.Float.{EXP, MANT, FLOATA, FLOATB, FloatWord}
use Rattle.predictor.specs.Coefficient.{LIMC, LIMD, TRIGB, UPA1, FA, UPA2, UPB}
use Rattle.predictor.specs.Tone.{TONE, TRANS}
use Rattle.predictor.proofs.Mantissa.{mantissa_range}

pub se_range : (WA1 WA2 WB1 WB2 WB3 WB4 WB5 WB6 : ℕ) → (ACCUM WA1 WA2 WB1 WB2 WB3 WB4 WB5 WB6).se < 32768
unfolding ACCUM
se_range WA1 WA2 WB1 WB2 WB3 WB4 WB5 WB6 = omega arith

pub sez_range : (WA1 WA2 WB1 WB2 WB3 WB4 WB5 WB6 : ℕ) → (ACCUM WA1 WA2 WB1 WB2 WB3 WB4 WB5 WB6).sez < 32768
unfolding ACCUM
sez_range WA1 WA2 WB1 WB2 WB3 WB4 WB5 WB6 = omega arith

pub addb_range : (s DQ SE : ℕ) → ADDB s DQ SE < 65536
unfolding ADDB
addb_range s DQ SE = omega arith

pub pk0_range : (s DQ SEZ : ℕ) → (ADDC s DQ SEZ).pk0 < 2
unfolding ADDC
pk0_range s DQ SEZ = omega arith

pub sigpk_range : (s DQ SEZ : ℕ) → (ADDC s DQ SEZ).sigpk < 2
unfolding ADDC
sigpk_range s DQ SEZ = bit (eqb ((DQI s DQ + SEI SEZ) % 65536) 0)

-- the float word of a magnitude below 2 ^ most
packed : (most S MAG : ℕ) → most ≤ 15 → S < 2 → MAG < 65536 → MAG < 2 ^ most → FloatWord most (S * 1024 + EXP MAG * 64 + MANT MAG)
packed most S MAG few sign fits short =
    let e : EXP MAG ≤ most = unfold EXP in length_le most MAG fits short in
    let m : Within 32 63 (MANT MAG) = mantissa_range MAG fits in
    omega arith

pub floata_range : (DQS m : ℕ) → DQS < 2 → m < 16384 → FloatWord 14 (FLOATA 14 (DQS * 16384 + m))
unfolding FLOATA
floata_range DQS m sign small =
    let S : (DQS * 16384 + m) / 16384 ≡ DQS = omega arith in
    let MAG : (DQS * 16384 + m) % 16384 ≡ m = omega arith in
    rw (S, MAG) (packed 14 DQS m (omega arith) sign (omega arith) (omega arith))

pub floatb_range : (SR : ℕ) → SR < 65536 → FloatWord 15 (FLOATB SR)
unfolding FLOATB
floatb_range SR h =
    let MAG = pick (eqb (SR / 32768) 0) SR ((65536 - SR) % 32768) in
    let small : MAG < 32768 = by_pick (λ (n : ℕ). n < 32768) (eqb (SR / 32768) 0) SR ((65536 - SR) % 32768) (λ e. omega (arith, eqb-true (SR / 32768) 0 e)) (λ e. omega arith) in
    packed 15 (SR / 32768) MAG (omega arith) (omega arith) (omega arith) small

pub tone_range : (A2P : ℕ) → TONE A2P < 2
tone_range A2P = bit (leb 32768 A2P && ltb A2P 53760)

pub trans_range : (TD YL DQ : ℕ) → TRANS TD YL DQ < 2
unfolding TRANS
trans_range TD YL DQ =
    let THR1 = (32 + YL / 1024 % 32) * 2 ^ (YL / 32768) in
    let THR2 = pick (ltb 8 (YL / 32768)) 15872 THR1 in
    bit (ltb ((THR2 + THR2 / 2) / 2) (DQ % 16384) && eqb TD 1)

pub trigb_range : (TR AnP n : ℕ) → AnP < n → TRIGB TR AnP < n
trigb_range TR AnP n h = pick_lt (eqb TR 0) h (omega arith)

pub upa1_range : (PK0 PK1 A1 SIGPK : ℕ) → UPA1 PK0 PK1 A1 SIGPK < 65536
unfolding UPA1
upa1_range PK0 PK1 A1 SIGPK = omega arith

pub upa2_range : (PK0 PK1 PK2 A1 A2 SIGPK : ℕ) → UPA2 PK0 PK1 PK2 A1 A2 SIGPK < 65536
unfolding UPA2
upa2_range PK0 PK1 PK2 A1 A2 SIGPK = omega arith

-- f(a1) of UPA2
pub fa_range : (PKS1 A1 : ℕ) → FA PKS1 A1 < 131072
unfolding FA
fa_range PKS1 A1 = grind arith

pub upb_range : (s Un Bn DQ : ℕ) → UPB s Un Bn DQ < 65536
unfolding UPB
upb_range s Un Bn DQ = omega arith

pub limc_range : (A2T : ℕ) → A2T < 65536 → LIMC A2T < 65536
unfolding LIMC
limc_range A2T h =
    let upper = leb 12288 A2T && leb A2T 32767 in
    pick_lt (leb 32768 A2T && leb A2T 53248) {a = 53248} (omega arith) (pick_lt upper {a = 12288} (omega arith) h)

pub limd_range : (A1T A2P : ℕ) → A1T < 65536 → LIMD A1T A2P < 65536
unfolding LIMD
limd_range A1T A2P h =
    let A1UL = (15360 + 65536 - A2P) % 65536 in
    let A1LL = (A2P + 65536 - 15360) % 65536 in
    let upper = leb A1UL A1T && leb A1T 32767 in
    pick_lt (leb 32768 A1T && leb A1T A1LL) {a = A1LL} (omega arith) (pick_lt upper {a = A1UL} (omega arith) h)
