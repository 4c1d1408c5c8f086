-- Speed control stays in the rules' ranges: DMS up to 3,584, DML up to 14,336, AP up to 512. Each average moves towards a target that is in the
-- range itself, and never past it. One law of every number of bits would go by products of variables, and be longer than the three.
use mathlib.Core.Bool.{◌&&◌}
use mathlib.Core.Path.{◌≡◌}
use Prim.Native.Nat.{ℕ, ◌+◌, ◌-◌, ◌*◌, ◌/◌, ◌%◌, ◌≤◌}
use native.Mathlib.Omega.{arith}
use lib.Dec.{eqb, leb, ltb}
use borrow.Author.Tests.{eqb-true, eqb-false, leb-false}
use Rattle.words.specs.Notation.{pick}
use Rattle.words.proofs.Pick.{by_pick, cases, pick_le}
use Rattle.speed.specs.Speed.{FILTA, FILTB, FILTC, LIMA, SUBTC, TRIGA}

pub filta_range : (FI DMS : ℕ) → FI ≤ 7 → DMS ≤ 3584 → FILTA FI DMS ≤ 3584
unfolding FILTA
filta_range FI DMS f h =
    let DIF = (FI * 512 + 8192 - DMS) % 8192 in
    cases (eqb (DIF / 4096) 0)
    (λ e. rw e (omega (arith, eqb-true (DIF / 4096) 0 e)))
    (λ e.
    let below : DIF / 4096 ≡ 0 → ⊥ = eqb-false (DIF / 4096) 0 e in
    let fall : DIF + DMS ≡ FI * 512 + 8192 = omega arith in
    let wrapped : (DIF / 32 + 3840 + DMS) % 4096 + 4096 ≡ DIF / 32 + 3840 + DMS = omega arith in
    rw e (omega arith))

pub filtb_range : (FI DML : ℕ) → FI ≤ 7 → DML ≤ 14336 → FILTB FI DML ≤ 14336
unfolding FILTB
filtb_range FI DML f h =
    let DIF = (FI * 2048 + 32768 - DML) % 32768 in
    cases (eqb (DIF / 16384) 0)
    (λ e. rw e (omega (arith, eqb-true (DIF / 16384) 0 e)))
    (λ e.
    let below : DIF / 16384 ≡ 0 → ⊥ = eqb-false (DIF / 16384) 0 e in
    let fall : DIF + DML ≡ FI * 2048 + 32768 = omega arith in
    let wrapped : (DIF / 128 + 16128 + DML) % 16384 + 16384 ≡ DIF / 128 + 16128 + DML = omega arith in
    rw e (omega arith))

pub filtc_range : (AX AP : ℕ) → AX ≤ 1 → AP ≤ 512 → FILTC AX AP ≤ 512
unfolding FILTC
filtc_range AX AP f h =
    let DIF = (AX * 512 + 2048 - AP) % 2048 in
    cases (eqb (DIF / 1024) 0)
    (λ e. rw e (omega (arith, eqb-true (DIF / 1024) 0 e)))
    (λ e.
    let below : DIF / 1024 ≡ 0 → ⊥ = eqb-false (DIF / 1024) 0 e in
    let fall : DIF + AP ≡ AX * 512 + 2048 = omega arith in
    let wrapped : (DIF / 16 + 896 + AP) % 1024 + 1024 ≡ DIF / 16 + 896 + AP = omega arith in
    rw e (omega arith))

pub lima_range : (AP : ℕ) → LIMA AP ≤ 64
unfolding LIMA
lima_range AP = by_pick (λ (n : ℕ). n ≤ 64) (leb 256 AP) 64 (AP / 4) (λ e. omega arith) (λ e. omega (arith, leb-false 256 AP e))

pub subtc_range : (DMSP DMLP TDP Y : ℕ) → SUBTC DMSP DMLP TDP Y ≤ 1
unfolding SUBTC
subtc_range DMSP DMLP TDP Y =
    let DIF = (DMSP * 4 + 32768 - DMLP) % 32768 in
    let steady = leb 1536 Y && ltb (pick (eqb (DIF / 16384) 0) DIF ((32768 - DIF) % 16384)) (DMLP / 8) && eqb TDP 0 in
    pick_le steady {a = 0} {b = 1} {n = 1} (omega arith) (omega arith)

pub triga_range : (TR APP : ℕ) → APP ≤ 512 → TRIGA TR APP ≤ 512
triga_range TR APP h = pick_le (eqb TR 0) h (omega arith)
