-- A mantissa has its 1 in the most significant of six bits: it is 32 to 63, whatever the magnitude.
use mathlib.Core.Path.{◌≡◌}
use Prim.Native.Nat.{ℕ, zero, suc, ◌+◌, ◌*◌, ◌/◌, ◌^◌, ◌≤◌, ◌<◌}
use native.Mathlib.Nat.{pow-suc, le-div_iff_mul-le, div-lt_iff_lt-mul}
use native.Mathlib.Omega.{arith}
use lib.Dec.{eqb}
use lib.Pow.{pow_pos}
use borrow.Author.Tests.{eqb-false}
use Rattle.words.specs.Length.{bit_length}
use Rattle.words.proofs.Length.{length_spans}
use Rattle.words.proofs.Pick.{cases}
use Rattle.words.specs.Within.{Within}
use Rattle.predictor.specs.Float.{EXP, MANT}

-- the span of a number above 0 is even
even : (MAG n : ℕ) → 1 ≤ MAG → MAG < 2 ^ n → 2 ^ n ≤ 2 * MAG + 1 → 2 ^ n ≤ 2 * MAG
even MAG zero one high low = omega arith
even MAG (suc k) one high low = omega (arith, pow-suc 2 k)

shifted : (MAG n : ℕ) → 1 ≤ MAG → MAG < 2 ^ n → 2 ^ n ≤ 2 * MAG + 1 → Within 32 63 (MAG * 64 / 2 ^ n)
shifted MAG n one high low =
    let span : 2 ^ n ≤ 2 * MAG = even MAG n one high low in
    let least : 32 ≤ MAG * 64 / 2 ^ n = (le-div_iff_mul-le {k = 2 ^ n} {x = 32} {y = MAG * 64} (pow_pos n)).1 (omega arith) in
    let most : MAG * 64 / 2 ^ n < 64 = (div-lt_iff_lt-mul {k = 2 ^ n} {x = MAG * 64} {y = 64} (pow_pos n)).1 (omega arith) in
    omega arith

pub mantissa_range : (MAG : ℕ) → MAG < 65536 → Within 32 63 (MANT MAG)
unfolding MANT EXP
mantissa_range MAG word =
    let span = length_spans MAG word in
    cases (eqb MAG 0)
    (λ e. rw e (omega arith))
    (λ e.
    let one : MAG ≡ 0 → ⊥ = eqb-false MAG 0 e in
    rw e (shifted MAG (bit_length MAG) (omega arith) span.high span.low))
