-- A number to which a bit was added behind the others: what stands above that bit, and its lowest bits taken one by one.
use mathlib.Core.Path.{◌≡◌, sym}
use Prim.Native.Nat.{ℕ, suc, ◌+◌, ◌*◌, ◌/◌, ◌%◌, ◌^◌}
use native.Mathlib.Nat.{add-mul, mul_assoc, pow-suc, pow-succ', div-div-eq-div-mul}
use native.Mathlib.Omega.{arith}
use lib.Pow.{mod-pow-add}
use Rattle.words.specs.Notation.{◌>>◌}
use Rattle.frame.specs.Planes.{bit}

-- with n bits left out a bit is last, and with one more left out that bit is gone
pub bit_gone : (n all there b c : ℕ) → all >> n ≡ there * 2 + bit b c → all >> suc n ≡ there
unfolding bit
bit_gone n all there b c e =
    let halved : all / 2 ^ suc n ≡ all / 2 ^ n / 2 = rw (pow-suc 2 n) (sym (div-div-eq-div-mul all (2 ^ n) 2)) in
    omega arith

-- the x + 1 lowest bits of c are bit x and the x lowest
pub bit_more : (x c there : ℕ) → (there * 2 + bit x c) * 2 ^ x + c % 2 ^ x ≡ there * 2 ^ suc x + c % 2 ^ suc x
unfolding bit
bit_more x c there =
    let up : 1 + x ≡ suc x = omega arith in
    let cut : c % 2 ^ suc x ≡ c / 2 ^ x % 2 * 2 ^ x + c % 2 ^ x = rw up at (mod-pow-add c 1 x) in
    let apart : (there * 2 + c / 2 ^ x % 2) * 2 ^ x ≡ there * 2 ^ suc x + c / 2 ^ x % 2 * 2 ^ x = rw (add-mul, mul_assoc, pow-succ' 2 x) in
    omega arith
