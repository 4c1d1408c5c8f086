-- What `speed::averaged` reckons with stays below 65,536.
use Rattle.std.proofs.Common.{◌^◌, ◌<◌, ◌≤◌, ℕ, zero, suc, ◌+◌, ◌-◌, ◌*◌, ◌/◌, Bool, arith, pow_mono, pow-suc}
use Rattle.std.proofs.Math.Nat.{div-le_self, mul-div-mul_left, mul_comm}
use Rattle.words.specs.Notation.{pick}
use Rattle.words.proofs.Pick.{pick_le}

pub whole_small : (bits : ℕ) → bits ≤ 14 → 2 ^ bits ≤ 16384
whole_small bits h = pow_mono {i = bits} {j = 14} h

pub fall_small : (whole speed : ℕ) → 1 ≤ speed → 2 * whole / 2 ^ speed ≤ whole
fall_small whole zero h = absurd (omega arith)
fall_small whole (suc n) h = rw (pow-suc 2 n, mul_comm (2 ^ n) 2, mul-div-mul_left {m = 2} whole (2 ^ n) (omega arith)) (div-le_self whole (2 ^ n))

pub moved_small : (t : Bool) (whole speed dif : ℕ) → dif < 2 * whole → pick t (dif / 2 ^ speed) (dif / 2 ^ speed + (whole - 2 * whole / 2 ^ speed)) ≤ 3 * whole
moved_small t whole speed dif h =
    let step : dif / 2 ^ speed ≤ dif = div-le_self dif (2 ^ speed) in
    pick_le t (omega arith) (omega arith)
