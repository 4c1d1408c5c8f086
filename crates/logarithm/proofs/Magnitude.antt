-- ANTILOG by the sign of DQL, over the place s of DQ's sign bit.
use mathlib.Core.Path.{◌≡◌}
use Prim.Native.Nat.{ℕ, ◌+◌, ◌-◌, ◌*◌, ◌/◌, ◌%◌, ◌^◌, ◌≤◌, ◌<◌}
use native.Mathlib.Omega.{arith}
use native.Mathlib.Nat.{add-zero}
use lib.Pow.{shr_le, shr-shr}
use borrow.Author.Tests.{eq-eqb, ne_eqb}
use Rattle.logarithm.specs.Logarithm.{ANTILOG}

-- the magnitude of a DQL that is not negative
abbrev pub DQMAG : ℕ → ℕ
DQMAG DQL = (128 + DQL % 128) * 128 / 2 ^ (14 - DQL / 128)

module _ (s DQL DQS : ℕ) where
  pub antilog_negative : 2048 ≤ DQL → DQL < 4096 → ANTILOG s DQL DQS ≡ DQS * 2 ^ s
  unfolding ANTILOG
  antilog_negative low high = rw (ne_eqb (DQL / 2048) 0 (λ e. omega arith)) (add-zero (DQS * 2 ^ s))

  pub antilog_positive : DQL < 2048 → ANTILOG s DQL DQS ≡ DQS * 2 ^ s + DQMAG DQL
  unfolding ANTILOG
  antilog_positive high =
      let DEX : DQL / 128 % 16 ≡ DQL / 128 = omega arith in
      rw (eq-eqb (DQL / 2048) 0 (omega arith), DEX)

-- a magnitude of an exponent of at most 13 has 14 bits
pub magnitude_small : (DQL : ℕ) → DQL / 128 ≤ 13 → DQMAG DQL < 16384
magnitude_small DQL h =
    let half : (128 + DQL % 128) * 128 / 2 < 16384 = omega arith in
    let places : 14 - DQL / 128 ≡ 1 + (13 - DQL / 128) = omega arith in
    rw (places, ← shr-shr ((128 + DQL % 128) * 128) 1 (13 - DQL / 128))
    (omega (arith, shr_le ((128 + DQL % 128) * 128 / 2) (13 - DQL / 128)))
