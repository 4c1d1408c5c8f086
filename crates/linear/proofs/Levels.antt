-- A sample and its level: a level has 14 bits, and is the sample again where it is read as signed; every word of 14 bits is some sample's level.
use mathlib.Core.Bool.{true}
use mathlib.Core.Path.{◌≡◌, refl, ap}
use Prim.Native.Nat.{ℕ, ◌-◌, ◌<◌}
use native.Mathlib.Omega.{arith}
use lib.Dec.{ltb}
use lib.IntN.{ℤ, pos, negsuc}
use borrow.Author.Tests.{leb-true, le-leb, ltb-true, ltb-false, lt-ltb, le-ltb}
use Rattle.words.proofs.Pick.{by_pick}
use Rattle.words.proofs.Rows.{both}
use Rattle.linear.specs.Linear.{is_level, SL, signed}

pub level_short : (x : ℤ) → is_level x ≡ true → SL x < 16384
unfolding is_level SL
level_short (pos n) level = omega (arith, leb-true n 8191 level)
level_short (negsuc n) level = omega arith

pub level_again : (x : ℤ) → is_level x ≡ true → signed 14 (SL x) ≡ x
unfolding is_level SL signed
level_again (pos n) level = rw (lt-ltb n 8192 (omega (arith, leb-true n 8191 level)))
level_again (negsuc n) level =
    let small = leb-true n 8191 (both _ _ level).0 in
    rw (le-ltb (16383 - n) 8192 (omega (arith, small))) (ap negsuc (omega (arith, small)))

module _ (W : ℕ) (short : W < 16384) where
  pub word_level : is_level (signed 14 W) ≡ true
  unfolding is_level signed
  word_level =
      by_pick (λ (x : ℤ). is_level x ≡ true) (ltb W 8192) (pos W) (negsuc (16383 - W))
      (λ t. le-leb W 8191 (omega (arith, ltb-true W 8192 t)))
      (λ t. rw (le-leb (16383 - W) 8191 (omega (arith, ltb-false W 8192 t))))

  pub word_again : SL (signed 14 W) ≡ W
  unfolding SL signed
  word_again =
      by_pick (λ (x : ℤ). SL x ≡ W) (ltb W 8192) (pos W) (negsuc (16383 - W))
      (λ t. refl)
      (λ t. omega (arith, short))
