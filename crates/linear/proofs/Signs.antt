-- Signed numbers and the 16 bits that the machine holds them in: what comes back from its bits is what went in.
use Rattle.std.proofs.Common.{◌≡◌, ℕ, suc, ◌-◌, ◌≤◌, true, false, ltb, ℤ, pos, negsuc, to_z, of_z, w16, ap, subst, arith}
use lib.IntN.{◌-ℤ◌, +ℤ_idl}
use lib.Signed.{lt_z}
use lib.Dec.{T}
use mir.Val.{SFits}
use Rattle.std.specs.Int.{int_max, int_min}
use borrow.Author.Tests.{leb-true, ltb-true}
use Rattle.words.proofs.Pick.{cases}
use Rattle.words.proofs.Rows.{both}
use Rattle.linear.specs.Linear.{lowest, highest, is_level, SL, signed, held}

pub read : (W : ℕ) → signed 16 W ≡ to_z w16 W
unfolding signed
read W = cases (ltb W 32768) (λ e. rw e) (λ e. rw e (ap negsuc (omega arith)))

-- a level below zero is -(n + 1), and n + 1 where it is negated; the word of any other is its bits
pub negated_fits : (x : ℤ) → is_level x ≡ true → lt_z x (pos 0) ≡ true → SFits w16 (pos 0 -ℤ x)
unfolding is_level
negated_fits (pos n) level t = absurd (omega (arith, ltb-true n 0 t))
negated_fits (negsuc n) level t = rw (+ℤ_idl (pos (suc n))) (record { sfits = omega (arith, leb-true n 8191 (both _ _ level).0) })

pub negated_small : (x : ℤ) → is_level x ≡ true → lt_z x (pos 0) ≡ true → of_z w16 (pos 0 -ℤ x) ≤ 16384
unfolding is_level
negated_small (pos n) level t = absurd (omega (arith, ltb-true n 0 t))
negated_small (negsuc n) level t = omega (arith, leb-true n 8191 (both _ _ level).0)

pub negated_word : (x : ℤ) → is_level x ≡ true → lt_z x (pos 0) ≡ true → 16384 - of_z w16 (pos 0 -ℤ x) ≡ SL x
unfolding is_level SL
negated_word (pos n) level t = absurd (omega (arith, ltb-true n 0 t))
negated_word (negsuc n) level t = omega (arith, leb-true n 8191 (both _ _ level).0)

pub word_kept : (x : ℤ) → is_level x ≡ true → lt_z x (pos 0) ≡ false → of_z w16 x ≡ SL x
unfolding is_level SL
word_kept (pos n) level t = omega (arith, leb-true n 8191 level)
word_kept (negsuc n) level t = absurd (subst T t tt)

pub clamped : (x : ℤ) → held x ≡ int_max lowest (int_min x highest)
unfolding held
clamped (pos n) = cases (ltb 8191 n) (λ e. rw e) (λ e. rw e)
clamped (negsuc n) = cases (ltb 8191 n) (λ e. rw e) (λ e. rw e)
