-- The linear end at zero, at both ends of the levels and just past them, on the way in and on the way out; and what holding does to any number.
use mathlib.Core.Bool.{true, false}
use mathlib.Core.List.{List, [], ◌∷◌, map}
use mathlib.Core.Path.{◌≡◌, refl}
use Prim.Native.Nat.{ℕ}
use lib.Dec.{ltb}
use lib.IntN.{ℤ, pos, negsuc, neg_ℤ}
use borrow.Author.Tests.{leb-true, le-leb, ltb-false, le-ltb}
use Rattle.words.proofs.Pick.{by_pick}
use Rattle.words.proofs.Rows.{both}
use Rattle.linear.specs.Linear.{lowest, highest, is_level, SL, signed, held}

-- in: whether an encoder takes the number, and the word of each that it takes, 14 bits in two's complement
pub ends_in : map is_level (neg_ℤ (pos 8193) ∷ neg_ℤ (pos 8192) ∷ neg_ℤ (pos 1) ∷ pos 0 ∷ pos 8191 ∷ pos 8192 ∷ []) ≡ false ∷ true ∷ true ∷ true ∷ true ∷ false ∷ []
unfolding is_level
ends_in = refl

pub words_in : map SL (neg_ℤ (pos 8192) ∷ neg_ℤ (pos 1) ∷ pos 0 ∷ pos 8191 ∷ []) ≡ 8192 ∷ 16383 ∷ 0 ∷ 8191 ∷ []
unfolding SL
words_in = refl

-- out: words of reconstructed signals, from the least to the greatest; the numbers that they are, and the samples that are put out
abbrev pub words : List ℕ
words = 32768 ∷ 57343 ∷ 57344 ∷ 65535 ∷ 0 ∷ 8191 ∷ 8192 ∷ 32767 ∷ []

abbrev pub numbers : List ℤ
numbers = neg_ℤ (pos 32768) ∷ neg_ℤ (pos 8193) ∷ neg_ℤ (pos 8192) ∷ neg_ℤ (pos 1) ∷ pos 0 ∷ pos 8191 ∷ pos 8192 ∷ pos 32767 ∷ []

pub words_out : map (signed 16) words ≡ numbers
unfolding signed
words_out = refl

pub ends_out : map held numbers ≡ neg_ℤ (pos 8192) ∷ neg_ℤ (pos 8192) ∷ neg_ℤ (pos 8192) ∷ neg_ℤ (pos 1) ∷ pos 0 ∷ pos 8191 ∷ pos 8191 ∷ pos 8191 ∷ []
unfolding held
ends_out = refl

-- a level is put out as it is
pub held_level : (x : ℤ) → is_level x ≡ true → held x ≡ x
unfolding is_level held
held_level (pos n) level = rw (le-ltb 8191 n (leb-true n 8191 level))
held_level (negsuc n) level = rw (le-ltb 8191 n (leb-true n 8191 (both _ _ level).0))

-- whatever is put out is a level, so that an encoder takes it
pub held_taken : (x : ℤ) → is_level (held x) ≡ true
unfolding is_level held
held_taken (pos n) =
    by_pick (λ (x : ℤ). is_level x ≡ true) (ltb 8191 n) highest (pos n) (λ above. refl) (λ within. le-leb n 8191 (ltb-false 8191 n within))
held_taken (negsuc n) =
    by_pick (λ (x : ℤ). is_level x ≡ true) (ltb 8191 n) lowest (negsuc n) (λ below. refl) (λ within. rw (le-leb n 8191 (ltb-false 8191 n within)))
