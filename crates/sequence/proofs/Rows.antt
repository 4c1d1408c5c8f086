-- The rows of a reader's step, one by one: what a character does, by the tests that lead to it.
use Rattle.std.proofs.Common.{◌≡◌, ℕ, ◌<◌, ◌≤◌, true, false, ◌&&◌, eqb, le-ltb, lt-ltb, le-leb}
use borrow.Author.Tests.{lt-leb}
use Rattle.sequence.specs.Limits.{line_feed, longest, is_whole}
use Rattle.sequence.specs.Digits.{digit_of}
use Rattle.sequence.specs.Reading.{is_refused, refused, line_ended, kept, with_digit, step_of}
use Rattle.sequence.specs.declared.reader.Refusal.TheVariants.{BadCharacter, LineTooLong}
use Rattle.sequence.specs.declared.reader.Reader.{Reader}

module _ (r : Reader) (c : ℕ) where
  pub step_refused : is_refused r.verdict ≡ true → step_of r c ≡ kept r
  unfolding step_of
  step_refused e = rw e

  module _ (sound : is_refused r.verdict ≡ false) where
    pub step_line : eqb c line_feed && is_whole r.column ≡ true → step_of r c ≡ kept (line_ended r)
    unfolding step_of
    step_line e = rw (sound, e)

    module _ (inside : eqb c line_feed && is_whole r.column ≡ false) where
      pub step_bad : 16 ≤ digit_of c → step_of r c ≡ kept (refused r BadCharacter)
      unfolding step_of
      step_bad h = rw (sound, inside, le-ltb _ _ h)

      pub step_long : digit_of c < 16 → longest ≤ r.column → step_of r c ≡ kept (refused r LineTooLong)
      unfolding step_of
      step_long d h = rw (sound, inside, lt-ltb _ _ d, le-leb _ _ h)

      pub step_digit : digit_of c < 16 → r.column < longest → step_of r c ≡ with_digit r (digit_of c)
      unfolding step_of
      step_digit d h = rw (sound, inside, lt-ltb _ _ d, lt-leb _ _ h)
