-- The digit of a character as core reads it; and that no digit is a line feed.
use Rattle.std.proofs.Common.{◌≡◌, ℕ, ◌<◌, false, eqb, ap, arith, ne_eqb, min}
use Rattle.std.specs.Char.{digit_value}
use Rattle.std.proofs.lemmas.Bool.Decides.{nat_tests}
use Rattle.sequence.specs.Limits.{line_feed}
use Rattle.sequence.specs.Digits.{digit_of}

module _ (c : ℕ) where
  pub digit_no_feed : digit_of c < 16 → eqb c line_feed ≡ false
  unfolding digit_of
  digit_no_feed d = ne_eqb c 10 (λ e. let none : digit_of c ≡ digit_of 10 = ap digit_of e in omega arith)

  -- core's value of a digit or a letter, as far as it is a digit here
  pub digit_as_core : digit_of c ≡ min 16 (digit_value c)
  unfolding digit_of
  digit_as_core = grind (arith, nat_tests)
