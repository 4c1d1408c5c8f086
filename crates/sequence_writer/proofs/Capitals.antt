-- The capital digits: each is read back as the number that it was written for, and none is a line feed.
use Rattle.std.proofs.Common.{◌≡◌, ℕ, ◌+◌, ◌<◌, ◌≤◌, false, eqb, ltb, [], ◌∷◌, get_or, arith, ne_eqb, eqb-true}
use Rattle.words.proofs.Pick.{by_pick}
use Rattle.words.proofs.Tests.{below_at, is_true}
use Rattle.sequence.specs.Limits.{line_feed}
use Rattle.sequence.specs.Digits.{digit_of}
use Rattle.sequence_writer.specs.Layout.{capital}

module _ (d : ℕ) where
  pub capital_read : d < 16 → digit_of (capital d) ≡ d
  unfolding digit_of capital
  capital_read h = eqb-true (digit_of (capital d)) d (is_true _ (below_at (λ k. eqb (digit_of (capital k)) k) 16 d tt h))

  -- the row of them that the code holds
  pub capital_row : d < 16 → get_or (48 ∷ 49 ∷ 50 ∷ 51 ∷ 52 ∷ 53 ∷ 54 ∷ 55 ∷ 56 ∷ 57 ∷ 65 ∷ 66 ∷ 67 ∷ 68 ∷ 69 ∷ 70 ∷ []) d 0 ≡ capital d
  unfolding capital
  capital_row h = eqb-true _ _ (is_true _ (below_at (λ k. eqb (get_or (48 ∷ 49 ∷ 50 ∷ 51 ∷ 52 ∷ 53 ∷ 54 ∷ 55 ∷ 56 ∷ 57 ∷ 65 ∷ 66 ∷ 67 ∷ 68 ∷ 69 ∷ 70 ∷ []) k 0) (capital k)) 16 d tt h))

  capital_high : 48 ≤ capital d
  unfolding capital
  capital_high = by_pick (λ (c : ℕ). 48 ≤ c) (ltb d 10) (48 + d) (55 + d) (λ e. omega arith) (λ e. omega arith)

  pub capital_no_feed : eqb (capital d) line_feed ≡ false
  capital_no_feed = ne_eqb (capital d) line_feed (λ e. omega (arith, capital_high))
