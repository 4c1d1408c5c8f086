-- A refused reader stays as it is, whatever follows, and hands nothing out; and the character that refuses it hands nothing out either.
use Rattle.std.proofs.Common.{◌≡◌, ℕ, ◌%◌, true, false, not, ◌&&◌, eqb, leb, List, [], ◌∷◌, refl, ap}
use Rattle.words.proofs.Pick.{by_pick}
use Rattle.lists.specs.Run.{last}
use Rattle.sequence.specs.Limits.{line_feed, longest, is_whole}
use Rattle.sequence.specs.Digits.{digit_of, is_digit}
use Rattle.sequence.specs.Reading.{is_refused, first_digit, second_digit, with_digit, step_of, next, given_of, given, handed_out, end_of}
use Rattle.sequence.specs.declared.reader.Reader.{Reader}
use Rattle.sequence.specs.declared.step.Stepped.{Stepped}
use Rattle.sequence.proofs.Rows.{step_refused}

module _ (r : Reader) (is : is_refused r.verdict ≡ true) where
  pub refused_next : (c : ℕ) → next r c ≡ r
  refused_next c = ap (λ (s : Stepped). s.reader) (step_refused r c is)

  pub refused_given : (c : ℕ) → given r c ≡ []
  refused_given c = ap given_of (step_refused r c is)

  pub refused_last : (text : List ℕ) → last next r text ≡ r
  unfolding last
  refused_last [] = refl
  refused_last (c ∷ cs) = rw (refused_next c) (refused_last cs)

  pub refused_hands : (text : List ℕ) → handed_out r text ≡ []
  unfolding handed_out
  refused_hands [] = refl
  refused_hands (c ∷ cs) = rw (refused_given c, refused_next c) (refused_hands cs)

  pub refused_end : end_of r ≡ r.verdict
  unfolding end_of
  refused_end = rw is

-- what a step may be: where it ends refused, it gives nothing
Quiet : Stepped → Type 0
Quiet s = is_refused s.reader.verdict ≡ true → given_of s ≡ []

module _ (r : Reader) (sound : is_refused r.verdict ≡ false) where
  quiet_digit : (d : ℕ) → Quiet (with_digit r d)
  unfolding Quiet with_digit first_digit second_digit
  quiet_digit d =
      by_pick Quiet (eqb (r.column % 2) 0) _ _
      (λ t. by_pick Quiet r.holds _ _ (λ u e. cc (e, sound)) (λ u e. refl))
      (λ t. by_pick Quiet (eqb r.column 1) _ _ (λ u e. refl) (λ u e. cc (e, sound)))

pub refusing_gives : (r : Reader) (c : ℕ) → is_refused (next r c).verdict ≡ true → given r c ≡ []
unfolding Quiet step_of
refusing_gives r c =
    by_pick Quiet (is_refused r.verdict) _ _ (λ t e. refl)
    (λ t. by_pick Quiet (eqb c line_feed && is_whole r.column) _ _ (λ u e. refl)
    (λ u. by_pick Quiet (not (is_digit c)) _ _ (λ v e. refl)
    (λ v. by_pick Quiet (leb longest r.column) _ _ (λ w e. refl) (λ w. quiet_digit r t (digit_of c)))))
