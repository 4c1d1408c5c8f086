-- What holds of every answer of read: the contract leaves no choice (of write too), what is reported fits what was lent, and a call with room gets on.
use Rattle.std.proofs.Common.{◌≡◌, ℕ, ◌-◌, ◌<◌, ◌≤◌, false, List, [], ◌∷◌, length, sym, ◌∙◌, arith, length-append, None, Some}
use Rattle.std.specs.Option.{option_to_list}
use native.Mathlib.Decide.{dec_le}
use Rattle.words.proofs.Pick.{cases}
use Rattle.sequence.specs.Piece.{Piece, stop, further, Fills}
use Rattle.sequence.specs.Reading.{is_refused, step_of, next, given_of, given, reading, Reads}
use Rattle.sequence.specs.declared.reader.Reader.{Reader}
use Rattle.sequence.specs.declared.progress.Progress.{Progress}
use Rattle.sequence.specs.declared.step.Stepped.{Stepped}
use Rattle.sequence.proofs.Taking.{reading_refused, reading_full, reading_more}

-- two answers that make the same of a piece are equal, and so are the exit buffers
pub filled_alike : {S : Type 0} {p : Piece S} {before after after' : List ℕ} (a b : Progress S) → Fills p before after a.state a.taken a.written
    → Fills p before after' b.state b.taken b.written → (a ≡ b) × (after ≡ after')
filled_alike a b f g =
    (λ i. record { state = (f.state_is ∙ sym g.state_is) i; taken = (f.taken_is ∙ sym g.taken_is) i; written = (f.written_is ∙ sym g.written_is) i }, f.out ∙ sym g.out)

-- two conforming answers are equal, and so are the exit buffers
pub read_equal : (r : Reader) (text before after after' : List ℕ) (a b : Progress Reader) → Reads r text before after a → Reads r text before after' b → (a ≡ b) × (after ≡ after')
read_equal r text before after after' a b p q = filled_alike a b p q

-- one character gives at most one value
given_few : (s : Stepped) → length (given_of s) ≤ 1
given_few s = elim s.value as (λ v. length (option_to_list v) ≤ 1) [ None ↦ omega arith | Some v ↦ omega arith ]

pub record Bounded (room : ℕ) (text : List ℕ) (p : Piece Reader) : Type 0 where
  pub taken : p.taken ≤ length text
  pub fits : length p.made ≤ room
  pub few : length p.made ≤ p.taken

module _ (room : ℕ) (r : Reader) (c : ℕ) (cs : List ℕ) where
  bounded_stop : (s : Reader) → Bounded room (c ∷ cs) (stop s)
  unfolding stop
  bounded_stop s = record { taken = omega arith; fits = omega arith; few = omega arith }

  bounded_further : (g : List ℕ) (p : Piece Reader) → length g ≤ 1 → length g ≤ room → Bounded (room - length g) cs p → Bounded room (c ∷ cs) (further 1 g p)
  unfolding further
  bounded_further g p one some b =
      let taken = b.taken in
      let fits = b.fits in
      let few = b.few in
      record { taken = omega arith; fits = simp length-append (omega arith); few = simp length-append (omega arith) }

  bounded_next : Bounded (room - length (given r c)) cs (reading (room - length (given r c)) (next r c) cs) → Dec (length (given r c) ≤ room) → Bounded room (c ∷ cs) (reading room r (c ∷ cs))
  bounded_next later (yes d) =
      cases (is_refused (next r c).verdict) (λ e. rw (reading_refused room r c cs e) (bounded_stop (next r c)))
      (λ e. rw (reading_more room r c cs e d) (bounded_further (given r c) (reading (room - length (given r c)) (next r c) cs) (given_few (step_of r c)) d later))
  bounded_next later (no d) =
      cases (is_refused (next r c).verdict) (λ e. rw (reading_refused room r c cs e) (bounded_stop (next r c))) (λ e. rw (reading_full room r c cs e (omega arith)) (bounded_stop r))

-- no more is taken than there is, no more is written than there is room for, nor than is taken
pub read_bounded : (room : ℕ) (r : Reader) (text : List ℕ) → Bounded room text (reading room r text)
unfolding reading stop
read_bounded room r [] = record { taken = omega arith; fits = omega arith; few = omega arith }
read_bounded room r (c ∷ cs) = bounded_next room r c cs (read_bounded (room - length (given r c)) (next r c) cs) (dec_le (length (given r c)) room)

-- with room for one value a character is taken, or the reader is refused
pub read_gets_on : (room : ℕ) (r : Reader) (c : ℕ) (cs : List ℕ) → 0 < room → is_refused (reading room r (c ∷ cs)).state.verdict ≡ false → 0 < (reading room r (c ∷ cs)).taken
unfolding stop further
read_gets_on room r c cs some sound =
    cases (is_refused (next r c).verdict)
    (λ e. cc (e, rw (reading_refused room r c cs e) at sound))
    (λ e. let few = given_few (step_of r c) in rw (reading_more room r c cs e (omega arith)) (omega arith))
