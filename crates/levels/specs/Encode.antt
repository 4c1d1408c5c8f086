-- The calls `encode(state, law, edition, width, samples, out)` and `encode_linear(state, edition, width, samples, out)`, which are one call of an end
-- (End.antt of sample): its rows, then the frame of the samples' levels, and the state that encoding them ends in. The end makes a level of each sample, and
-- what comes of the levels is in Levels.antt. `samples`, `before` and `after` are what is lent, and the octets of out at entry and at exit.
use Rattle.std.specs.Prelude.{Bool, not, List, [], ◌∷◌, ◌++◌, map, ◌≡◌, ℕ, eqb, ltb, length, drop}
use Rattle.std.specs.List.{list_all}
use Rattle.std.specs.declared.result.Result.{Result}
use Rattle.words.specs.First.{Row, first}
use Rattle.words.specs.Notation.{pick}
use Rattle.quantizer.specs.Pair.{is_pair}
use Rattle.state.specs.declared.State.{State}
use Rattle.state.specs.Range.{in_range}
use Rattle.sample.specs.End.{End, Sample, is_end, is_taken, level_of}
use Rattle.frame.specs.declared.header.Header.{Header}
use Rattle.frame.specs.Header.{is_edition, due_length, is_count}
use Rattle.replies.specs.declared.Refusal.{Refusal}
use Rattle.replies.specs.Reply.{number_of, reported}
use Rattle.levels.specs.Levels.{due_header, encoded_state, encoded_frame}

-- the rows, of what is asked for n samples and then of what is lent: 4, 9, 5, 1, 2, and 11, 3. Of G.711 no 11 comes, of the linear end no 9
abbrev pub asked_rows : Bool → State → ℕ → ℕ → ℕ → List Row
asked_rows known s e width n =
    (4, not (in_range s)) ∷
    (9, not known) ∷
    (5, not (is_edition e)) ∷
    (1, not (is_pair width s.core)) ∷
    (2, not (is_count e n)) ∷ []

abbrev pub lent_rows : Bool → Header → ℕ → List Row
lent_rows taken h room =
    (11, not taken) ∷
    (3, ltb room (due_length h)) ∷ []

unfoldable pub encode_number : Bool → State → ℕ → ℕ → ℕ → Bool → ℕ → ℕ
encode_number known s e width n taken room = first (asked_rows known s e width n ++ lent_rows taken (due_header s e width n) room)

module _ (end : End) (samples : List (Sample end)) where
  -- every sample is one that the end takes; and their levels
  abbrev pub are_taken : Bool
  are_taken = list_all (is_taken end) samples

  abbrev pub levels_of : List ℕ
  levels_of = map (level_of end) samples

-- what a call gives for n samples with these levels, where `due` is the number of the reply that is due
module _ (due : ℕ) (s : State) (e width n : ℕ) (levels before : List ℕ) where
  abbrev pub due_octets : ℕ
  due_octets = pick (eqb due 0) (due_length (due_header s e width n)) 0

  abbrev pub due_state : State
  due_state = pick (eqb due 0) (encoded_state s e width levels) s

  abbrev pub due_out : List ℕ
  due_out = pick (eqb due 0) (encoded_frame s e width levels ++ drop (due_length (due_header s e width n)) before) before

  -- a call's answer, and its state
  pub record EncodesLevels (after : List ℕ) (done : Result ℕ Refusal) (next : State) : Type 0 where
    pub number : number_of done ≡ due
    pub octets_are : reported (λ n. n) done ≡ due_octets
    pub state : next ≡ due_state
    pub out : after ≡ due_out

module _ (end : End) (s : State) (e width : ℕ) (samples : List (Sample end)) (before : List ℕ) where
  -- the number of the reply that is due for what is lent
  unfoldable pub encode_reply : ℕ
  encode_reply = encode_number (is_end end) s e width (length samples) (are_taken end samples) (length before)

  unfoldable pub encode_octets : ℕ
  encode_octets = due_octets encode_reply s e width (length samples) (levels_of end samples) before

  unfoldable pub encode_state : State
  encode_state = due_state encode_reply s e width (length samples) (levels_of end samples) before

  unfoldable pub encode_out : List ℕ
  encode_out = due_out encode_reply s e width (length samples) (levels_of end samples) before

  -- a call's answer, and its state
  pub record Encodes (after : List ℕ) (done : Result ℕ Refusal) (next : State) : Type 0 where
    pub number : number_of done ≡ encode_reply
    pub octets_are : reported (λ n. n) done ≡ encode_octets
    pub state : next ≡ encode_state
    pub out : after ≡ encode_out
