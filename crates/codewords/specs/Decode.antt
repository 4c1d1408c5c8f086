-- The calls `decode(state, law, frame, out)` and `decode_linear(state, frame, out)`, which are one call of an end (End.antt of sample): its rows, then what the
-- end makes of the received codewords, what it counts, and the state that decoding the codewords ends in, in which the end has no part (Codewords.antt).
-- `before` and `after` are what out holds at entry and at exit, and its length is counted in samples of the end: octets, or numbers of 16 bits.
use Rattle.std.specs.Prelude.{Bool, not, List, [], ◌∷◌, ◌++◌, ◌≡◌, ℕ, eqb, ltb, length, drop}
use Rattle.std.specs.declared.result.Result.{Result}
use Rattle.words.specs.First.{Row, first}
use Rattle.words.specs.Notation.{pick}
use Rattle.lists.specs.Run.{outs, total}
use Rattle.state.specs.declared.memory.Memory.{Memory}
use Rattle.state.specs.declared.State.{State}
use Rattle.state.specs.Range.{in_range}
use Rattle.sample.specs.Decode.{decoder_next}
use Rattle.sample.specs.End.{End, Sample, is_end, heard_of, count_of}
use Rattle.frame.specs.declared.header.Header.{Header}
use Rattle.frame.specs.Header.{header_of, sample_count, is_due}
use Rattle.frame.specs.Read.{received}
use Rattle.frame.specs.Rows.{frame_rows}
use Rattle.replies.specs.declared.Refusal.{Refusal}
use Rattle.replies.specs.Reply.{number_of, reported}
use Rattle.codewords.specs.declared.Decoded.{Decoded}
use Rattle.codewords.specs.Codewords.{decoded_state}

-- the rows behind the frame's own, for a length of out; and all of them, for a frame of n octets with the header h: 4, 9, the frame's 5, 1,
-- 2 and 6, then 7, 10 and 3. Of the linear end no 9 comes
abbrev pub decode_rows : State → Header → ℕ → List Row
decode_rows s h room =
    (7, not (eqb h.core s.core)) ∷
    (10, not (is_due h s.number)) ∷
    (3, ltb room (sample_count h)) ∷ []

unfoldable pub decode_number : Bool → State → Header → ℕ → ℕ → ℕ
decode_number known s h n room = first ((4, not (in_range s)) ∷ (9, not known) ∷ (frame_rows h n ++ decode_rows s h room))

-- what an end hears of codewords of `width` bits, by what it puts out for each, and at how many of them it finds a disagreement, by what it counts
module _ (core width : ℕ) (m : Memory) (codewords : List ℕ) where
  abbrev pub heard_samples : {A : Type 0} → (ℕ → ℕ → Memory → ℕ → A) → List A
  heard_samples heard = outs (decoder_next core width) (heard core width) m codewords

  abbrev pub counted_disagreements : (ℕ → ℕ → Memory → ℕ → ℕ) → ℕ
  counted_disagreements counted = total (decoder_next core width) (counted core width) m codewords

module _ (end : End) (core width : ℕ) (m : Memory) (codewords : List ℕ) where
  unfoldable pub decoded_samples : List (Sample end)
  decoded_samples = heard_samples core width m codewords (heard_of end)

  unfoldable pub decoded_disagreements : ℕ
  decoded_disagreements = counted_disagreements core width m codewords (count_of end)

-- what a call gives for a frame, where `due` is the number of the reply that is due
module _ {A : Type 0} (due : ℕ) (s : State) (frame : List ℕ) (before : List A) where
  -- how many samples are written
  abbrev pub due_count : ℕ
  due_count = pick (eqb due 0) (sample_count (header_of frame)) 0

  abbrev pub due_disagreements : ℕ → ℕ
  due_disagreements disagreements = pick (eqb due 0) disagreements 0

  abbrev pub due_state : State
  due_state = pick (eqb due 0) (decoded_state s (header_of frame) (received frame)) s

  abbrev pub due_out : List A → List A
  due_out samples = pick (eqb due 0) (samples ++ drop (sample_count (header_of frame)) before) before

  -- a call's answer, its two counts and its state, by what its end puts out and counts
  pub record DecodesCodewords (heard : ℕ → ℕ → Memory → ℕ → A) (counted : ℕ → ℕ → Memory → ℕ → ℕ) (after : List A) (done : Result Decoded Refusal) (next : State) : Type 0 where
    pub number : number_of done ≡ due
    pub count_is : reported (λ d. d.samples) done ≡ due_count
    pub disagreements_are : reported (λ d. d.disagreements) done ≡ due_disagreements (counted_disagreements s.core (header_of frame).width s.memory (received frame) counted)
    pub state : next ≡ due_state
    pub out : after ≡ due_out (heard_samples s.core (header_of frame).width s.memory (received frame) heard)

module _ (end : End) (s : State) (frame : List ℕ) (before : List (Sample end)) where
  -- the number of the reply that is due for what is lent
  unfoldable pub decode_reply : ℕ
  decode_reply = decode_number (is_end end) s (header_of frame) (length frame) (length before)

  unfoldable pub decode_count : ℕ
  decode_count = due_count decode_reply s frame before

  unfoldable pub decode_disagreements : ℕ
  decode_disagreements = due_disagreements decode_reply s frame before (decoded_disagreements end s.core (header_of frame).width s.memory (received frame))

  unfoldable pub decode_state : State
  decode_state = due_state decode_reply s frame before

  unfoldable pub decode_out : List (Sample end)
  decode_out = due_out decode_reply s frame before (decoded_samples end s.core (header_of frame).width s.memory (received frame))

  -- a call's answer, its two counts and its state
  pub record Decodes (after : List (Sample end)) (done : Result Decoded Refusal) (next : State) : Type 0 where
    pub number : number_of done ≡ decode_reply
    pub count_is : reported (λ d. d.samples) done ≡ decode_count
    pub disagreements_are : reported (λ d. d.disagreements) done ≡ decode_disagreements
    pub state : next ≡ decode_state
    pub out : after ≡ decode_out
