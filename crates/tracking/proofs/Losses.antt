-- What becomes of a lost frame. Behind it every edition 2 frame of the stream is refused with 10, up to the 255th, and leaves state and buffers
-- alone; an edition 1 frame is decoded as ever; and a frame whose number is the due one is taken for it, whatever its place.
use mathlib.Core.Bool.{true, false}
use mathlib.Core.List.{List, [], ◌∷◌}
use mathlib.Core.Path.{◌≡◌, sym, ap, ◌∙◌}
use Prim.Native.Nat.{ℕ, ◌%◌, ◌≤◌}
use native.Mathlib.Omega.{arith}
use lib.ListN.{length}
use borrow.Author.Tests.{eq-eqb, ne_eqb}
use Rattle.words.specs.First.{first}
use Rattle.words.specs.Within.{Within}
use Rattle.words.proofs.Pick.{cases}
use Rattle.state.specs.declared.State.{State}
use Rattle.state.specs.Reset.{reset_of}
use Rattle.state.specs.InRange.{InRange}
use Rattle.state.proofs.Ranges.{range_of, reset_in_range, reset_core, reset_numbered}
use Rattle.sample.specs.End.{is_end}
use Rattle.frame.specs.Header.{header_of, sample_count, is_due}
use Rattle.frame.specs.Sound.{Sound}
use Rattle.frame.proofs.Sounds.{sound_none}
use Rattle.codewords.specs.Decode.{decode_reply, decode_count, decode_disagreements, decode_state, decode_out}
use Rattle.codewords.proofs.Fitness.{decode_number_of, decode_behind}
use Rattle.tracking.specs.Calls.{Sending, Hearing, hear_reply, decoder_after}
use Rattle.tracking.specs.History.{numbered_frames, is_numbered_frame, accepted, after_all, Brings, AllBehind, Refused, AllRefused}
use Rattle.tracking.proofs.Kept.{hearer_core, hearer_in_range, afterwards_in_range, afterwards_core}
use Rattle.tracking.proofs.Numbers.{hearer_number, hearer_counts}
use Rattle.tracking.proofs.Histories.{Bearing, bearing_same, brought_bears}

-- a sound frame of the state's core, at a state in range, for an end that there is
pub record Hearable (t : State) (d : Hearing) : Type 0 where
  pub range : InRange t
  pub known : is_end d.end ≡ true
  pub sound : Sound (header_of d.frame) (length d.frame)
  pub core : (header_of d.frame).core ≡ t.core

module _ (t : State) (d : Hearing) (k : Hearable t d) where
  -- where its number is not due it is refused with 10
  refused_number : is_due (header_of d.frame) t.number ≡ false → hear_reply t d ≡ 10
  unfolding decode_reply first
  refused_number late =
      decode_behind (is_end d.end) t (header_of d.frame) (length d.frame) (length d.buffer) (range_of t k.range) k.known (sound_none (header_of d.frame) (length d.frame) k.sound)
      ∙ rw (eq-eqb _ _ k.core, late)

  -- where it is due, or there is none, it is decoded
  pub due_decoded : is_due (header_of d.frame) t.number ≡ true → sample_count (header_of d.frame) ≤ length d.buffer → hear_reply t d ≡ 0
  unfolding decode_reply
  due_decoded due room =
      decode_number_of (is_end d.end) t (header_of d.frame) (length d.frame) (length d.buffer) k.known
      (record { range = k.range; sound = k.sound; core = k.core; due = due; space = room })

  pub unnumbered_decoded : is_numbered_frame d ≡ false → sample_count (header_of d.frame) ≤ length d.buffer → hear_reply t d ≡ 0
  unnumbered_decoded plain room = due_decoded (rw plain) room

-- a refusal with 10 leaves all as it was
refused : (t : State) (d : Hearing) → hear_reply t d ≡ 10 → Refused t d
unfolding decode_count decode_disagreements decode_state decode_out
refused t d number = record { number = number; count = rw number; disagreements = rw number; state = rw number; out = rw number }

module _ {core n : ℕ} (t : State) (d : Hearing) (i : InRange t) (known : is_end d.end ≡ true) (b : Bearing core n d.frame) (e : core ≡ t.core) where
  hears : Hearable t d
  hears = record { range = i; known = known; sound = b.sound; core = b.core_is ∙ e }

  pub other_number_refused : (n ≡ t.number → ⊥) → Refused t d
  other_number_refused other =
      refused t d (refused_number t d hears (rw (b.numbered, ne_eqb (header_of d.frame).number t.number (λ same. other (sym b.number_is ∙ same)))))

  pub due_number_taken : n ≡ t.number → sample_count (header_of d.frame) ≤ length d.buffer → hear_reply t d ≡ 0
  due_number_taken same room = due_decoded t d hears (rw (b.numbered, eq-eqb (header_of d.frame).number t.number (b.number_is ∙ same))) room

-- both ends reset to one core, and the encoder has made any calls
module _ (core : ℕ) (within : Within 2 4 core) (cs : List Sending) where
  abbrev start : State
  start = reset_of core

  abbrev frames : List (List ℕ)
  frames = numbered_frames start cs

  bears : {place : ℕ} {d : Hearing} → Brings frames place d → Bearing core (place % 256) d.frame
  bears {place} brings =
      let from = reset_numbered core in
      bearing_same (reset_core core) (omega arith) (brought_bears start (omega arith) cs {place = place} brings)

  -- a frame of this stream at another place than the due one, modulo 256, is refused with 10
  pub other_place_refused : (t : State) → InRange t → t.core ≡ core → (place : ℕ) (d : Hearing) → is_end d.end ≡ true → Brings frames place d
      → (place % 256 ≡ t.number → ⊥) → Refused t d
  other_place_refused t i e place d known brings other = other_number_refused t d i known (bears brings) (sym e) other

  -- and one at the due place, or any number of times 256 places off, is taken for the due one
  pub taken_for_due : (ds : List Hearing) (place : ℕ) (d : Hearing) → is_end d.end ≡ true → Brings frames place d → sample_count (header_of d.frame) ≤ length d.buffer
      → place % 256 ≡ accepted start ds % 256 → hear_reply (after_all start ds) d ≡ 0
  taken_for_due ds place d known brings room same =
      let from = reset_numbered core in
      let counted = hearer_counts start (omega arith) ds in
      due_number_taken (after_all start ds) d (afterwards_in_range start (reset_in_range core within) ds) known (bears brings) (sym (afterwards_core start ds ∙ reset_core core)) (omega arith) room

  module _ (lost : ℕ) where
    -- from any state whose number is the lost frame's
    losing : (t : State) → InRange t → t.core ≡ core → t.number ≡ lost % 256 → (ds : List Hearing) → AllBehind frames lost ds → AllRefused t ds
    losing t i e due [] b = tt
    losing t i e due (d ∷ ds) (b, bs) =
        let late : is_numbered_frame d ≡ true → Refused t d =
        λ numbered.
        let k = b numbered in
        let after = k.after in
        let near = k.near in
        other_place_refused t i e k.place d k.known k.brings (λ same. omega arith) in
        let stays : (decoder_after t d).number ≡ t.number =
        cases (is_numbered_frame d) (λ numbered. ap (λ (u : State). u.number) (late numbered).state) (λ plain. hearer_number t d ∙ rw plain) in
        (late, losing (decoder_after t d) (hearer_in_range t d i) (hearer_core t d ∙ e) (stays ∙ due) ds bs)

    -- the decoder has accepted as many edition 2 frames as there are before the lost one, whatever else it was given: then every edition 2 frame
    -- behind the lost one, up to the 255th, is refused with 10 and leaves state and buffer alone
    pub after_a_loss : (ds : List Hearing) → accepted start ds ≡ lost → (more : List Hearing) → AllBehind frames lost more → AllRefused (after_all start ds) more
    after_a_loss ds just more b =
        let from = reset_numbered core in
        let counted = hearer_counts start (omega arith) ds in
        losing (after_all start ds) (afterwards_in_range start (reset_in_range core within) ds) (afterwards_core start ds ∙ reset_core core) (omega arith) more b
