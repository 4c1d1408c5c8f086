-- Whatever an end is asked or given, its state keeps its core and stays in range: of one call, and after any frames whatever.
use mathlib.Core.Bool.{Bool, true, false}
use mathlib.Core.List.{List}
use mathlib.Core.Path.{◌≡◌, refl, ◌∙◌}
use lib.Dec.{eqb}
use lib.ListN.{length}
use borrow.Author.Tests.{eqb-true}
use Rattle.words.specs.Notation.{pick}
use Rattle.words.proofs.Pick.{by_pick}
use Rattle.lists.proofs.Runs.{last_keeps}
use Rattle.state.specs.declared.State.{State}
use Rattle.state.specs.InRange.{InRange}
use Rattle.frame.specs.Header.{header_of}
use Rattle.frame.specs.Read.{body, received}
use Rattle.frame.proofs.Codewords.{read_length, read_short}
use Rattle.sample.specs.End.{is_end}
use Rattle.levels.specs.Levels.{encoded_memory, encoded_state}
use Rattle.levels.specs.Encode.{encode_state}
use Rattle.codewords.specs.Codewords.{decoded_memory, decoded_state}
use Rattle.codewords.specs.Decode.{decode_reply, decode_state}
use Rattle.codewords.proofs.Fitness.{decode_says}
use Rattle.tracking.specs.Calls.{Sending, Hearing, send_reply, encoder_after, hear_reply, decoder_after}
use Rattle.tracking.specs.History.{after_all}
use Rattle.tracking.proofs.Runs.{run_in_range, heard_in_range}
use Rattle.tracking.proofs.Frames.{sent_levels, encodable}

-- a state that is the next one where a call is done, and else the old one
core_kept : (next s : State) (done : Bool) → next.core ≡ s.core → (pick done next s).core ≡ s.core
core_kept next s true e = e
core_kept next s false e = refl

module _ (s : State) (c : Sending) where
  abbrev pub sent : State
  sent = encoded_state s c.edition c.width (sent_levels c)

  pub sender_core : (encoder_after s c).core ≡ s.core
  unfolding encoder_after encode_state encoded_state
  sender_core = core_kept sent s (eqb (send_reply s c) 0) refl

  pub sender_in_range : InRange s → InRange (encoder_after s c)
  unfolding encoder_after encode_state encoded_state encoded_memory
  sender_in_range i =
      by_pick InRange (eqb (send_reply s c) 0) sent s
      (λ done.
      let k = encodable s c (eqb-true (send_reply s c) 0 done) in
      record { memory = run_in_range k.header.pair s.memory i.memory (sent_levels c); cores = i.cores })
      (λ refused. i)

module _ (t : State) (d : Hearing) where
  abbrev pub decoded : State
  decoded = decoded_state t (header_of d.frame) (received d.frame)

  pub hearer_core : (decoder_after t d).core ≡ t.core
  unfolding decode_state decoded_state
  hearer_core = core_kept decoded t (eqb (hear_reply t d) 0) refl

  pub hearer_in_range : InRange t → InRange (decoder_after t d)
  unfolding decode_state decode_reply decoded_state decoded_memory received
  hearer_in_range i =
      let h = header_of d.frame in
      let size = read_length h.width h.groups (body d.frame) in
      by_pick InRange (eqb (hear_reply t d) 0) decoded t
      (λ done.
      let k = (decode_says (is_end d.end) t h (length d.frame) (length d.buffer) (eqb-true (hear_reply t d) 0 done)).1 in
      record {
        memory = heard_in_range (rw k.core at k.sound.header.pair) t.memory i.memory (received d.frame) (λ j there. read_short h.width h.groups (body d.frame) j (rw size at there));
        cores = i.cores;
      })
      (λ refused. i)

-- after any frames whatever
pub afterwards_in_range : (t : State) → InRange t → (ds : List Hearing) → InRange (after_all t ds)
unfolding after_all
afterwards_in_range t i ds = last_keeps decoder_after InRange (λ u d j. hearer_in_range u d j) t i ds

pub afterwards_core : (t : State) (ds : List Hearing) → (after_all t ds).core ≡ t.core
unfolding after_all
afterwards_core t ds = last_keeps decoder_after (λ (u : State). u.core ≡ t.core) (λ u d e. hearer_core u d ∙ e) t refl ds
