-- One frame's transfer: what the encoder wrote, what each base station passes on and what arrives, as frames of codewords.
use mathlib.Core.List.{List, [], ◌∷◌}
use mathlib.Core.Path.{◌≡◌, sym, ◌∙◌}
use Prim.Native.Nat.{ℕ, ◌<◌}
use native.Mathlib.Omega.{arith}
use lib.ListN.{length, drop}
use lib.Seq.{take_at}
use borrow.Author.Tests.{eq-eqb}
use Rattle.words.specs.Within.{Within}
use Rattle.state.specs.declared.State.{State}
use Rattle.frame.specs.Header.{header_of, due_length}
use Rattle.frame.specs.Read.{narrowed, thinned}
use Rattle.frame.specs.Sound.{Sound}
use Rattle.frame.proofs.Sizes.{written_length}
use Rattle.frame.proofs.Headers.{thinned_header}
use Rattle.frame.proofs.Thinning.{thinned_same, thinned_thinned}
use Rattle.frame.proofs.Kept.{thinned_sound, thinned_length}
use Rattle.sample.specs.End.{is_end}
use Rattle.levels.specs.Levels.{due_header, encoded_frame, encoded_codewords, encoded_state}
use Rattle.levels.specs.Encode.{are_taken, levels_of, encode_reply, encode_octets, encode_state, encode_out}
use Rattle.levels.specs.Inner.{Encodable}
use Rattle.levels.proofs.Fitness.{encode_says}
use Rattle.levels.proofs.Samples.{levels_length}
use Rattle.drop_planes.specs.Drop.{drop_reply, drop_octets, drop_out}
use Rattle.drop_planes.specs.Inner.{Droppable}
use Rattle.drop_planes.proofs.Fitness.{drop_says}
use Rattle.tracking.specs.Calls.{Sending, Station, send_reply, written, encoder_after, passed_on, arrived, Passed, finally}

-- the levels that the encoder's end makes of the samples
abbrev pub sent_levels : Sending → List ℕ
sent_levels c = levels_of c.end c.samples

pub levels_sized : (c : Sending) → length (sent_levels c) ≡ length c.samples
levels_sized c = levels_length c.end c.samples

-- a frame of levels that an encoder takes, whichever end they come from
abbrev pub Sendable : State → ℕ → ℕ → List ℕ → ℕ → Type 0
Sendable s e width levels room = Encodable s (due_header s e width (length levels)) (length levels) room

module _ (s : State) (c : Sending) (fits : send_reply s c ≡ 0) where
  pub encodable : Sendable s c.edition c.width (sent_levels c) (length c.buffer)
  unfolding encode_reply
  encodable = rw (levels_sized c) (encode_says (is_end c.end) s c.edition c.width (length c.samples) (are_taken c.end c.samples) (length c.buffer) fits).2

  -- the octets that the encoder reports are the encoded frame
  pub written_is : written s c ≡ encoded_frame s c.edition c.width (sent_levels c)
  unfolding written encode_octets encode_out encoded_frame
  written_is =
      let h = due_header s c.edition c.width (length (sent_levels c)) in
      let frame = encoded_frame s c.edition c.width (sent_levels c) in
      rw (eq-eqb _ _ fits, ← levels_sized c)
      (take_at frame (drop (due_length h) c.buffer) (due_length h) (written_length h (encoded_codewords s.core c.width s.memory (sent_levels c))))

  pub encoder_is : encoder_after s c ≡ encoded_state s c.edition c.width (sent_levels c)
  unfolding encoder_after encode_state
  encoder_is = rw (eq-eqb _ _ fits)

module _ (frame : List ℕ) (b : Station) (fits : drop_reply frame b.width b.buffer ≡ 0) where
  pub droppable : Droppable (header_of frame) (length frame) b.width (length b.buffer)
  unfolding drop_reply
  droppable = drop_says (header_of frame) (length frame) b.width (length b.buffer) fits

  -- the octets that drop reports are the thinned frame
  pub passed_is : passed_on frame b ≡ thinned b.width frame
  unfolding passed_on drop_octets drop_out
  passed_is =
      let n = due_length (narrowed b.width (header_of frame)) in
      rw (eq-eqb _ _ fits) (take_at (thinned b.width frame) (drop n b.buffer) n (thinned_length frame droppable.sound droppable.target.high))

-- what arrives is the frame, thinned to the width that arrives, which is from the core to the frame's own width
pub record Arrives (frame : List ℕ) (stations : List Station) : Type 0 where
  pub is : arrived frame stations ≡ thinned (finally (header_of frame).width stations) frame
  pub width : Within (header_of frame).core (header_of frame).width (finally (header_of frame).width stations)

pub arrives : (frame : List ℕ) (stations : List Station) → Sound (header_of frame) (length frame) → Passed frame stations → Arrives frame stations
unfolding arrived finally
arrives frame [] sound p = record { is = sym (thinned_same frame sound); width = record { low = sound.header.pair.widths.low; high = omega arith } }
arrives frame (b ∷ bs) sound p =
    let k = droppable frame b p.0 in
    let small : b.width < 8 = omega (arith, k.target.high, sound.header.pair.widths.high) in
    let header = thinned_header small frame in
    let on = passed_is frame b p.0 in
    let rest = arrives (thinned b.width frame) bs (thinned_sound frame sound k.target) (rw on at p.1) in
    let width = rw header at rest.width in
    record {
      is = rw on (rest.is ∙ rw header (thinned_thinned width.high small frame));
      width = record { low = width.low; high = omega (arith, width.high, k.target.high) };
    }
