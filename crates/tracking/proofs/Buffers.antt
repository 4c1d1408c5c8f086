-- Demand 3's second sentence, of the calls' own buffers: "Thinned frames are, octet for octet, what the encoder would have written at the
-- narrower width." The encoder is asked twice, from one state and for the same samples: once at the call's width, and once at another, into
-- any buffer.
use mathlib.Core.List.{List}
use mathlib.Core.Path.{◌≡◌, sym, ◌∙◌}
use Prim.Native.Nat.{ℕ}
use native.Mathlib.Omega.{arith}
use Rattle.quantizer.specs.Pair.{Pair}
use Rattle.state.specs.declared.State.{State}
use Rattle.levels.specs.Levels.{encoded_frame}
use Rattle.tracking.specs.Calls.{Sending, Station, send_reply, written, encoder_after, arrived, Passed, finally}
use Rattle.tracking.specs.Stream.{at_width}
use Rattle.tracking.proofs.Frames.{sent_levels, encodable, written_is, encoder_is, arrives}
use Rattle.tracking.proofs.Narrower.{narrower_frame, narrower_state}
use Rattle.tracking.proofs.Demand3.{frame_sound, frame_header}

module _ (s : State) (c : Sending) (encodes : send_reply s c ≡ 0) (buffer : List ℕ) where
  -- the frame that arrives behind the last base station is, octet for octet, the one that the encoder would have written, had it been asked
  -- for the width that arrives; its number too
  pub arrives_as_written : (stations : List Station) → send_reply s (at_width (finally c.width stations) buffer c) ≡ 0 → Passed (written s c) stations
      → arrived (written s c) stations ≡ written s (at_width (finally c.width stations) buffer c)
  arrives_as_written stations encodes' drops =
      let v = finally c.width stations in
      let k = encodable s c encodes in
      let k' = encodable s (at_width v buffer c) encodes' in
      let sent = written_is s c encodes in
      let header = frame_header s c.edition c.width (sent_levels c) k in
      let a = arrives (encoded_frame s c.edition c.width (sent_levels c)) stations (frame_sound s c.edition c.width (sent_levels c) k) (rw sent at drops) in
      rw (sent, a.is, header, written_is s (at_width v buffer c) encodes')
      (narrower_frame s c.edition v c.width (sent_levels c) k'.header.pair k.header.pair (rw header at a.width.high))

  -- whichever width the encoder is asked for, it is in the same state after the frame: that of its core width
  pub same_state_after : (v : ℕ) → send_reply s (at_width v buffer c) ≡ 0 → encoder_after s (at_width v buffer c) ≡ encoder_after s c
  same_state_after v encodes' =
      let k = encodable s c encodes in
      let p = k.header.pair in
      let p' = (encodable s (at_width v buffer c) encodes').header.pair in
      let core : Pair s.core s.core = record { cores = p.cores; widths = record { low = omega arith; high = omega (arith, p.cores.high) } } in
      rw (encoder_is s c encodes, encoder_is s (at_width v buffer c) encodes')
      (sym (narrower_state s c.edition s.core v (sent_levels c) core p' p'.widths.low) ∙ narrower_state s c.edition s.core c.width (sent_levels c) core p p.widths.low)
