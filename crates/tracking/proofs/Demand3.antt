-- Demand 3: no thrown-away bit reaches the far end's predictor. From one reset on, whatever was dropped at however many base stations, and
-- whether either end speaks mu-law, A-law or linear samples, the decoder's state equals the encoder's after every frame. Both are the states of demand 2: what
-- encode_state and decode_state of the calls' contracts say, which a call that keeps the reset state does not give.
use mathlib.Core.List.{List, [], ◌∷◌}
use mathlib.Core.Path.{◌≡◌, ◌∙◌}
use Prim.Native.Nat.{ℕ, ◌<◌}
use native.Mathlib.Omega.{arith}
use lib.ListN.{length}
use borrow.Author.Tests.{eq-eqb}
use Rattle.words.specs.Within.{Within}
use Rattle.quantizer.specs.Pair.{Pair}
use Rattle.state.specs.declared.State.{State}
use Rattle.frame.specs.Header.{header_of}
use Rattle.frame.specs.Read.{received, thinned}
use Rattle.frame.specs.Sound.{Sound}
use Rattle.frame.proofs.Headers.{Fields, borne_again, sound_fields, written_header, thinned_header}
use Rattle.frame.proofs.Return.{received_return}
use Rattle.frame.proofs.Thinning.{received_thinned}
use Rattle.frame.proofs.Kept.{written_sound}
use Rattle.reset.specs.Reset.{reset_state}
use Rattle.levels.specs.Levels.{due_header, encoded_frame, encoded_memory, encoded_codewords, encoded_state}
use Rattle.levels.proofs.Encoding.{codewords_length}
use Rattle.codewords.specs.Codewords.{decoded_memory, decoded_state}
use Rattle.codewords.specs.Decode.{decode_state}
use Rattle.tracking.specs.Calls.{encoder_after, finally, decoder_after}
use Rattle.tracking.specs.Stream.{Transfer, heard, Unrefused, AllUnrefused, EqualThroughout}
use Rattle.tracking.proofs.Runs.{memories_track, codewords_short}
use Rattle.tracking.proofs.Frames.{sent_levels, Sendable, encodable, written_is, encoder_is, arrives}

-- the frame of a run of levels that encode takes: it is sound, its header is the encoder's, and it reads back as the run's codewords
module _ (s : State) (e w : ℕ) (xs : List ℕ) {room : ℕ} (k : Sendable s e w xs room) where
  fields : Fields (due_header s e w (length xs))
  fields = sound_fields k.header (borne_again e s.number)

  pub frame_sound : Sound (header_of (encoded_frame s e w xs)) (length (encoded_frame s e w xs))
  unfolding encoded_frame
  frame_sound = written_sound k.header (borne_again e s.number) (encoded_codewords s.core w s.memory xs)

  pub frame_header : header_of (encoded_frame s e w xs) ≡ due_header s e w (length xs)
  unfolding encoded_frame
  frame_header = written_header fields (encoded_codewords s.core w s.memory xs)

  pub frame_received : received (encoded_frame s e w xs) ≡ encoded_codewords s.core w s.memory xs
  unfolding encoded_frame encoded_codewords
  frame_received =
      received_return fields (encoded_codewords s.core w s.memory xs) (codewords_length s.core w s.memory xs ∙ k.whole) (codewords_short k.header.pair s.memory xs)

  -- a decoder at the encoder's state that is given the frame thinned to width v ends in the encoder's next state, whatever its end makes of it
  pub decoder_tracks : (v : ℕ) → Within s.core w v
      → decoded_state s (header_of (thinned v (encoded_frame s e w xs))) (received (thinned v (encoded_frame s e w xs))) ≡ encoded_state s e w xs
  unfolding decoded_state decoded_memory encoded_state encoded_memory encoded_codewords
  decoder_tracks v target =
      let high = k.header.pair.widths.high in
      let small : v < 8 = omega (arith, target.high) in
      let f = encoded_frame s e w xs in
      let codewords = received_thinned {w = v} f (rw frame_header target.high) in
      let pv : Pair v s.core = record { cores = k.header.pair.cores; widths = record { low = target.low; high = omega (arith, target.high) } } in
      rw (codewords, thinned_header small f, frame_header, frame_received, memories_track s.core v w pv k.header.pair target.high s.memory xs)

module _ (s : State) (x : Transfer) (u : Unrefused s s x) where
  -- one frame's transfer, from equal states
  pub transfer_tracks : decoder_after s (heard s x) ≡ encoder_after s x.sent
  unfolding decode_state
  transfer_tracks =
      let c = x.sent in
      let k = encodable s c u.encodes in
      let levels = sent_levels c in
      let f = encoded_frame s c.edition c.width levels in
      let sent = written_is s c u.encodes in
      let header = frame_header s c.edition c.width levels k in
      let a = arrives f x.stations (frame_sound s c.edition c.width levels k) (rw sent at u.drops) in
      rw (eq-eqb _ _ u.decodes, sent, a.is, encoder_is s c u.encodes, header)
      (decoder_tracks s c.edition c.width levels k (finally c.width x.stations) (rw header at a.width))

-- from equal states, equal states after every frame
pub stream_tracks : (s : State) (xs : List Transfer) → AllUnrefused s s xs → EqualThroughout s s xs
stream_tracks s [] u = tt
stream_tracks s (x ∷ xs) (u, us) =
    let same : decoder_after s (heard s x) ≡ encoder_after s x.sent = transfer_tracks s x u in
    (same, rw same (stream_tracks (encoder_after s x.sent) xs (rw same at us)))

-- demand 3: both ends reset to one core
pub demand_3 : (core : ℕ) (xs : List Transfer) → AllUnrefused (reset_state core) (reset_state core) xs → EqualThroughout (reset_state core) (reset_state core) xs
demand_3 core xs u = stream_tracks (reset_state core) xs u
