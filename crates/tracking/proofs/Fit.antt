-- Fit inputs are not refused: demand 3's premise follows where each frame's inputs are fit by themselves, whatever the speech is.
use mathlib.Core.List.{List, [], ◌∷◌}
use mathlib.Core.Path.{◌≡◌, refl, ◌∙◌}
use Prim.Native.Nat.{ℕ, ◌<◌}
use native.Mathlib.Omega.{arith}
use lib.ListN.{length}
use Rattle.words.specs.Within.{Within}
use Rattle.state.specs.declared.State.{State}
use Rattle.state.specs.Reset.{reset_of}
use Rattle.state.specs.InRange.{InRange}
use Rattle.state.proofs.Ranges.{reset_in_range, reset_core}
use Rattle.frame.specs.declared.header.Header.{Header}
use Rattle.frame.specs.Header.{header_of}
use Rattle.frame.specs.Read.{narrowed, thinned}
use Rattle.frame.specs.Sound.{Sound}
use Rattle.frame.proofs.Headers.{thinned_header}
use Rattle.frame.proofs.Kept.{thinned_sound}
use Rattle.frame.proofs.Due.{due_of_borne}
use Rattle.sample.specs.End.{is_end}
use Rattle.levels.specs.Levels.{due_header, encoded_frame}
use Rattle.levels.specs.Encode.{are_taken, encode_reply}
use Rattle.levels.specs.Inner.{Encodable}
use Rattle.levels.proofs.Fitness.{encode_number_of}
use Rattle.drop_planes.specs.Drop.{drop_reply}
use Rattle.drop_planes.proofs.Fitness.{drop_of}
use Rattle.codewords.specs.Decode.{decode_reply}
use Rattle.codewords.specs.Inner.{Decodable}
use Rattle.codewords.proofs.Fitness.{decode_number_of}
use Rattle.tracking.specs.Calls.{Sending, Station, send_reply, encoder_after, decoder_after, Passed, finally}
use Rattle.tracking.specs.Stream.{Transfer, heard, Unrefused, AllUnrefused, EqualThroughout, Narrowing, sent_header, FitSending, Fit, AllFit}
use Rattle.tracking.proofs.Frames.{sent_levels, levels_sized, Sendable, written_is, passed_is, arrives}
use Rattle.tracking.proofs.Kept.{sender_core, sender_in_range}
use Rattle.tracking.proofs.Demand3.{frame_sound, frame_header, transfer_tracks, stream_tracks}

-- no base station refuses a sound frame that comes down to it
passes : (frame : List ℕ) (stations : List Station) → Sound (header_of frame) (length frame) → Narrowing (header_of frame) stations → Passed frame stations
unfolding drop_reply
passes frame [] sound d = tt
passes frame (b ∷ bs) sound d =
    let fits = drop_of (header_of frame) (length frame) b.width (length b.buffer) (record { sound = sound; target = d.0; space = d.1 }) in
    let small : b.width < 8 = omega (arith, d.0.high, sound.header.pair.widths.high) in
    let on = passed_is frame b fits in
    (fits, rw on (passes (thinned b.width frame) bs (thinned_sound frame sound d.0) (rw (thinned_header small frame) d.2)))

-- a call of an encoder with fit inputs, at a state in range
module _ (s : State) (c : Sending) (i : InRange s) (k : FitSending s.core c) where
  pub able : Encodable s (due_header s c.edition c.width (length c.samples)) (length c.samples) (length c.buffer)
  able =
      let header = k.header in
      record { range = i; header = record { known = header.known; pair = header.pair; count = header.count }; core = refl; whole = k.whole; space = k.room }

  pub sends : send_reply s c ≡ 0
  unfolding encode_reply
  sends = encode_number_of (is_end c.end) s c.edition c.width (length c.samples) (are_taken c.end c.samples) (length c.buffer) k.known k.taken able

-- what base stations ask of a header is not its number
narrowing_numbered : (h : Header) (n : ℕ) (stations : List Station) → Narrowing h stations → Narrowing (record { edition = h.edition; width = h.width; core = h.core; groups = h.groups; number = n }) stations
narrowing_numbered h n [] d = tt
narrowing_numbered h n (b ∷ bs) d = (d.0, d.1, narrowing_numbered (narrowed b.width h) n bs d.2)

module _ (s : State) (x : Transfer) (i : InRange s) (k : Fit s.core x) where
  abbrev c : Sending
  c = x.sent

  encodes : send_reply s c ≡ 0
  encodes = sends s c i k.sending

  sendable : Sendable s c.edition c.width (sent_levels c) (length c.buffer)
  sendable = rw (levels_sized c) (able s c i k.sending)

  abbrev frame : List ℕ
  frame = encoded_frame s c.edition c.width (sent_levels c)

  sound : Sound (header_of frame) (length frame)
  sound = frame_sound s c.edition c.width (sent_levels c) sendable

  header : header_of frame ≡ due_header s c.edition c.width (length c.samples)
  header = frame_header s c.edition c.width (sent_levels c) sendable ∙ rw (levels_sized c)

  drops : Passed frame x.stations
  drops = passes frame x.stations sound (rw header (narrowing_numbered (sent_header s.core c) _ x.stations k.stations))

  pub transfer_fits : Unrefused s s x
  unfolding decode_reply
  transfer_fits =
      let sent = written_is s c encodes in
      let a = arrives frame x.stations sound drops in
      let v = finally (header_of frame).width x.stations in
      let small : v < 8 = omega (arith, a.width.high, sound.header.pair.widths.high) in
      let arrives-with = thinned_header small frame in
      let decodable : Decodable s (header_of (thinned v frame)) (length (thinned v frame)) (length x.buffer) =
      record {
        range = i;
        sound = thinned_sound frame sound a.width;
        core = rw (arrives-with, header);
        due = rw (arrives-with, header) (due_of_borne c.edition s.number);
        space = rw (arrives-with, header) (omega (arith, k.sending.whole, k.room));
      } in
      record {
        encodes = encodes;
        drops = rw sent drops;
        decodes = rw (sent, a.is) (decode_number_of (is_end x.end) s (header_of (thinned v frame)) (length (thinned v frame)) (length x.buffer) k.known decodable);
      }

pub stream_fits : (s : State) (core : ℕ) → InRange s → s.core ≡ core → (xs : List Transfer) → AllFit core xs → AllUnrefused s s xs
stream_fits s core i e [] k = tt
stream_fits s core i e (x ∷ xs) (k, ks) =
    let here : Fit s.core x = rw e k in
    let u = transfer_fits s x i here in
    let same : decoder_after s (heard s x) ≡ encoder_after s x.sent = transfer_tracks s x u in
    (u, rw same (stream_fits (encoder_after s x.sent) core (sender_in_range s x.sent i) (sender_core s x.sent ∙ e) xs ks))

-- demand 3 for fit inputs: from one reset on, no call is refused, and the states are equal after every frame
pub demand_3_fit : (core : ℕ) → Within 2 4 core → (xs : List Transfer) → AllFit core xs
    → AllUnrefused (reset_of core) (reset_of core) xs × EqualThroughout (reset_of core) (reset_of core) xs
demand_3_fit core within xs k =
    let u = stream_fits (reset_of core) core (reset_in_range core within) (reset_core core) xs k in
    (u, stream_tracks (reset_of core) xs u)
