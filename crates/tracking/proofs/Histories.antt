-- Over histories: an edition 2 frame of this encoder is accepted only where its place among the encoder's edition 2 frames is, modulo 256, the count of
-- edition 2 frames that the decoder has accepted before it.
use mathlib.Core.Bool.{Bool, true, false}
use mathlib.Core.List.{List, [], ◌∷◌, ◌++◌}
use mathlib.Core.Path.{◌≡◌, refl, sym, ap, ◌∙◌}
use Prim.Native.Nat.{ℕ, zero, suc, ◌+◌, ◌%◌, ◌<◌}
use native.Mathlib.Omega.{arith}
use lib.Dec.{eqb}
use lib.ListN.{length, get_or}
use borrow.Author.Tests.{eqb-true}
use Rattle.words.specs.Notation.{pick}
use Rattle.words.proofs.Pick.{by_pick}
use Rattle.words.proofs.Rows.{both}
use Rattle.state.specs.declared.State.{State}
use Rattle.state.specs.Reset.{reset_of}
use Rattle.state.proofs.Ranges.{reset_numbered}
use Rattle.frame.specs.Header.{header_of, is_numbered}
use Rattle.frame.specs.Sound.{Sound}
use Rattle.frame.proofs.Due.{due_says}
use Rattle.frame.proofs.Headers.{thinned_header}
use Rattle.frame.proofs.Kept.{thinned_sound}
use Rattle.reset.specs.Reset.{reset_number, reset_state}
use Rattle.sample.specs.End.{is_end}
use Rattle.codewords.specs.Decode.{decode_reply}
use Rattle.codewords.proofs.Fitness.{decode_says}
use Rattle.tracking.specs.Calls.{Sending, Station, Hearing, send_reply, written, encoder_after, hear_reply, arrived, Passed, finally}
use Rattle.tracking.specs.History.{writes, numbered_frames, accepted, after_all, Brings}
use Rattle.tracking.proofs.Frames.{sent_levels, encodable, written_is, arrives}
use Rattle.tracking.proofs.Demand3.{frame_sound, frame_header}
use Rattle.tracking.proofs.Kept.{sender_core}
use Rattle.tracking.proofs.Numbers.{sender_number, sender_small, hearer_counts}

-- a sound edition 2 frame with this core and this number
pub record Bearing (core number : ℕ) (frame : List ℕ) : Type 0 where
  pub sound : Sound (header_of frame) (length frame)
  pub numbered : is_numbered (header_of frame).edition ≡ true
  pub number_is : (header_of frame).number ≡ number
  pub core_is : (header_of frame).core ≡ core

pub bearing_same : {core core' n n' : ℕ} {frame : List ℕ} → core ≡ core' → n ≡ n' → Bearing core n frame → Bearing core' n' frame
bearing_same e e' b = record { sound = b.sound; numbered = b.numbered; number_is = b.number_is ∙ e'; core_is = b.core_is ∙ e }

-- what a call writes bears the state's number
pub written_bears : (s : State) (c : Sending) → writes s c ≡ true → Bearing s.core s.number (written s c)
written_bears s c t =
    let rows = both (is_numbered c.edition) _ t in
    let fits = eqb-true (send_reply s c) 0 rows.1 in
    let k = encodable s c fits in
    let header = frame_header s c.edition c.width (sent_levels c) k in
    rw (written_is s c fits)
    (record {
      sound = frame_sound s c.edition c.width (sent_levels c) k;
      numbered = rw header rows.0;
      number_is = rw (header, rows.0);
      core_is = rw header;
    })

-- one frame more in front, or none
module _ {core n : ℕ} (small : n < 256) (frame : List ℕ) (rest : List (List ℕ)) where
  placed : (more : Bool) → (more ≡ true → Bearing core n frame)
      → ((k : ℕ) → k < length rest → Bearing core ((pick more ((n + 1) % 256) n + k) % 256) (get_or rest k []))
      → (k : ℕ) → k < length (pick more (frame ∷ []) [] ++ rest) → Bearing core ((n + k) % 256) (get_or (pick more (frame ∷ []) [] ++ rest) k [])
  placed true here behind zero h =
      let same : (n + 0) % 256 ≡ n = omega arith in
      rw same (here refl)
  placed true here behind (suc k) h =
      let same : (n + suc k) % 256 ≡ ((n + 1) % 256 + k) % 256 = omega arith in
      rw same (behind k (omega arith))
  placed false here behind k h = behind k h

-- the frame at place k bears the number k behind the one that the encoder began with
pub place_bears : (s : State) → s.number < 256 → (cs : List Sending) (k : ℕ) → k < length (numbered_frames s cs)
    → Bearing s.core ((s.number + k) % 256) (get_or (numbered_frames s cs) k [])
unfolding numbered_frames
place_bears s small [] k h = absurd (omega arith)
place_bears s small (c ∷ cs) k h =
    let next = encoder_after s c in
    placed small (written s c) (numbered_frames next cs) (writes s c) (written_bears s c)
    (λ j there. bearing_same (sender_core s c) (ap (λ (n : ℕ). (n + j) % 256) (sender_number s c)) (place_bears next (sender_small s c small) cs j there)) k h

-- base stations leave it as it is
pub arrived_bears : {core n : ℕ} (frame : List ℕ) (stations : List Station) → Passed frame stations → Bearing core n frame → Bearing core n (arrived frame stations)
arrived_bears frame stations passed b =
    let a = arrives frame stations b.sound passed in
    let small : finally (header_of frame).width stations < 8 = omega (arith, a.width.high, b.sound.header.pair.widths.high) in
    let header = thinned_header small frame in
    rw a.is
    (record {
      sound = thinned_sound frame b.sound a.width;
      numbered = rw header b.numbered;
      number_is = rw header b.number_is;
      core_is = rw header b.core_is;
    })

pub brought_bears : (s : State) → s.number < 256 → (cs : List Sending) {place : ℕ} {d : Hearing} → Brings (numbered_frames s cs) place d
    → Bearing s.core ((s.number + place) % 256) d.frame
brought_bears s small cs {place} b = rw b.is (arrived_bears _ b.stations b.passed (place_bears s small cs place b.there))

-- the call reset hands back number 0, whatever core it was asked for
handed_number : (core : ℕ) → (reset_state core).number ≡ 0
unfolding reset_state
handed_number core = by_pick (λ (s : State). s.number ≡ 0) (eqb (reset_number core) 0) (reset_of core) (reset_of 2) (λ t. reset_numbered core) (λ t. reset_numbered 2)

-- an accepted frame bears the number that is due
pub accepted_bears : {core n : ℕ} (t : State) (d : Hearing) → Bearing core n d.frame → hear_reply t d ≡ 0 → n ≡ t.number
unfolding decode_reply
accepted_bears t d b done =
    let k = (decode_says (is_end d.end) t (header_of d.frame) (length d.frame) (length d.buffer) done).1 in
    sym b.number_is ∙ due_says (header_of d.frame) t.number b.numbered k.due

-- both ends reset; the encoder makes any calls, the decoder is given any frames `ds` and then one of this encoder's, thinned or not
pub place_tells : (core core' : ℕ) (cs : List Sending) (ds : List Hearing) (place : ℕ) (d : Hearing) → Brings (numbered_frames (reset_state core) cs) place d
    → hear_reply (after_all (reset_state core') ds) d ≡ 0 → place % 256 ≡ accepted (reset_state core') ds % 256
place_tells core core' cs ds place d brings done =
    let s = reset_state core in
    let t = reset_state core' in
    let from = handed_number core in
    let from' = handed_number core' in
    let b = brought_bears s (omega arith) cs brings in
    let counted = hearer_counts t (omega arith) ds in
    let due = accepted_bears (after_all t ds) d b done in
    omega arith
