-- What an observer at the far end gets: the state after a frame depends on the frame's core planes alone. Two frames that agree on them move
-- a decoder to the same state, whatever their enhancement planes say and whichever end hears them.
use mathlib.Core.List.{List, [], ◌∷◌, map}
use mathlib.Core.Path.{◌≡◌, refl, sym, ap, ◌∙◌}
use Prim.Native.Nat.{ℕ, ◌≤◌, ◌<◌}
use native.Mathlib.Omega.{arith}
use lib.ListN.{length}
use borrow.Author.Tests.{eq-eqb}
use Rattle.lists.specs.Run.{last}
use Rattle.state.specs.declared.memory.Memory.{Memory}
use Rattle.state.specs.declared.State.{State}
use Rattle.state.specs.Moved.{moved_on}
use Rattle.sample.specs.Decode.{decoder_next}
use Rattle.sample.specs.End.{is_end}
use Rattle.sample.proofs.Cores.{core_of_thinned}
use Rattle.sample.proofs.Tracks.{decode_by_core}
use Rattle.frame.specs.Header.{header_of, number_after}
use Rattle.frame.specs.Read.{received, thinned}
use Rattle.frame.specs.Sound.{Sound}
use Rattle.frame.proofs.Headers.{thinned_header}
use Rattle.frame.proofs.Thinning.{received_thinned}
use Rattle.codewords.specs.Codewords.{decoded_memory, decoded_state}
use Rattle.codewords.specs.Decode.{decode_reply, decode_state}
use Rattle.codewords.proofs.Fitness.{decode_says}
use Rattle.tracking.specs.Stream.{TwoFrames, one, other, Agree, AllAgree, EqualStates}
use Rattle.tracking.proofs.Runs.{thin}

-- a run over codewords, and over the same codewords thinned to the core
by_core : (core x : ℕ) (m : Memory) → core ≤ x → (cws : List ℕ) → last (decoder_next core x) m cws ≡ last (decoder_next core core) m (map (thin x core) cws)
unfolding last
by_core core x m narrow [] = refl
by_core core x m narrow (c ∷ cs) =
    let step : decoder_next core x m c ≡ decoder_next core core m (thin x core c) =
    decode_by_core core m x core c (thin x core c) (sym (core_of_thinned core core x c (omega arith) narrow)) in
    by_core core x (decoder_next core x m c) narrow cs ∙ ap (λ (t : Memory). last (decoder_next core core) t (map (thin x core) cs)) step

-- the state that decoding a frame ends in
abbrev after : State → List ℕ → State
after s frame = decoded_state s (header_of frame) (received frame)

-- decoding a frame, and decoding its core planes alone, end in one state
pub decoded_by_core_planes : (s : State) (frame : List ℕ) → Sound (header_of frame) (length frame) → (header_of frame).core ≡ s.core
    → after s frame ≡ after s (thinned (header_of frame).core frame)
unfolding decoded_state decoded_memory
decoded_by_core_planes s frame sound core =
    let h = header_of frame in
    let narrow = sound.header.pair.widths.low in
    let small : h.core < 8 = omega (arith, sound.header.pair.cores.high) in
    rw (received_thinned frame narrow, thinned_header small frame, core) (ap (λ (m : Memory). moved_on s m (number_after h.edition s.number)) (by_core s.core h.width s.memory (rw core at narrow) (received frame)))

-- two frames with the same core planes
pub same_core_planes : (s : State) (f f' : List ℕ) → Sound (header_of f) (length f) → Sound (header_of f') (length f')
    → (header_of f).core ≡ s.core → (header_of f').core ≡ s.core → thinned (header_of f).core f ≡ thinned (header_of f').core f' → after s f ≡ after s f'
same_core_planes s f f' sound sound' core core' same =
    decoded_by_core_planes s f sound core ∙ ap (after s) same ∙ sym (decoded_by_core_planes s f' sound' core')

-- of the calls: one frame each, from one state
observers_step : (s : State) (x : TwoFrames) → Agree s s x → one s s x ≡ other s s x
unfolding decode_state decode_reply
observers_step s x a =
    let p = (decode_says (is_end x.heard.end) s (header_of x.heard.frame) (length x.heard.frame) (length x.heard.buffer) a.decodes).1 in
    let q = (decode_says (is_end x.heard'.end) s (header_of x.heard'.frame) (length x.heard'.frame) (length x.heard'.buffer) a.decodes').1 in
    rw (eq-eqb _ _ a.decodes, eq-eqb _ _ a.decodes')
    (same_core_planes s x.heard.frame x.heard'.frame p.sound q.sound p.core q.core a.core_planes)

-- two streams that agree on the core planes have equal states after every frame
pub observers_agree : (s : State) (xs : List TwoFrames) → AllAgree s s xs → EqualStates s s xs
observers_agree s [] a = tt
observers_agree s (x ∷ xs) (a, more) =
    let same : one s s x ≡ other s s x = observers_step s x a in
    (same, rw (← same) (observers_agree (one s s x) xs (rw (← same) at more)))
