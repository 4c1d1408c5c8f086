-- The premise of `after_a_loss` can be met. The encoder writes three edition 2 frames of eight samples, at width 5 and core 2; the decoder accepts the first,
-- thinned to width 2, never sees the second, and is given the third, thinned likewise.
use mathlib.Core.Bool.{true}
use mathlib.Core.List.{List, [], ◌∷◌}
use mathlib.Core.Path.{◌≡◌, refl, ◌∙◌}
use native.Mathlib.Omega.{arith}
use borrow.Author.Tests.{eq-eqb}
use Rattle.words.proofs.Within.{within_says}
use Rattle.lists.specs.Run.{total}
use Rattle.state.specs.declared.State.{State}
use Rattle.state.specs.Reset.{reset_of}
use Rattle.state.specs.InRange.{InRange}
use Rattle.state.proofs.Ranges.{reset_in_range, reset_core}
use Rattle.frame.specs.Header.{numbered, is_numbered, header_length}
use Rattle.tracking.specs.Calls.{Sending, written, encoder_after}
use Rattle.tracking.specs.Stream.{Transfer, heard, FitSending, Fit}
use Rattle.tracking.specs.History.{writes, numbered_frames, accepted, after_all, Behind, Refused}
use Rattle.tracking.proofs.Fit.{sends, transfer_fits}
use Rattle.tracking.proofs.Kept.{sender_core, sender_in_range}
use Rattle.tracking.proofs.Histories.{written_bears, arrived_bears}
use Rattle.tracking.proofs.Losses.{after_a_loss}
use Rattle.tracking.proofs.Witness.{mu_law, A_law, transfer, fit}

-- a fit call in edition 2 writes a frame
writes_fit : (s : State) (c : Sending) → InRange s → FitSending s.core c → is_numbered c.edition ≡ true → writes s c ≡ true
writes_fit s c i k bears = rw (bears, eq-eqb _ _ (sends s c i k))

abbrev speech : Transfer
speech = transfer mu_law A_law numbered 3 (0x9A ∷ 0x1A ∷ 0xB3 ∷ 0x40 ∷ 0xC7 ∷ 0x2E ∷ 0x00 ∷ 0xFF ∷ [])

abbrev call : Sending
call = speech.sent

fits : Fit 2 speech
unfolding header_length
fits = fit _ _ _ _ (omega arith) refl _ refl refl refl refl

-- a state of core 2 in range, from which the call is made
record At2 (s : State) : Type 0 where
  pub range : InRange s
  pub core : s.core ≡ 2

module _ (s : State) (a : At2 s) where
  fits_here : Fit s.core speech
  fits_here = rw a.core fits

  written_here : writes s call ≡ true
  written_here = writes_fit s call a.range fits_here.sending refl

  next : At2 (encoder_after s call)
  next = record { range = sender_in_range s call a.range; core = sender_core s call ∙ a.core }

abbrev start : State
start = reset_of 2

abbrev second : State
second = encoder_after start call

abbrev third : State
third = encoder_after second call

at_start : At2 start
at_start = record { range = reset_in_range 2 (within_says 2 4 2 refl); core = reset_core 2 }

at_third : At2 third
at_third = next second (next start at_start)

abbrev calls : List Sending
calls = call ∷ call ∷ call ∷ []

three_frames : numbered_frames start calls ≡ written start call ∷ written second call ∷ written third call ∷ []
unfolding numbered_frames
three_frames = rw (written_here start at_start, written_here second (next start at_start), written_here third at_third)

-- the first frame is accepted
first_accepted : accepted start (heard start speech ∷ []) ≡ 1
unfolding accepted total
first_accepted =
    let u = transfer_fits start speech at_start.range (fits_here start at_start) in
    let bears = arrived_bears (written start call) speech.stations u.drops (written_bears start call (written_here start at_start)) in
    rw (bears.numbered, eq-eqb _ _ u.decodes)

-- the third is behind the second
third_behind : Behind (numbered_frames start calls) 1 (heard third speech)
third_behind =
    let u = transfer_fits third speech at_third.range (fits_here third at_third) in
    rw three_frames
    (record {
      place = 2;
      after = omega arith;
      near = omega arith;
      brings = record { there = omega arith; stations = speech.stations; passed = u.drops; is = refl };
      known = refl;
    })

-- and is refused
pub loss_witness : Refused (after_all start (heard start speech ∷ [])) (heard third speech)
loss_witness =
    let u = transfer_fits third speech at_third.range (fits_here third at_third) in
    let bears = arrived_bears (written third call) speech.stations u.drops (written_bears third call (written_here third at_third)) in
    (after_a_loss 2 (within_says 2 4 2 refl) calls 1 (heard start speech ∷ []) first_accepted (heard third speech ∷ []) (λ bearing. third_behind, tt)).0 bears.numbered
