-- The number of either end, moved on by any list of calls: it counts edition 2 frames modulo 256.
use mathlib.Core.Bool.{Bool, true, false, ◌&&◌}
use mathlib.Core.List.{List, [], ◌∷◌}
use mathlib.Core.Path.{◌≡◌, refl, ap, ◌∙◌}
use Prim.Native.Nat.{ℕ, ◌+◌, ◌%◌, ◌<◌}
use native.Mathlib.Omega.{arith}
use lib.Dec.{eqb}
use Rattle.words.specs.Notation.{pick}
use Rattle.words.proofs.Pick.{pick_lt}
use Rattle.lists.specs.Run.{last, total}
use Rattle.state.specs.declared.State.{State}
use Rattle.frame.specs.Header.{is_numbered, number_after}
use Rattle.levels.specs.Levels.{encoded_state}
use Rattle.levels.specs.Encode.{encode_state}
use Rattle.codewords.specs.Codewords.{decoded_state}
use Rattle.codewords.specs.Decode.{decode_state}
use Rattle.tracking.specs.Calls.{Sending, Hearing, send_reply, encoder_after, hear_reply, decoder_after}
use Rattle.tracking.specs.History.{writes, is_numbered_frame, accepts, accepted, after_all}
use Rattle.tracking.proofs.Kept.{sent, decoded}

-- a state that is the next one where a call is done, and else the old one, with a frame that bears a number or not
number_moved : (next s : State) (done bears : Bool) (n : ℕ) → next.number ≡ pick bears n s.number → (pick done next s).number ≡ pick (bears && done) n s.number
number_moved next s true true n e = e
number_moved next s true false n e = e
number_moved next s false true n e = refl
number_moved next s false false n e = refl

pub sender_number : (s : State) (c : Sending) → (encoder_after s c).number ≡ pick (writes s c) ((s.number + 1) % 256) s.number
unfolding encoder_after encode_state encoded_state number_after
sender_number s c = number_moved (sent s c) s (eqb (send_reply s c) 0) (is_numbered c.edition) ((s.number + 1) % 256) refl

pub hearer_number : (t : State) (d : Hearing) → (decoder_after t d).number ≡ pick (accepts t d) ((t.number + 1) % 256) t.number
unfolding decode_state decoded_state number_after
hearer_number t d = number_moved (decoded t d) t (eqb (hear_reply t d) 0) (is_numbered_frame d) ((t.number + 1) % 256) refl

-- one frame more, or not
moved_small : (moves : Bool) {n : ℕ} → n < 256 → pick moves ((n + 1) % 256) n < 256
moved_small moves small = pick_lt moves (omega arith) small

moved_count : (moves : Bool) (n m : ℕ) → n < 256 → (pick moves ((n + 1) % 256) n + m) % 256 ≡ (n + (pick moves 1 0 + m)) % 256
moved_count true n m small = omega arith
moved_count false n m small = omega arith

pub sender_small : (s : State) (c : Sending) → s.number < 256 → (encoder_after s c).number < 256
sender_small s c small = rw (sender_number s c) (moved_small (writes s c) small)

-- a decoder's number, after any frames whatever
pub hearer_counts : (t : State) → t.number < 256 → (ds : List Hearing) → (after_all t ds).number ≡ (t.number + accepted t ds) % 256
unfolding after_all accepted last total
hearer_counts t small [] = omega arith
hearer_counts t small (d ∷ ds) =
    let here = hearer_number t d in
    let next = decoder_after t d in
    hearer_counts next (rw here (moved_small (accepts t d) small)) ds ∙ ap (λ (n : ℕ). (n + accepted next ds) % 256) here ∙ moved_count (accepts t d) t.number (accepted next ds) small
