-- A decoder's end has no part in its number, its count and its state: two decoders with different ends that are lent one frame, and equal room, answer alike in these.
use mathlib.Core.List.{List}
use mathlib.Core.Path.{◌≡◌}
use Prim.Native.Nat.{ℕ}
use lib.ListN.{length}
use Rattle.state.specs.declared.State.{State}
use Rattle.sample.specs.End.{End, Sample, is_end}
use Rattle.codewords.specs.Decode.{decode_reply, decode_count, decode_state}

module _ (s : State) (frame : List ℕ) (a b : End) (xs : List (Sample a)) (ys : List (Sample b)) (known : is_end a ≡ is_end b) (room : length xs ≡ length ys) where
  pub ends_reply : decode_reply a s frame xs ≡ decode_reply b s frame ys
  unfolding decode_reply
  ends_reply = rw (known, room)

  pub ends_count : decode_count a s frame xs ≡ decode_count b s frame ys
  unfolding decode_count
  ends_count = rw ends_reply

  pub ends_state : decode_state a s frame xs ≡ decode_state b s frame ys
  unfolding decode_state
  ends_state = rw ends_reply
