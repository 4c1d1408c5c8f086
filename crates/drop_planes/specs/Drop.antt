-- The call `drop_planes(frame, width, out)`: its rows, then the frame with its first `width` planes.
use Rattle.std.specs.Prelude.{Bool, not, List, [], ◌∷◌, ◌++◌, ◌≡◌, ℕ, eqb, ltb, length, drop}
use Rattle.words.specs.First.{Row, first}
use Rattle.words.specs.Notation.{pick}
use Rattle.words.specs.Within.{within}
use Rattle.frame.specs.declared.header.Header.{Header}
use Rattle.frame.specs.Header.{header_of, due_length}
use Rattle.frame.specs.Read.{narrowed, thinned}
use Rattle.frame.specs.Rows.{frame_rows}
use Rattle.std.specs.declared.result.Result.{Result}
use Rattle.replies.specs.declared.Refusal.{Refusal}
use Rattle.replies.specs.Reply.{number_of, reported}

-- a target width from y to x
abbrev pub is_target : Header → ℕ → Bool
is_target h w = within h.core h.width w

-- the rows behind the frame's own, for a target width and a length of out; and all of them, for a frame of n octets with the header h: the
-- frame's 5, 1, 2 and 6, then 8 and 3
abbrev pub drop_rows : Header → ℕ → ℕ → List Row
drop_rows h w room =
    (8, not (is_target h w)) ∷
    (3, ltb room (due_length (narrowed w h))) ∷ []

unfoldable pub drop_number : Header → ℕ → ℕ → ℕ → ℕ
drop_number h n w room = first (frame_rows h n ++ drop_rows h w room)

module _ (frame : List ℕ) (w : ℕ) (before : List ℕ) where
  -- the number of the reply that is due for what is lent
  unfoldable pub drop_reply : ℕ
  drop_reply = drop_number (header_of frame) (length frame) w (length before)

  unfoldable pub drop_octets : ℕ
  drop_octets = pick (eqb drop_reply 0) (due_length (narrowed w (header_of frame))) 0

  unfoldable pub drop_out : List ℕ
  drop_out = pick (eqb drop_reply 0) (thinned w frame ++ drop (due_length (narrowed w (header_of frame))) before) before

  pub record Drops (after : List ℕ) (r : Result ℕ Refusal) : Type 0 where
    pub number : number_of r ≡ drop_reply
    pub octets : reported (λ octets. octets) r ≡ drop_octets
    pub out : after ≡ drop_out
