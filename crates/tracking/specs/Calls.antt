-- The calls of which streams and histories are made: what an encoder left in its buffer is lent to `drop_planes`, as often as there are base
-- stations that thin it, and what the last of them left is lent to a decoder. Either end speaks mu-law, A-law or linear samples. All that is said of the
-- calls is said of their own answers.
-- A frame is the octets that the call reports, from the buffer's first on.
use Rattle.std.specs.Prelude.{List, [], ◌∷◌, ◌≡◌, ℕ, take}
use Rattle.state.specs.declared.State.{State}
use Rattle.sample.specs.End.{End, Sample}
use Rattle.levels.specs.Encode.{encode_reply, encode_octets, encode_state, encode_out}
use Rattle.drop_planes.specs.Drop.{drop_reply, drop_octets, drop_out}
use Rattle.codewords.specs.Decode.{decode_reply, decode_state}

-- a call of an encoder, of drop_planes and of a decoder, but for the state and for the frame that is thinned
pub record Sending : Type 0 where
  pub end : End
  pub edition : ℕ
  pub width : ℕ
  pub samples : List (Sample end)
  pub buffer : List ℕ

pub record Station : Type 0 where
  pub width : ℕ
  pub buffer : List ℕ

pub record Hearing : Type 0 where
  pub end : End
  pub frame : List ℕ
  pub buffer : List (Sample end)

module _ (s : State) (c : Sending) where
  abbrev pub send_reply : ℕ
  send_reply = encode_reply c.end s c.edition c.width c.samples c.buffer

  -- the frame that the encoder wrote, and its next state
  unfoldable pub written : List ℕ
  written = take (encode_octets c.end s c.edition c.width c.samples c.buffer) (encode_out c.end s c.edition c.width c.samples c.buffer)

  unfoldable pub encoder_after : State
  encoder_after = encode_state c.end s c.edition c.width c.samples c.buffer

module _ (t : State) (d : Hearing) where
  abbrev pub hear_reply : ℕ
  hear_reply = decode_reply d.end t d.frame d.buffer

  abbrev pub decoder_after : State
  decoder_after = decode_state d.end t d.frame d.buffer

-- the frame that one base station passes on, and the frame behind all of them
unfoldable pub passed_on : List ℕ → Station → List ℕ
passed_on frame b = take (drop_octets frame b.width b.buffer) (drop_out frame b.width b.buffer)

unfoldable pub arrived : List ℕ → List Station → List ℕ
arrived frame [] = frame
arrived frame (b ∷ bs) = arrived (passed_on frame b) bs

-- no base station's call is refused
abbrev pub Passed : List ℕ → List Station → Type 0
Passed frame [] = Unit
Passed frame (b ∷ bs) = (drop_reply frame b.width b.buffer ≡ 0) × Passed (passed_on frame b) bs

-- the width that arrives: the last base station's, or the encoder's where there is none
unfoldable pub finally : ℕ → List Station → ℕ
finally width [] = width
finally width (b ∷ bs) = finally b.width bs
