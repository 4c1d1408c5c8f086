-- What two ends have done since their resets, call by call: any calls of the encoder, refused ones among them, and any frames whatever at the
-- decoder, lost, doubled, out of order or from elsewhere. Streams (Stream.antt) are the histories in which nothing goes wrong.
use Rattle.std.specs.Prelude.{Bool, true, ◌&&◌, List, [], ◌∷◌, ◌++◌, ◌≡◌, ℕ, ◌+◌, ◌≤◌, ◌<◌, eqb, length, get_or}
use Rattle.words.specs.Notation.{pick}
use Rattle.lists.specs.Run.{last, total}
use Rattle.state.specs.declared.State.{State}
use Rattle.frame.specs.Header.{header_of, is_numbered}
use Rattle.sample.specs.End.{is_end}
use Rattle.codewords.specs.Decode.{decode_count, decode_disagreements, decode_out}
use Rattle.tracking.specs.Calls.{Sending, Station, Hearing, send_reply, written, encoder_after, hear_reply, decoder_after, arrived, Passed}

-- whether a call writes an edition 2 frame, and the edition 2 frames that an encoder has written, each at its place from 0
abbrev pub writes : State → Sending → Bool
writes s c = is_numbered c.edition && eqb (send_reply s c) 0

unfoldable pub numbered_frames : State → List Sending → List (List ℕ)
numbered_frames s [] = []
numbered_frames s (c ∷ cs) = pick (writes s c) (written s c ∷ []) [] ++ numbered_frames (encoder_after s c) cs

-- whether what a decoder is given is of edition 2, whether it accepts it as such, how many it has accepted, and its state after all
abbrev pub is_numbered_frame : Hearing → Bool
is_numbered_frame d = is_numbered (header_of d.frame).edition

abbrev pub accepts : State → Hearing → Bool
accepts t d = is_numbered_frame d && eqb (hear_reply t d) 0

unfoldable pub accepted : State → List Hearing → ℕ
accepted t ds = total decoder_after (λ (u : State) (d : Hearing). pick (accepts u d) 1 0) t ds

unfoldable pub after_all : State → List Hearing → State
after_all t ds = last decoder_after t ds

-- what is lent to the decoder is the frame at this place of the encoder's edition 2 frames, thinned by any number of base stations or by none
pub record Brings (frames : List (List ℕ)) (place : ℕ) (d : Hearing) : Type 0 where
  pub there : place < length frames
  pub stations : List Station
  pub passed : Passed (get_or frames place []) stations
  pub is : d.frame ≡ arrived (get_or frames place []) stations

-- an edition 2 frame behind a lost one, up to the 255th behind it
pub record Behind (frames : List (List ℕ)) (lost : ℕ) (d : Hearing) : Type 0 where
  pub place : ℕ
  pub after : lost < place
  pub near : place ≤ lost + 255
  pub brings : Brings frames place d
  pub known : is_end d.end ≡ true

-- all that is given of edition 2 are such frames; of edition 1, or of none, it may be anything
abbrev pub AllBehind : List (List ℕ) → ℕ → List Hearing → Type 0
AllBehind frames lost [] = Unit
AllBehind frames lost (d ∷ ds) = (is_numbered_frame d ≡ true → Behind frames lost d) × AllBehind frames lost ds

-- refused with 10, with state and buffer left alone
pub record Refused (t : State) (d : Hearing) : Type 0 where
  pub number : hear_reply t d ≡ 10
  pub count : decode_count d.end t d.frame d.buffer ≡ 0
  pub disagreements : decode_disagreements d.end t d.frame d.buffer ≡ 0
  pub state : decoder_after t d ≡ t
  pub out : decode_out d.end t d.frame d.buffer ≡ d.buffer

abbrev pub AllRefused : State → List Hearing → Type 0
AllRefused t [] = Unit
AllRefused t (d ∷ ds) = (is_numbered_frame d ≡ true → Refused t d) × AllRefused (decoder_after t d) ds
