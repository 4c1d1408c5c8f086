-- A stream of frames from an encoder over base stations to a decoder, each frame whole, once and in order.
use Rattle.std.specs.Prelude.{true, List, [], ◌∷◌, ◌≡◌, ℕ, ◌≤◌, length}
use Rattle.words.specs.Within.{Within}
use Rattle.state.specs.declared.State.{State}
use Rattle.frame.specs.declared.header.Header.{Header}
use Rattle.frame.specs.Header.{header_of, due_length, sample_count}
use Rattle.frame.specs.Read.{narrowed, thinned}
use Rattle.frame.specs.Sound.{SoundHeader}
use Rattle.sample.specs.End.{End, Sample, is_end}
use Rattle.levels.specs.Levels.{encoded_header}
use Rattle.levels.specs.Encode.{are_taken}
use Rattle.tracking.specs.Calls.{Sending, Station, Hearing, send_reply, written, encoder_after, hear_reply, decoder_after, arrived, Passed}

-- one frame's transfer: the encoder's call; the base stations; the decoder's end and buffer
pub record Transfer : Type 0 where
  pub sent : Sending
  pub stations : List Station
  pub end : End
  pub buffer : List (Sample end)

-- the same call, but that the encoder is asked for width v and is lent another buffer
abbrev pub at_width : ℕ → List ℕ → Sending → Sending
at_width v buffer c = record { end = c.end; edition = c.edition; width = v; samples = c.samples; buffer = buffer }

-- the decoder's call, where the encoder's state is s
abbrev pub heard : State → Transfer → Hearing
heard s x = record { end = x.end; frame = arrived (written s x.sent) x.stations; buffer = x.buffer }

-- no call of the transfer is refused, where the decoder's state is t
pub record Unrefused (s t : State) (x : Transfer) : Type 0 where
  pub encodes : send_reply s x.sent ≡ 0
  pub drops : Passed (written s x.sent) x.stations
  pub decodes : hear_reply t (heard s x) ≡ 0

-- along a list of frames, one after the other: no call is refused; and the states are equal after every frame
abbrev pub AllUnrefused : State → State → List Transfer → Type 0
AllUnrefused s t [] = Unit
AllUnrefused s t (x ∷ xs) = Unrefused s t x × AllUnrefused (encoder_after s x.sent) (decoder_after t (heard s x)) xs

abbrev pub EqualThroughout : State → State → List Transfer → Type 0
EqualThroughout s t [] = Unit
EqualThroughout s t (x ∷ xs) = (decoder_after t (heard s x) ≡ encoder_after s x.sent) × EqualThroughout (encoder_after s x.sent) (decoder_after t (heard s x)) xs

-- fit inputs, whatever the state: ends that there are, samples that the encoder's end takes, a sound header (one of the two editions, one of the nine pairs, 1 to 40 groups) for whole
-- groups of samples, each station's width from the core to what reached it, and buffers that are long enough
abbrev pub Narrowing : Header → List Station → Type 0
Narrowing h [] = Unit
Narrowing h (b ∷ bs) = Within h.core h.width b.width × (due_length (narrowed b.width h) ≤ length b.buffer) × Narrowing (narrowed b.width h) bs

-- the header of a call's frame, but for its number
abbrev pub sent_header : ℕ → Sending → Header
sent_header core c = encoded_header core 0 c.edition c.width (length c.samples)

pub record FitSending (core : ℕ) (c : Sending) : Type 0 where
  pub known : is_end c.end ≡ true
  pub taken : are_taken c.end c.samples ≡ true
  pub header : SoundHeader (sent_header core c)
  pub whole : length c.samples ≡ sample_count (sent_header core c)
  pub room : due_length (sent_header core c) ≤ length c.buffer

pub record Fit (core : ℕ) (x : Transfer) : Type 0 where
  pub sending : FitSending core x.sent
  pub stations : Narrowing (sent_header core x.sent) x.stations
  pub known : is_end x.end ≡ true
  pub room : length x.sent.samples ≤ length x.buffer

abbrev pub AllFit : ℕ → List Transfer → Type 0
AllFit core [] = Unit
AllFit core (x ∷ xs) = Fit core x × AllFit core xs

-- two frames, each lent to a decoder of its own
pub record TwoFrames : Type 0 where
  pub heard : Hearing
  pub heard' : Hearing

module _ (s t : State) (x : TwoFrames) where
  -- the states of the two decoders after them
  abbrev pub one : State
  one = decoder_after s x.heard

  abbrev pub other : State
  other = decoder_after t x.heard'

  -- neither decoder refuses, and the frames have the same core planes
  pub record Agree : Type 0 where
    pub decodes : hear_reply s x.heard ≡ 0
    pub decodes' : hear_reply t x.heard' ≡ 0
    pub core_planes : thinned (header_of x.heard.frame).core x.heard.frame ≡ thinned (header_of x.heard'.frame).core x.heard'.frame

abbrev pub AllAgree : State → State → List TwoFrames → Type 0
AllAgree s t [] = Unit
AllAgree s t (x ∷ xs) = Agree s t x × AllAgree (one s t x) (other s t x) xs

abbrev pub EqualStates : State → State → List TwoFrames → Type 0
EqualStates s t [] = Unit
EqualStates s t (x ∷ xs) = (one s t x ≡ other s t x) × EqualStates (one s t x) (other s t x) xs
