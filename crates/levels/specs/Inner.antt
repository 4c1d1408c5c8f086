-- What the inner functions of the encoders ask and promise. A reader of the public contract does not need it.
use Rattle.std.specs.Prelude.{List, ◌++◌, ◌≡◌, ℕ, ◌≤◌, ◌<◌, length, get_or, drop}
use Rattle.state.specs.declared.memory.Memory.{Memory}
use Rattle.state.specs.declared.State.{State}
use Rattle.state.specs.InRange.{InRange}
use Rattle.frame.specs.declared.header.Header.{Header}
use Rattle.frame.specs.Header.{due_length, sample_count}
use Rattle.frame.specs.Planes.{frame_of}
use Rattle.frame.specs.Sound.{SoundHeader}
use Rattle.levels.specs.Levels.{encoded_memory, encoded_state, encoded_codewords}

-- every level has 14 bits
pub record FourteenBits (levels : List ℕ) : Type 0 where
  pub short : (i : ℕ) → i < length levels → get_or levels i 0 < 16384

-- what a 0 says of n samples and their frame's header, beside the end and the samples
pub record Encodable (s : State) (h : Header) (n room : ℕ) : Type 0 where
  pub range : InRange s
  pub header : SoundHeader h
  pub core : h.core ≡ s.core
  pub whole : n ≡ sample_count h
  pub space : due_length h ≤ room

-- the levels of all samples, in front of what was in the buffer
pub record LevelsAll (levels before after : List ℕ) : Type 0 where
  pub out : after ≡ levels ++ drop (length levels) before

pub record EncodesAll (core width : ℕ) (m : Memory) (levels before after : List ℕ) (r : Memory) : Type 0 where
  pub memory : r ≡ encoded_memory core width m levels
  pub out : after ≡ encoded_codewords core width m levels ++ drop (length levels) before

pub record EncodesFrame (s : State) (h : Header) (levels before after : List ℕ) (r : State) : Type 0 where
  pub state : r ≡ encoded_state s h.edition h.width levels
  pub out : after ≡ frame_of h (encoded_codewords s.core h.width s.memory levels) ++ drop (due_length h) before
