-- What encoding gives of a list of levels, whichever end they come from.
-- It is the run of the sample's step over them, from the state's memory, and the frame of the codewords that the run puts out.
-- Of the state the memory moves on, and in edition 2 the number.
use Rattle.std.specs.Prelude.{List, ℕ, ◌/◌, length}
use Rattle.lists.specs.Run.{last, outs}
use Rattle.state.specs.declared.memory.Memory.{Memory}
use Rattle.state.specs.declared.State.{State}
use Rattle.state.specs.Moved.{moved_on}
use Rattle.sample.specs.Encode.{encoder_next, codeword_of}
use Rattle.frame.specs.declared.header.Header.{Header}
use Rattle.frame.specs.Header.{borne, group, number_after}
use Rattle.frame.specs.Planes.{frame_of}

-- the header of n samples' frame of edition e, where `number` is the next one
abbrev pub encoded_header : ℕ → ℕ → ℕ → ℕ → ℕ → Header
encoded_header core number e width n = record { edition = e; width = width; core = core; groups = n / group; number = borne e number }

-- the header of a state's next frame
abbrev pub due_header : State → ℕ → ℕ → ℕ → Header
due_header s e width n = encoded_header s.core s.number e width n

module _ (core width : ℕ) (m : Memory) (levels : List ℕ) where
  unfoldable pub encoded_memory : Memory
  encoded_memory = last (encoder_next core width) m levels

  unfoldable pub encoded_codewords : List ℕ
  encoded_codewords = outs (encoder_next core width) (codeword_of core width) m levels

module _ (s : State) (e width : ℕ) (levels : List ℕ) where
  unfoldable pub encoded_state : State
  encoded_state = moved_on s (encoded_memory s.core width s.memory levels) (number_after e s.number)

  unfoldable pub encoded_frame : List ℕ
  encoded_frame = frame_of (due_header s e width (length levels)) (encoded_codewords s.core width s.memory levels)
