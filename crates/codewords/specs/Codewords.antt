-- The state that decoding a list of codewords ends in, whichever end hears them: the run of the sample's step over them, from the state's memory.
-- Of the state the memory moves on, and in edition 2 the number.
use Rattle.std.specs.Prelude.{List, ℕ}
use Rattle.lists.specs.Run.{last}
use Rattle.state.specs.declared.memory.Memory.{Memory}
use Rattle.state.specs.declared.State.{State}
use Rattle.state.specs.Moved.{moved_on}
use Rattle.sample.specs.Decode.{decoder_next}
use Rattle.frame.specs.declared.header.Header.{Header}
use Rattle.frame.specs.Header.{number_after}

unfoldable pub decoded_memory : ℕ → ℕ → Memory → List ℕ → Memory
decoded_memory core width m codewords = last (decoder_next core width) m codewords

-- the codewords of a frame with the header h
unfoldable pub decoded_state : State → Header → List ℕ → State
decoded_state s h codewords = moved_on s (decoded_memory s.core h.width s.memory codewords) (number_after h.edition s.number)
