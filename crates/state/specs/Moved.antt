-- A state whose memory and number a frame has moved on: the core stays.
use Rattle.std.specs.Prelude.{ℕ}
use Rattle.state.specs.declared.memory.Memory.{Memory}
use Rattle.state.specs.declared.State.{State}

abbrev pub moved_on : State → Memory → ℕ → State
moved_on s m n = record { memory = m; core = s.core; number = n }
