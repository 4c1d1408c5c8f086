-- What each command begins with, and the state that a frame's decoding meets.
use Rattle.std.specs.Prelude.{List, ℕ, nat_lt, if◌then◌else◌}
use Rattle.frame.specs.Header.{header_of}
use Rattle.reset.specs.Reset.{reset_state}
use Rattle.state.specs.declared.State.{State}
use Rattle.tool.specs.declared.making.Work.{Work}
use Rattle.tool.specs.declared.making.Work.TheVariants.{Encode}

-- the core of the state that the first piece meets: encode's is its pair's
abbrev pub first_core : Work → ℕ
first_core (Encode coding) = coding.pair.core
first_core _ = 2

-- before the first frame the state is reset, to the core that its header has
abbrev pub state_met : ℕ → State → List ℕ → State
state_met frame s octets = if nat_lt 0 frame then s else reset_state (header_of octets).core
