-- What the test of the rules' table says of a state, as facts that a proof can use; proofs/Ranges.antt shows that the two are the same.
use Rattle.std.specs.Prelude.{ℕ, ◌≤◌, List, get_or}
use Rattle.words.specs.Within.{Within}
use Rattle.predictor.specs.Float.{FloatWord}
use Rattle.state.specs.declared.memory.Memory.{Memory}
use Rattle.state.specs.declared.State.{State}

pub record FloatWords (dq : List ℕ) : Type 0 where
  pub dq1 : FloatWord 14 (get_or dq 0 0)
  pub dq2 : FloatWord 14 (get_or dq 1 0)
  pub dq3 : FloatWord 14 (get_or dq 2 0)
  pub dq4 : FloatWord 14 (get_or dq 3 0)
  pub dq5 : FloatWord 14 (get_or dq 4 0)
  pub dq6 : FloatWord 14 (get_or dq 5 0)

pub record MemoryInRange (m : Memory) : Type 0 where
  pub fast : Within 544 5120 m.yu
  pub slow : Within 34816 327680 m.yl
  pub short : m.dms ≤ 3584
  pub long : m.dml ≤ 14336
  pub speed : m.ap ≤ 512
  pub differences : FloatWords m.dq
  pub signal1 : FloatWord 15 m.sr1
  pub signal2 : FloatWord 15 m.sr2
  pub sign1 : m.pk1 ≤ 1
  pub sign2 : m.pk2 ≤ 1
  pub tone : m.td ≤ 1

pub record InRange (s : State) : Type 0 where
  pub memory : MemoryInRange s.memory
  pub cores : Within 2 4 s.core
