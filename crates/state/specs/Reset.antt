-- The reset state: DELAY's output where reset is invoked, the column "optional reset values" of Table 7/G.727, which the rules' table repeats;
-- and 0 for the number of the next frame.
use Rattle.std.specs.Prelude.{[], ◌∷◌, ℕ}
use Rattle.state.specs.declared.memory.Memory.{Memory}
use Rattle.state.specs.declared.State.{State}

unfoldable pub reset_memory : Memory
reset_memory =
    record {
      yu = 544;
      yl = 34816;
      dms = 0;
      dml = 0;
      ap = 0;
      a1 = 0;
      a2 = 0;
      b = 0 ∷ 0 ∷ 0 ∷ 0 ∷ 0 ∷ 0 ∷ [];
      dq = 32 ∷ 32 ∷ 32 ∷ 32 ∷ 32 ∷ 32 ∷ [];
      sr1 = 32;
      sr2 = 32;
      pk1 = 0;
      pk2 = 0;
      td = 0;
    }

unfoldable pub reset_of : ℕ → State
reset_of core = record { memory = reset_memory; core = core; number = 0 }
