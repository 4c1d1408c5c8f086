-- What holds of every answer of encode_linear: what it reports as written fits, and two conforming ones are equal, and so are the exit buffers.
use mathlib.Core.List.{List}
use mathlib.Core.Path.{◌≡◌}
use Prim.Native.Nat.{ℕ, ◌≤◌}
use lib.IntN.{ℤ}
use lib.ListN.{length}
use Rattle.state.specs.declared.State.{State}
use Rattle.state.specs.declared.answer.Answer.{Answer}
use Rattle.sample.specs.End.{linear}
use Rattle.replies.specs.Reply.{reported}
use Rattle.levels.proofs.Answers as of_end

module _ (s : State) (e width : ℕ) (samples : List ℤ) (before : List ℕ) where
  -- what encode_linear promises of its answer
  abbrev pub Answers : List ℕ → Answer ℕ → Type 0
  Answers = of_end.Answers linear s e width samples before

  pub answers_room : (after : List ℕ) (r : Answer ℕ) → Answers after r → reported (λ n. n) r.done ≤ length before
  answers_room = of_end.answers_room linear s e width samples before

  pub answers_equal : (after after' : List ℕ) (a b : Answer ℕ) → Answers after a → Answers after' b → (a ≡ b) × (after ≡ after')
  answers_equal = of_end.answers_equal linear s e width samples before
