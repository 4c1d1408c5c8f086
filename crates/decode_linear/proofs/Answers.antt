-- What holds of every answer of decode_linear: what it reports as written fits, and two conforming ones are equal, and so are the exit buffers.
use mathlib.Core.List.{List}
use mathlib.Core.Path.{◌≡◌}
use Prim.Native.Nat.{ℕ, ◌≤◌}
use lib.IntN.{ℤ}
use lib.ListN.{length}
use Rattle.state.specs.declared.State.{State}
use Rattle.state.specs.declared.answer.Answer.{Answer}
use Rattle.sample.specs.End.{linear}
use Rattle.replies.specs.Reply.{reported}
use Rattle.codewords.specs.declared.Decoded.{Decoded}
use Rattle.codewords.proofs.Answers as of_end

module _ (s : State) (frame : List ℕ) (before : List ℤ) where
  -- what decode_linear promises of its answer
  abbrev pub Answers : List ℤ → Answer Decoded → Type 0
  Answers = of_end.Answers linear s frame before

  pub answers_room : (after : List ℤ) (r : Answer Decoded) → Answers after r → reported (λ d. d.samples) r.done ≤ length before
  answers_room = of_end.answers_room linear s frame before

  pub answers_equal : (after after' : List ℤ) (a b : Answer Decoded) → Answers after a → Answers after' b → (a ≡ b) × (after ≡ after')
  answers_equal = of_end.answers_equal linear s frame before
