-- The contract of write leaves no choice: two conforming answers are equal, and so are the exit buffers.
use Rattle.std.proofs.Common.{◌≡◌, ℕ, List}
use Rattle.sequence.proofs.Tight.{filled_alike}
use Rattle.sequence_writer.specs.Writing.{Writes}
use Rattle.sequence_writer.specs.declared.Writer.{Writer}
use Rattle.sequence.specs.declared.progress.Progress.{Progress}

pub write_equal : (w : Writer) (values before after after' : List ℕ) (a b : Progress Writer) → Writes w values before after a → Writes w values before after' b → (a ≡ b) × (after ≡ after')
write_equal w values before after after' a b p q = filled_alike a b p q
