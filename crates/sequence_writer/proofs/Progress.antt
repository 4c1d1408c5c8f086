-- The writer gets on: a call that has room makes a character, unless all is done or a value is awaited that is not there.
use Rattle.std.proofs.Common.{◌≡◌, ℕ, zero, suc, ◌<◌, false, ◌&&◌, ◌||◌, eqb, List, length, arith}
use Rattle.sequence.specs.Piece.{further}
use Rattle.sequence_writer.specs.Writing.{is_done, awaits, writing}
use Rattle.sequence_writer.specs.declared.Writer.{Writer}
use Rattle.sequence_writer.proofs.Laying.{writing_more}

pub writing_gets_on : (room : ℕ) (w : Writer) (vs : List ℕ) → 0 < room → is_done w.stage || (awaits w && eqb (length vs) 0) ≡ false → 0 < length (writing room w vs).made
unfolding further
writing_gets_on zero w vs some e = absurd (omega arith)
writing_gets_on (suc room) w vs some e = rw (writing_more room w vs e) (omega arith)
