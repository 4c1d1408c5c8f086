-- What is left of the values, written from here into the room that is left, makes the rest of the piece.
use Rattle.sequence.proofs.Underway.{Midway}
use Rattle.sequence_writer.specs.Writing.{writing}
use Rattle.sequence_writer.proofs.write.Given as goal

abbrev pub invariant-loop-written : goal.invariant-loop-written
invariant-loop-written l = Midway writing l.fn.from l.values l.initial.text l.writer l.taken l.written l.text
