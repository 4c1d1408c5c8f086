-- What is left of the text, read from here with the room that is left, makes the rest of the piece.
use Rattle.sequence.specs.Reading.{reading}
use Rattle.sequence.proofs.Underway.{Midway}
use Rattle.sequence.proofs.reader.read.Given as goal

abbrev pub invariant-loop-taken : goal.invariant-loop-taken
invariant-loop-taken l = Midway reading l.fn.from l.text l.initial.values l.reader l.taken l.written l.values
