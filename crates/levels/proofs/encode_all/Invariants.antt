-- The run of the codewords so far, which stand in the buffer.
use Rattle.levels.proofs.Encoding.{Encoding}
use Rattle.levels.proofs.encode_all.Given as goal

abbrev pub invariant-loop-i : goal.invariant-loop-i
invariant-loop-i l = Encoding l.core l.width l.fn.from l.levels l.initial.codewords l.i l.memory l.codewords
