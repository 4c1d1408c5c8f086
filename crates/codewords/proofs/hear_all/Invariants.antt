-- The run of the samples so far, which stand in the buffer.
use Rattle.frame.specs.Read.{codewords}
use Rattle.codewords.proofs.Decoding.{Decoding}
use Rattle.codewords.proofs.hear_all.Given as goal

abbrev pub invariant-loop-k : goal.invariant-loop-k
invariant-loop-k g l =
    let end = g.E.End in
    Decoding l.h.core l.h.width (end.heard l.end l.h.core l.h.width) (end.counted l.end l.h.core l.h.width) l.fn.from (codewords l.h.width l.h.groups l.planes) l.initial.out l.k l.memory l.disagreements l.out
