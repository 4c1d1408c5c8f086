use Rattle.frame.proofs.Laying.{Laying}
use Rattle.frame.proofs.planes.write_planes.Given as goal

abbrev pub invariant-loop-b : goal.invariant-loop-b
invariant-loop-b l = Laying l.initial.out l.codewords l.x l.g l.b l.out
