use Rattle.frame.proofs.Gathering.{Filling}
use Rattle.frame.proofs.planes.write_plane.Given as goal

abbrev pub invariant-loop-j : goal.invariant-loop-j
invariant-loop-j l = Filling l.initial.out l.codewords l.b l.j l.out
