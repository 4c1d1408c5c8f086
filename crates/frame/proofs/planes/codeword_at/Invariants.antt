use Rattle.frame.proofs.Collecting.{Collecting}
use Rattle.frame.proofs.planes.codeword_at.Given as goal

abbrev pub invariant-loop-plane : goal.invariant-loop-plane
invariant-loop-plane l = Collecting l.body l.x l.g l.k l.plane l.there
