use Rattle.std.proofs.Common.{arith}
use Rattle.frame.proofs.Laying.{laying_more, laying_done}
use Rattle.frame.proofs.planes.write_planes.Goals as goal

pub loop-b-preserved : goal.loop-b-preserved
loop-b-preserved c = laying_more _ _ _ _ c.loop-b.invariant (omega arith) (omega (arith, c.from.ensures, c.loop-b.invariant.few)) c.write_plane.ensures

pub returns : goal.returns
returns c = laying_done _ _ _ _ c.loop-b.invariant (omega arith)
