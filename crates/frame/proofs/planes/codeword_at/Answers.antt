use Rattle.std.proofs.Common.{arith}
use Rattle.frame.proofs.Collecting.{collecting_none, collecting_more, collecting_done}
use Rattle.frame.proofs.planes.codeword_at.Goals as goal

pub loop-plane-init : goal.loop-plane-init
loop-plane-init c = collecting_none _ _ _ _

pub loop-plane-preserved : goal.loop-plane-preserved
loop-plane-preserved c = collecting_more _ _ _ _ c.loop-plane.invariant (omega arith) c.requires.0 c.shift_in-there.ensures

pub returns : goal.returns
returns c = collecting_done _ _ _ _ c.loop-plane.invariant (omega arith)
