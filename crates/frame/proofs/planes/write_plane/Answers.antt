use Rattle.std.proofs.Common.{arith}
use Rattle.frame.proofs.Gathering.{filling_none, filling_more, filling_done}
use Rattle.frame.proofs.planes.write_plane.Goals as goal

pub loop-j-init : goal.loop-j-init
loop-j-init c = filling_none _ _ _ c.requires.0

pub loop-j-preserved : goal.loop-j-preserved
loop-j-preserved c =
    let is = c.as_chunks.ensures in
    filling_more _ _ _ c.loop-j.invariant (omega (arith, c.loop-j-test.true, is.front_len)) (rw is.front at c.octet.ensures)

pub returns : goal.returns
returns c = filling_done _ _ _ c.requires.0 c.loop-j.invariant (omega (arith, c.loop-j-test.false, c.as_chunks.ensures.front_len))
