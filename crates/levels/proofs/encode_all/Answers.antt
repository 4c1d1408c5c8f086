use Rattle.levels.proofs.Encoding.{encoding_none, encoding_more, encoding_done}
use Rattle.levels.proofs.encode_all.Goals as goal

pub loop-i-init : goal.loop-i-init
loop-i-init c = encoding_none _ _ _ _ _ c.requires.0 c.requires.2

pub loop-i-preserved : goal.loop-i-preserved
loop-i-preserved c =
    encoding_more _ _ _ _ _ c.loop-i.invariant c.loop-i-test.true c.requires.1 c.encode_level-encoded.ensures

pub returns : goal.returns
returns c = encoding_done _ _ _ _ _ c.loop-i.invariant c.loop-i-test.false
