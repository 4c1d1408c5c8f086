use native.Mathlib.Omega.{arith}
use lib.ListN.{length-map}
use Rattle.std.proofs.lemmas.List.{get_or-map}
use Rattle.lists.proofs.Filled.{filled_none, filled_more, filled_all}
use Rattle.levels.proofs.Samples.{taken_at}
use Rattle.levels.proofs.level_all.Goals as goal

pub loop-i-init : goal.loop-i-init
loop-i-init g c = filled_none _ _ _ (length-map _ _) c.requires.room

pub level-requires : goal.level-requires
level-requires g c =
    grind (arith, taken_at (g.E.End.taken c.args.end) c.args.samples.now c.requires.taken)

pub loop-i-preserved : goal.loop-i-preserved
loop-i-preserved g c =
    let at = get_or-map (g.E.End.level_is c.args.end) c.args.samples.now c.loop-i.i c.index-samples-i.result 0 c.loop-i-test.true in
    filled_more _ _ _ 0 c.loop-i.invariant c.loop-i-test.true (grind (arith, at))

pub returns : goal.returns
returns g c = record { out = rw (length-map _ _) (filled_all _ _ _ c.loop-i.invariant c.loop-i-test.false) }
