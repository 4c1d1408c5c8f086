-- The samples' levels are what is encoded.
use lib.ListN.{length-map}
use Rattle.frame.specs.Header.{most_groups}
use Rattle.levels.proofs.Fitness.{encodable_few}
use Rattle.levels.proofs.Samples.{levels_first, short_levels}
use Rattle.levels.proofs.encode_into.Goals as goal

pub level_all-requires-clause-room : goal.level_all-requires-clause-room
unfolding most_groups
level_all-requires-clause-room g c = encodable_few c.requires.able

pub encode_levels-requires : goal.encode_levels-requires
encode_levels-requires g c =
    let level = g.E.End.level_is c.args.end in
    let samples = c.args.samples.now in
    let first = rw (length-map samples level) at (levels_first c.level_all.ensures) in
    rw (first, length-map samples level)
    (c.requires.able, short_levels (g.E.End.taken c.args.end) level (g.met.E.End.short c.args.end) samples c.requires.taken)

pub returns : goal.returns
returns g c =
    let level = g.E.End.level_is c.args.end in
    let samples = c.args.samples.now in
    let first = rw (length-map samples level) at (levels_first c.level_all.ensures) in
    rw first at c.encode_levels.ensures
