use mathlib.Core.List.{map}
use lib.ListN.{length, length-map}
use Rattle.levels.proofs.Fitness.{encode_fits}
use Rattle.levels.proofs.Answers.{levels_done}
use Rattle.levels.proofs.encode_samples.Goals as goal

pub encode_into-requires-clause-able : goal.encode_into-requires-clause-able
encode_into-requires-clause-able g c =
    let fits = c.in-Ok.ensures in
    rw fits.header (encode_fits _ _ _ _ _ _ _ fits.number).2

pub encode_into-requires-clause-taken : goal.encode_into-requires-clause-taken
encode_into-requires-clause-taken g c = (encode_fits _ _ _ _ _ _ _ c.in-Ok.ensures.number).1

pub returns-in-Ok : goal.returns-in-Ok
returns-in-Ok g c =
    let fits = c.in-Ok.ensures in
    let coded = rw fits.header at c.encode_into.ensures in
    let levels = map (g.E.End.level_is c.args.end) c.args.samples.now in
    rw (c.due_length.ensures, fits.header) (levels_done _ c.args.s c.args.edition c.args.width (length c.args.samples.now) levels c.args.out.now fits.number (length-map _ _) coded)
