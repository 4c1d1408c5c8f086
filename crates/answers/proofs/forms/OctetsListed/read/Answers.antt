use Rattle.std.proofs.Common.{◌≡◌, ◌≢◌, ◌*◌, ◌/◌, ◌<◌, length, arith, rules}
use Rattle.std.proofs.lemmas.Grind.{common_steps}
use Rattle.std.specs.Prelude.{codes}
use Rattle.answers.proofs.Chunks.{octets_joined, pairs_written, piece_written}
use Rattle.answers.proofs.forms.OctetsListed.read.Goals as goal

pub returns-then-is_empty-clause-none : goal.returns-then-is_empty-clause-none
returns-then-is_empty-clause-none c =
    λ octets small same.
    let some : c.args.text.now ≢ codes "-" = search rules in
    let pairs = pairs_written octets c.args.text.now some same in
    grind (arith, common_steps)

pub returns-in-None-clause-none : goal.returns-in-None-clause-none
returns-in-None-clause-none c =
    λ octets small same.
    let some : c.args.text.now ≢ codes "-" = search rules in
    let written = piece_written octets c.args.text.now c.loop-pair.pair-index small some same (grind (arith, common_steps)) in
    c.in-None.ensures.none written.0 written.1 (grind (arith, common_steps, written.2))

pub returns-clause-list : goal.returns-clause-list
returns-clause-list c =
    let pairs : 0 < length c.args.text.now / 2 = grind (arith, common_steps) in
    let even : length c.args.text.now ≡ 2 * (length c.args.text.now / 2) = grind (arith, common_steps) in
    octets_joined c.loop-pair.list.items (length c.args.text.now / 2) c.args.text.now even pairs (grind (arith, common_steps))
