use Rattle.std.proofs.Common.{◌+◌, ◌*◌, ◌%◌, rules, ◌∙◌}
use Rattle.std.proofs.lemmas.Iterator.{YieldsList-from_slice}
use Rattle.std.proofs.lemmas.Iterator.Consumers.{fold_from_yields_List}
use Rattle.frame.specs.Planes.{bit}
use Rattle.frame.proofs.Gathering.{gathered}
use Rattle.frame.proofs.planes.octet.Goals as goal

pub returns : goal.returns
returns c =
    fold_from_yields_List _ (λ t x. (t * 2 + bit c.args.b x) % 256) 0 _ c.fold.ensures.ran (YieldsList-from_slice c.args.codewords.now cc) (λ a x b q k. search rules)
    ∙ gathered c.args.b c.args.codewords.now cc
