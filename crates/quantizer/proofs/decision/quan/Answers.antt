-- Each array is the thresholds of its width.
use mathlib.Core.Path.{refl, ◌∙◌}
use native.Mathlib.Omega.{arith}
use Rattle.lists.specs.Tabulate.{entries}
use Rattle.quantizer.specs.Decision.{table8, table9, table10, table11, decisions}
use Rattle.quantizer.proofs.Columns.{begins, levels}
use Rattle.quantizer.proofs.Nesting.{by_levels, read_as_5}
use Rattle.quantizer.proofs.decision.quan.Goals as goal

pub returns-in-2 : goal.returns-in-2
unfolding levels begins entries decisions table8 table9 table10 table11
returns-in-2 c = by_levels 2 tt c.in-2.is c.codeword_of.ensures c.requires

pub returns-in-3 : goal.returns-in-3
unfolding levels begins entries decisions table8 table9 table10 table11
returns-in-3 c = by_levels 3 tt c.in-3.is c.codeword_of-in-3.ensures c.requires

pub returns-in-4 : goal.returns-in-4
unfolding levels begins entries decisions table8 table9 table10 table11
returns-in-4 c = by_levels 4 tt c.in-4.is c.codeword_of-in-4.ensures c.requires

pub returns-in_default : goal.returns-in_default
unfolding levels begins entries decisions table8 table9 table10 table11
returns-in_default c =
    by_levels 5 tt refl c.codeword_of-in_default.ensures c.requires
    ∙ read_as_5 c.args.ds c.args.dln (omega arith) (omega arith) (omega arith)
