-- Each array is its table's column DQLN, by magnitude.
use native.Mathlib.Omega.{arith}
use Rattle.lists.specs.Tabulate.{entries, tabulate}
use Rattle.quantizer.specs.Table.{output}
use Rattle.quantizer.specs.Output.{outputs, table12, table13, table14, table15}
use Rattle.quantizer.proofs.Columns.{column}
use Rattle.quantizer.proofs.Ranges.{column_is}
use Rattle.quantizer.proofs.output.dqln_of.Goals as goal

pub returns-in-2 : goal.returns-in-2
unfolding column entries tabulate output outputs table12 table13 table14 table15
returns-in-2 c = column_is 2 c.requires c.in-2.is (cc)

pub returns-in-3 : goal.returns-in-3
unfolding column entries tabulate output outputs table12 table13 table14 table15
returns-in-3 c = column_is 3 c.requires c.in-3.is (cc)

pub returns-in-4 : goal.returns-in-4
unfolding column entries tabulate output outputs table12 table13 table14 table15
returns-in-4 c = column_is 4 c.requires c.in-4.is (cc)

pub returns-in_default : goal.returns-in_default
unfolding column entries tabulate output outputs table12 table13 table14 table15
returns-in_default c = column_is 5 c.requires (omega arith) (cc)
