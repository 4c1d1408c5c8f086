-- `sequence_writer::digits::capital` meets its contract.
use Rattle.sequence_writer.proofs.Capitals.{capital_row}
use Rattle.sequence_writer.proofs.digits.capital.Goals as goal

pub returns : goal.returns
returns c = rw c.from.ensures (capital_row _ c.requires)
