use Rattle.std.proofs.Common.{◌≡◌, ◌+◌, length}
use Rattle.vectors.proofs.runs.add_laws.Given as goal

abbrev pub invariant-loop-laws : goal.invariant-loop-laws
invariant-loop-laws l = length l.runs.items ≡ length l.fn.runs.items + l.laws-index
