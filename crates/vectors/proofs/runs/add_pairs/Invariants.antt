use Rattle.std.proofs.Common.{◌≡◌, ◌+◌, ◌*◌, All, length}
use Rattle.quantizer.specs.Pair.{Pair}
use Rattle.vectors.specs.Runs.{laws_count}
use Rattle.vectors.proofs.runs.add_pairs.Given as goal

abbrev pub invariant-loop-width : goal.invariant-loop-width
invariant-loop-width l = All (λ pair. Pair pair.0 pair.1) l.width-items × (length l.runs.items ≡ length l.fn.runs.items + l.width-index * laws_count l.kind)
