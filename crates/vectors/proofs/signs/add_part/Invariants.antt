use Rattle.std.proofs.Common.{◌≡◌, ◌+◌, length}
use Rattle.vectors.proofs.signs.add_part.Given as goal

abbrev pub invariant-loop-n : goal.invariant-loop-n
invariant-loop-n g l = goal.F-IsAlwaysCallable g l.sign × (length l.signs.items ≡ length l.fn.signs.items + l.n)
