use Rattle.std.proofs.Common.{◌≡◌}
use Rattle.vectors.proofs.drive.played.Given as goal

abbrev pub invariant-loop-index : goal.invariant-loop-index
invariant-loop-index g l = goal.F-IsAlwaysCallable g l.take × (l.ends.run ≡ l.fn.ends.run)
