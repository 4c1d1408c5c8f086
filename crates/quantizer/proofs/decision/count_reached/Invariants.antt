-- What was counted so far.
use Rattle.std.proofs.Common.{◌≡◌, ◌≤◌, take}
use Rattle.quantizer.specs.Threshold.{reached}
use Rattle.quantizer.proofs.decision.count_reached.Given as goal

abbrev pub invariant-loop-level : goal.invariant-loop-level
invariant-loop-level l = (l.n ≡ reached (take l.level-index l.levels) l.dln) × (l.n ≤ l.level-index)
