use Rattle.std.proofs.Common.{◌≡◌}
use Rattle.vectors.proofs.drive.perform.Given as goal

abbrev pub invariant-loop-octet : goal.invariant-loop-octet
invariant-loop-octet g l = l.ends.run ≡ l.run
