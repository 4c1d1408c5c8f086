-- The levels so far stand in the buffer.
use mathlib.Core.List.{map}
use lib.ListN.{length}
use Rattle.lists.proofs.Filled.{Filled}
use Rattle.levels.proofs.level_all.Given as goal

abbrev pub invariant-loop-i : goal.invariant-loop-i
invariant-loop-i g l =
    Filled l.fn.levels (map (g.E.End.level_is l.end) l.samples) (length l.samples) l.i l.levels
