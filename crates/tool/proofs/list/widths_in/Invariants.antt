-- `tool::list::widths_in`: what stands at the text's start so far are widths, no more than octets were looked at.
use Rattle.std.proofs.Common.{◌≤◌, take}
use Rattle.tool.specs.Widths.{AreWidths}
use Rattle.tool.proofs.list.widths_in.Given as goal

abbrev pub invariant-loop-i : goal.invariant-loop-i
invariant-loop-i l = (l.count ≤ l.i) × AreWidths (take l.count l.text)
