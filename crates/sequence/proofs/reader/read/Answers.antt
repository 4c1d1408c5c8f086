-- `sequence::reader::read` meets its contract: a character that is taken, with a value and without.
use Rattle.std.proofs.Common.{sym, ◌∙◌}
use Rattle.sequence.proofs.Going.{going_value, going_nothing}
use Rattle.sequence.proofs.reader.read.Goals as goal
use Rattle.sequence.proofs.reader.read.Goals.{in-Some+else-values-written, in_default}

pub loop-taken-preserved : goal.loop-taken-preserved
loop-taken-preserved c =
    let g = c.loop-taken.invariant in
    let sound = sym c.is_err.ensures.value ∙ c.if-is_err.false in
    elim c.match-next.branch [
      | in-Some+else-values-written w ↦ rw (w.values-is, w.written-is) (going_value _ _ _ g c.loop-taken-test.true c.step-next.ensures sound _ w.in-Some.is w.if-values-written.false)
      | in_default w ↦ rw (w.values-is, w.written-is) (going_nothing _ _ _ g c.loop-taken-test.true c.step-next.ensures sound w.in_default.is)
    ]
