-- `sequence_writer::write` meets its contract.
use Rattle.std.proofs.Common.{sym, ◌∙◌}
use Rattle.std.proofs.lemmas.List.{set-get_or}
use Rattle.sequence_writer.proofs.Laying.{laying_full, laying_stopped, laying_more, as_number}
use Rattle.sequence_writer.proofs.write.Goals as goal

pub returns-in_default : goal.returns-in_default
returns-in_default c =
    rw set-get_or (laying_stopped _ _ _ c.loop-written.invariant c.loop-written-test.true _ c.get.ensures.lookup _ c.copied.ensures (sym c.in_default.ensures))

pub loop-written-preserved : goal.loop-written-preserved
loop-written-preserved c =
    laying_more _ _ _ c.loop-written.invariant c.loop-written-test.true _ c.get.ensures.lookup _ c.copied.ensures (sym c.in-Some.ensures) (c.from-taken.ensures ∙ rw c.awaits.ensures (as_number _))

pub returns : goal.returns
returns c = laying_full _ _ _ c.loop-written.invariant c.loop-written-test.false
