-- Where none of the frame's own rows applies, the row is one of those behind them.
use Rattle.std.proofs.Common.{sym, ◌∙◌}
use Rattle.drop_planes.proofs.Fitness.{drop_past}
use Rattle.drop_planes.proofs.drop_reply.Goals as goal

pub returns : goal.returns
returns c = c.behind_reply.ensures ∙ sym (drop_past _ _ _ _ (sym c.in_ok-frame_reply.ensures))
