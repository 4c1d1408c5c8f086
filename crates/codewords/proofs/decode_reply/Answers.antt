-- Row by row; the frame's own rows are passed on.
use Rattle.std.proofs.Common.{sym}
use Rattle.std.proofs.lemmas.Result.{err_from_is_err_and}
use Rattle.codewords.proofs.Fitness.{frame_refused, frame_passed}
use Rattle.codewords.proofs.decode_reply.Goals as goal

pub returns-in_err-frame_reply : goal.returns-in_err-frame_reply
returns-in_err-frame_reply c =
    let p = err_from_is_err_and c.from_residual.result c.from_residual.ensures.1 in
    rw (p.1, p.2) (frame_refused _ _ _ _ _ (sym c.if-not-in_range.ensures) c.if-not-known.false _ c.in_err-frame_reply.ensures)

pub returns : goal.returns
returns c =
    frame_passed _ _ _ _ _ (sym c.if-not-in_range.ensures) c.if-not-known.false c.in_ok-frame_reply.ensures c.behind_reply.ensures
