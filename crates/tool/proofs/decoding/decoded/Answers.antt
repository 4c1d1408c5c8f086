use mathlib.Core.Path.{◌∙◌}
use Rattle.std.proofs.lemmas.Result.{err_from_is_err_and}
use Rattle.tool.proofs.Refused.{kept}
use Rattle.tool.proofs.decoding.decoded.Goals as goal

pub returns-in_err-or_done-in-Companded : goal.returns-in_err-or_done-in-Companded
returns-in_err-or_done-in-Companded c =
    let p = err_from_is_err_and c.from_residual.result c.from_residual.ensures.1 in
    let e = c.in_err-or_done-in-Companded.ensures in
    rw (p.1, p.2) (e.1 ∙ kept _ _ _ _ _ c.decode-answer.ensures e.0 ∙ c.state_at-met.ensures)

pub returns-in_err-or_done-in-Linear : goal.returns-in_err-or_done-in-Linear
returns-in_err-or_done-in-Linear c =
    let p = err_from_is_err_and c.from_residual-in_err-or_done-in-Linear.result c.from_residual-in_err-or_done-in-Linear.ensures.1 in
    let e = c.in_err-or_done-in-Linear.ensures in
    rw (p.1, p.2) (e.1 ∙ kept _ _ _ _ _ c.decode_linear-answer.ensures e.0 ∙ c.state_at-met.ensures)
