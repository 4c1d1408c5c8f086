use mathlib.Core.Path.{sym}
use Rattle.std.proofs.lemmas.Result.{err_from_is_err_and}
use Rattle.words.proofs.First.{first_says}
use Rattle.levels.proofs.Fitness.{asked_groups, asked_refused, asked_done}
use Rattle.levels.proofs.fit_header.Goals as goal

pub returns-in_err-asked_reply-clause-number : goal.returns-in_err-asked_reply-clause-number
returns-in_err-asked_reply-clause-number g c =
    let p = err_from_is_err_and c.from_residual.result c.from_residual.ensures.1 in
    let asked = rw c.is_known.ensures at c.in_err-asked_reply.ensures in
    rw (p.1, p.2) (asked_refused _ _ _ _ _ _ _ _ asked)

pub due_header-h-requires : goal.due_header-h-requires
due_header-h-requires g c = asked_groups _ _ _ _ _ (first_says _ tt (sym c.in_ok-asked_reply.ensures))

pub returns-in_err-lent_reply-clause-number : goal.returns-in_err-lent_reply-clause-number
returns-in_err-lent_reply-clause-number g c =
    let p = err_from_is_err_and c.from_residual-in_err-lent_reply.result c.from_residual-in_err-lent_reply.ensures.1 in
    let asked = rw c.is_known.ensures at c.in_ok-asked_reply.ensures in
    let lent = rw (c.due_header-h.ensures, c.are_taken.ensures) at c.in_err-lent_reply.ensures in
    rw (p.1, p.2) (asked_done _ _ _ _ _ _ _ asked lent)

pub returns-clause-number : goal.returns-clause-number
returns-clause-number g c =
    let asked = rw c.is_known.ensures at c.in_ok-asked_reply.ensures in
    let lent = rw (c.due_header-h.ensures, c.are_taken.ensures) at c.in_ok-lent_reply.ensures in
    asked_done _ _ _ _ _ _ _ asked lent
