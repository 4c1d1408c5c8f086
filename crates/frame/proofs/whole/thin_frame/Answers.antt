-- The first planes are copied, and the header is written anew.
use Rattle.std.proofs.Common.{◌≡◌, ◌*◌, ◌++◌, ◌≤◌, length, drop, ap, arith, ◌∙◌}
use native.Mathlib.Nat.{mul-le-mul_right}
use Rattle.frame.specs.Header.{header_of, due_length}
use Rattle.frame.specs.Read.{body, narrowed, thinned}
use Rattle.frame.proofs.Headers.{header_renewed}
use Rattle.frame.proofs.whole.thin_frame.Goals as goal

pub returns : goal.returns
unfolding thinned body
returns c =
    let f = c.args.frame.now in
    let d = c.args.out.now in
    let n = c.due_length-n.result in
    let is_length : n ≡ due_length (narrowed c.args.w c.args.h) = c.due_length-n.ensures ∙ rw c.narrow-thin.ensures in
    let fewer : c.args.w * c.args.h.groups ≤ c.args.h.width * c.args.h.groups = mul-le-mul_right c.args.h.groups c.requires.2.high in
    let long : n ≤ length f = rw is_length (omega (arith, c.requires.1.whole)) in
    let done = ap (λ ys. ys ++ drop n d) c.copy_from_slice.ensures.after in
    rw (c.write_header.ensures, done, c.narrow-thin.ensures, is_length, c.requires.0)
    (header_renewed (narrowed c.args.w (header_of f)) (c.args.w * (header_of f).groups) f _ (rw (is_length, c.requires.0) at long))
