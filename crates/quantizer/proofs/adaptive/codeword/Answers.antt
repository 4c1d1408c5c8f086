-- A word's logarithm and Y keep every step in range.
use Prim.Native.Nat.{◌≤◌}
use native.Mathlib.Omega.{arith}
use Rattle.logarithm.proofs.Range.{log_range, log_sign, normalized_word}
use Rattle.quantizer.proofs.adaptive.codeword.Goals as goal

pub subtb-requires : goal.subtb-requires
subtb-requires c =
    let dl : c.log-l.result.dl ≤ 1919 = rw c.log-l.ensures (log_range _ (omega arith)) in
    (omega arith, omega arith)

pub quan-requires : goal.quan-requires
quan-requires c = (rw c.subtb.ensures (normalized_word _ _), rw c.log-l.ensures (log_sign _ (omega arith)))
