-- A codeword's level and Y keep ANTILOG's exponent below 15.
use Prim.Native.Nat.{◌+◌, ◌%◌, ◌≤◌, ◌<◌}
use native.Mathlib.Omega.{arith}
use Rattle.logarithm.proofs.Range.{scaled_word}
use Rattle.quantizer.proofs.Ranges.{reconst_near, reconst_signed}
use Rattle.quantizer.proofs.Differences.{difference_scaled}
use Rattle.quantizer.proofs.adaptive.difference.Goals as goal

pub adda-requires : goal.adda-requires
adda-requires c = rw c.reconst-q.ensures (reconst_near c.requires.1).word

pub antilog-requires : goal.antilog-requires
antilog-requires c =
    let code = c.requires.1 in
    let scaled : (c.adda.result + 128) % 4096 ≤ 1864 = rw (c.adda.ensures, c.reconst-q.ensures) (difference_scaled code c.requires.0) in
    let word : c.adda.result < 4096 = rw c.adda.ensures (scaled_word _ _) in
    let sign : c.reconst-q.result.dqs < 2 = rw c.reconst-q.ensures (reconst_signed code) in
    omega arith
