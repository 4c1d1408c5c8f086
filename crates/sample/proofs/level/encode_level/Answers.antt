-- The codeword's core bits are a core codeword, since it is below 2 ^ width.
use Rattle.logarithm.proofs.Range.{subta_word}
use Rattle.quantizer.proofs.Coding.{codeword_range}
use Rattle.quantizer.proofs.Pairs.{pair_width}
use Rattle.engine.proofs.Estimates.{y_is, se_is, y_answered, se_answered}
use Rattle.sample.specs.Encode.{D, I, encode_of}
use Rattle.sample.proofs.Cores.{core_codeword}
use Rattle.sample.proofs.level.encode_level.Goals as goal

pub subta-requires : goal.subta-requires
subta-requires c = (c.requires.2, se_answered c.args.m c.estimate-e.ensures)

pub codeword-i-requires : goal.codeword-i-requires
codeword-i-requires c = y_answered c.args.m c.estimate-e.ensures c.requires.0

pub step-next-requires : goal.step-next-requires
step-next-requires c =
    let short = (codeword_range c.estimate-e.result.y (subta_word c.args.sl c.estimate-e.result.se) (pair_width c.requires.1)).short in
    (c.requires.0, c.estimate-e.ensures, rw (c.core_bits.ensures, c.codeword-i.ensures, c.subta.ensures) (core_codeword c.requires.1 short))

pub returns : goal.returns
unfolding encode_of I D
returns c =
    let is = c.estimate-e.ensures in
    rw (c.step-next.ensures, c.core_bits.ensures, c.codeword-i.ensures, c.subta.ensures, y_is c.args.m is, se_is c.args.m is)
