-- The core bits of the received codeword move the memory, the rest of it the output alone.
use Rattle.engine.proofs.Estimates.{y_is, se_is, y_answered, se_answered}
use Rattle.sample.specs.Decode.{decode_of}
use Rattle.sample.proofs.Cores.{core_codeword}
use Rattle.sample.proofs.level.decode_level.Goals as goal

pub step-next-requires : goal.step-next-requires
step-next-requires c =
    (c.requires.0, c.estimate-e.ensures, rw c.core_bits.ensures (core_codeword c.requires.1 c.requires.2.short))

pub output_signal-requires : goal.output_signal-requires
output_signal-requires c =
    let is = c.estimate-e.ensures in
    (y_answered c.args.m is c.requires.0, se_answered c.args.m is, c.requires.2)

pub returns : goal.returns
unfolding decode_of
returns c =
    let is = c.estimate-e.ensures in
    rw (c.output_signal.ensures, c.step-next.ensures, c.core_bits.ensures, y_is c.args.m is, se_is c.args.m is)
