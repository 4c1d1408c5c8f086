-- What is answered for the samples' levels is answered for the samples.
use Rattle.sample.specs.End.{linear}
use Rattle.levels.proofs.Answers.{encodes_of}
use Rattle.encode_linear.proofs.encode_linear.Goals as goal

pub returns : goal.returns
returns c = encodes_of linear c.args.s c.args.edition c.args.width c.args.samples.now c.args.out.now c.encode_samples.ensures
