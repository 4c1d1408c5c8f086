-- What is answered for what the end puts out and counts is answered for the end.
use Rattle.sample.specs.End.{linear}
use Rattle.codewords.proofs.Answers.{decodes_of}
use Rattle.decode_linear.proofs.decode_linear.Goals as goal

pub returns : goal.returns
returns c = decodes_of linear c.args.s c.args.frame.now c.args.out.now c.decode_samples.ensures
