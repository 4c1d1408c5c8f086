-- What the tables give of the core codeword is what the definition names.
use Rattle.quantizer.proofs.Halves.{codeword_of_core}
use Rattle.quantizer.proofs.Ranges.{functf_small}
use Rattle.engine.proofs.Estimates.{y_is, y_answered}
use Rattle.sample.specs.Core.{step_of}
use Rattle.sample.proofs.level.step.Goals as goal

pub difference-requires : goal.difference-requires
difference-requires c = (y_answered c.args.m c.requires.1 c.requires.0, codeword_of_core c.requires.2)

pub advance-requires : goal.advance-requires
advance-requires c = (c.requires.0, c.requires.1, rw c.functf.ensures (functf_small c.requires.2))

pub returns : goal.returns
unfolding step_of
returns c =
    rw (c.advance.ensures, c.functf.ensures, c.functw.ensures, c.difference.ensures, y_is c.args.m c.requires.1)
