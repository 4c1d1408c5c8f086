use Rattle.std.proofs.Common.{◌≡◌, map, take}
use Rattle.answers.specs.Forms.{sample_of}
use Rattle.answers.proofs.forms.samples_of.Given as goal

abbrev pub invariant-loop-pair : goal.invariant-loop-pair
invariant-loop-pair l = l.list.items ≡ map sample_of (take l.pair-index l.pairs)
