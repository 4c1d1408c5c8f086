use Rattle.std.proofs.Common.{◌≡◌, map, take}
use Rattle.answers.specs.Forms.{octet_text}
use Rattle.answers.proofs.forms.OctetsListed.read.Given as goal

abbrev pub invariant-loop-pair : goal.invariant-loop-pair
invariant-loop-pair l = map octet_text l.list.items ≡ take l.pair-index l.pairs
