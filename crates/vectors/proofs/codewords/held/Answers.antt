use Rattle.std.proofs.Common.{◌-◌, ap, replicate, arith}
use Rattle.std.proofs.lemmas.List.Elements.{All-replicate}
use Rattle.quantizer.specs.Codeword.{Codeword}
use Rattle.quantizer.proofs.Halves.{halves}
use Rattle.vectors.proofs.codewords.held.Goals as goal

pub returns-clause-codewords : goal.returns-clause-codewords
returns-clause-codewords c =
    let is_width = c.args.width.is_width in
    All-replicate (Codeword c.args.width.bits) 2000 _ (record { least = is_width.least; most = is_width.most; short = omega (arith, halves is_width) })

pub returns-clause-items : goal.returns-clause-items
returns-clause-items c = ap (λ half. replicate 2000 (half - 1)) c.half.ensures
