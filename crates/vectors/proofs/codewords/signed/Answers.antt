use Rattle.std.proofs.Common.{arith}
use Rattle.quantizer.proofs.Halves.{halves}
use Rattle.vectors.proofs.codewords.signed.Goals as goal

pub overflow_mul-result : goal.overflow_mul-result
overflow_mul-result c = omega (arith, halves c.args.width.is_width)
