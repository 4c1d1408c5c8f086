-- What was pushed and what both iterators have left are together as many as the places.
use Rattle.std.proofs.Common.{◌≡◌, ◌+◌, All, length}
use Rattle.quantizer.specs.Codeword.{Codeword}
use Rattle.vectors.proofs.codewords.i_input.Given as goal

abbrev pub invariant-loop-magnitude : goal.invariant-loop-magnitude
invariant-loop-magnitude l =
    All (Codeword l.width.bits) l.codewords.items
    × (length l.codewords.items + length l.magnitude-iterator.a.rest.now ≡ 16384)
    × (length l.magnitude-iterator.a.rest.now ≡ length l.magnitude-iterator.b.rest.now)
