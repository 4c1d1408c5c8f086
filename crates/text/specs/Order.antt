-- A signed sample of 16 bits as a pair of octets, by which of them comes first: in two's complement, as std has it.
use Rattle.std.specs.Prelude.{ℕ, List, ℤ}
use Rattle.std.specs.Int.{w16, cast_signed, cast_unsigned, from_be_bytes, from_le_bytes, to_be_bytes, to_le_bytes}
use Rattle.text.specs.declared.samples.Order.{Order}
use Rattle.text.specs.declared.samples.Order.TheVariants.{HighFirst, LowFirst}

abbrev pub sample_of : Order → List ℕ → ℤ
sample_of HighFirst pair = cast_signed w16 (from_be_bytes w16 pair)
sample_of LowFirst pair = cast_signed w16 (from_le_bytes w16 pair)

abbrev pub pair_of : Order → ℤ → List ℕ
pair_of HighFirst sample = to_be_bytes w16 (cast_unsigned w16 sample)
pair_of LowFirst sample = to_le_bytes w16 (cast_unsigned w16 sample)
