-- The relation that laws of bit_length go by; a reader of the definitions does not need it.
use Rattle.std.specs.Prelude.{ℕ, ◌+◌, ◌*◌, ◌^◌, ◌<◌, ◌≤◌}

-- n bits are enough for m, and one bit less is not: what any body of `bit_length` has to find
pub record Spans (m n : ℕ) : Type 0 where
  pub low : 2 ^ n ≤ 2 * m + 1
  pub high : m < 2 ^ n
