-- What a codeword is: a number of `width` bits, of which "the most significant bit represents the sign bit and the remaining bits
-- represent the magnitude" (G.727, section 4.3). The widths are 2 to 5; a core has 2 to 4 bits (section 3).
use Rattle.std.specs.Prelude.{ℕ, ◌^◌, ◌≤◌, ◌<◌}

pub record Width (width : ℕ) : Type 0 where
  pub least : 2 ≤ width
  pub most : width ≤ 5

pub record Codeword (width I : ℕ) : Type 0 where
  pub least : 2 ≤ width
  pub most : width ≤ 5
  pub short : I < 2 ^ width

pub record CoreCodeword (core I : ℕ) : Type 0 where
  pub least : 2 ≤ core
  pub most : core ≤ 4
  pub short : I < 2 ^ core
