-- What a codeword allows (docs/RULES.md, "The steps of one sample"): exactly those differences that LOG, SUBTB and QUAN turn into it.
-- A difference is the 16-bit word D, two's complement, so D runs through all from -32,768 to 32,767.
use Rattle.std.specs.Prelude.{◌≡◌, ℕ, ◌<◌}
use Rattle.quantizer.specs.Adaptive.{codeword}

pub record Allows (width Y I D : ℕ) : Type 0 where
  pub word : D < 65536
  pub coded : codeword width Y D ≡ I
