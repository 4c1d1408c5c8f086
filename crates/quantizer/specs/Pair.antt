-- The nine pairs (x, y) of G.727, section 3: y core bits, from 2 to 4, and x bits in all, from y to 5. As a fact, and as a test.
use Rattle.std.specs.Prelude.{Bool, ◌&&◌, ℕ}
use Rattle.words.specs.Within.{Within, within}

pub record Pair (width core : ℕ) : Type 0 where
  pub cores : Within 2 4 core
  pub widths : Within core 5 width

abbrev pub is_pair : ℕ → ℕ → Bool
is_pair width core = within 2 4 core && within core 5 width
