-- What the rules' table has no test for: A1, A2 and B1 to B6 are 16-bit words, and there are six B and six DQ. The code's Memory says so by its types;
-- here a Memory holds numbers and lists, which could be any.
use Rattle.std.specs.Prelude.{List, ◌≡◌, ℕ, ◌<◌, length, get_or}
use Rattle.state.specs.declared.memory.Memory.{Memory}

pub record SixWords (b : List ℕ) : Type 0 where
  pub b1 : get_or b 0 0 < 65536
  pub b2 : get_or b 1 0 < 65536
  pub b3 : get_or b 2 0 < 65536
  pub b4 : get_or b 3 0 < 65536
  pub b5 : get_or b 4 0 < 65536
  pub b6 : get_or b 5 0 < 65536

pub record Words (m : Memory) : Type 0 where
  pub pole1 : m.a1 < 65536
  pub pole2 : m.a2 < 65536
  pub zeros : SixWords m.b
  pub six_zeros : length m.b ≡ 6
  pub six_differences : length m.dq ≡ 6
