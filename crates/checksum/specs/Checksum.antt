-- The checksum of a list of numbers (docs/SEQUENCES.md): h starts at 0, and each number in order makes the next h.
use Rattle.std.specs.Prelude.{List, ℕ, ◌+◌, ◌*◌, ◌%◌}
use Rattle.std.specs.List.{fold}

-- one number v more
abbrev pub added : ℕ → ℕ → ℕ
added h v = (h * 65599 + v + 1) % 4294967291

abbrev pub checksum_of : List ℕ → ℕ
checksum_of numbers = fold added 0 numbers
