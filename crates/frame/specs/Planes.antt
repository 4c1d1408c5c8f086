-- A frame written (docs/RULES.md, "The frame"): "x planes of g octets each: first the sign bits of all samples, then the next lower bit, and so on.
-- Within a plane the first sample has the most significant bit of the first octet."
use Rattle.std.specs.Prelude.{List, [], ◌++◌, ℕ, zero, suc, ◌+◌, ◌*◌, ◌%◌, get_or, drop}
use Rattle.words.specs.Notation.{◌>>◌}
use Rattle.lists.specs.Tabulate.{tabulate}
use Rattle.frame.specs.declared.header.Header.{Header}
use Rattle.frame.specs.Header.{group, header_octets}

-- bit b of a number, the least significant bit being 0
unfoldable pub bit : ℕ → ℕ → ℕ
bit b c = (c >> b) % 2

-- bit b of the next n codewords, most significant first, behind what is there
unfoldable pub gather : ℕ → ℕ → List ℕ → ℕ → ℕ
gather zero b codewords there = there
gather (suc n) b codewords there = gather n b (drop 1 codewords) (there * 2 + bit b (get_or codewords 0 0))

-- the octet of bit b of group j
unfoldable pub octet_at : ℕ → List ℕ → ℕ → ℕ
octet_at b codewords j = gather group b (drop (group * j) codewords) 0

-- the plane of bit b
unfoldable pub plane : ℕ → ℕ → List ℕ → List ℕ
plane g b codewords = tabulate g (octet_at b codewords)

-- the planes of bits x - 1 down to 0
unfoldable pub planes : ℕ → ℕ → List ℕ → List ℕ
planes g zero codewords = []
planes g (suc b) codewords = plane g b codewords ++ planes g b codewords

-- the frame of a header and its codewords
unfoldable pub frame_of : Header → List ℕ → List ℕ
frame_of h codewords = header_octets h ++ planes h.groups h.width codewords
