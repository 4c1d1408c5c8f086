-- A frame read, and a frame thinned (docs/RULES.md, "The frame"): "Dropping to width w keeps the first w planes and writes w in the x field."
-- "Dropping keeps the number octet."
use Rattle.std.specs.Prelude.{List, ◌++◌, ℕ, zero, suc, ◌+◌, ◌-◌, ◌*◌, ◌/◌, ◌%◌, get_or, take, drop}
use Rattle.lists.specs.Tabulate.{tabulate}
use Rattle.frame.specs.declared.header.Header.{Header}
use Rattle.frame.specs.Header.{header_length, group, header_octets, header_of}
use Rattle.frame.specs.Planes.{bit}

-- the bits of sample k in the next x planes of g octets, most significant first, behind what is there
unfoldable pub collect : ℕ → ℕ → ℕ → List ℕ → ℕ → ℕ
collect zero g k body there = there
collect (suc x) g k body there = collect x g k (drop g body) (there * 2 + bit (7 - k % group) (get_or body (k / group) 0))

-- the codeword of sample k
unfoldable pub codeword_at : ℕ → ℕ → List ℕ → ℕ → ℕ
codeword_at x g body k = collect x g k body 0

unfoldable pub codewords : ℕ → ℕ → List ℕ → List ℕ
codewords x g body = tabulate (group * g) (codeword_at x g body)

-- the planes of a frame, and the codewords that they hold
unfoldable pub body : List ℕ → List ℕ
body frame = drop (header_length (header_of frame).edition) frame

unfoldable pub received : List ℕ → List ℕ
received frame = codewords (header_of frame).width (header_of frame).groups (body frame)

-- the header with w in its x field, and the frame with its first w planes
abbrev pub narrowed : ℕ → Header → Header
narrowed w h = record { edition = h.edition; width = w; core = h.core; groups = h.groups; number = h.number }

unfoldable pub thinned : ℕ → List ℕ → List ℕ
thinned w frame = header_octets (narrowed w (header_of frame)) ++ take (w * (header_of frame).groups) (body frame)
