-- The header of a radio frame (docs/RULES.md, "The frame"): the frame's limits, each named once and by edition, the header's octets, the
-- header that a frame's octets have, and the frame's length and samples by it.
use Rattle.std.specs.Prelude.{Bool, not, ◌&&◌, ◌||◌, List, [], ◌∷◌, ℕ, ◌+◌, ◌*◌, ◌%◌, eqb, get_or}
use Rattle.words.specs.Notation.{pick, ◌<<◌, ◌>>◌}
use Rattle.words.specs.Within.{within}
use Rattle.frame.specs.declared.header.Header.{Header}

-- the two editions, the octets that hold edition, x, y and g, and the samples of a group
abbrev pub plain : ℕ
plain = 1

abbrev pub numbered : ℕ
numbered = 2

abbrev pub fewest : ℕ
fewest = 2

abbrev pub group : ℕ
group = 8

-- by edition: whether its frames bear a number, the octets before the planes, and the most groups of a frame
abbrev pub is_numbered : ℕ → Bool
is_numbered e = eqb e numbered

unfoldable pub header_length : ℕ → ℕ
header_length e = pick (is_numbered e) 3 2

unfoldable pub most_groups : ℕ → ℕ
most_groups e = 40

-- "2 bits edition; 3 bits x; 3 bits y", most significant first
abbrev pub head : ℕ → ℕ → ℕ → ℕ
head e x y = (e << 6) + (x << 3) + y

-- and "8 bits g"; then "8 bits of frame number" in edition 2
unfoldable pub header_octets : Header → List ℕ
header_octets h = head h.edition h.width h.core ∷ h.groups ∷ pick (is_numbered h.edition) (h.number ∷ []) []

-- the number in the header of a frame of edition e: n where frames bear one, and else 0
abbrev pub borne : ℕ → ℕ → ℕ
borne e n = pick (is_numbered e) n 0

-- the header of a frame; an octet that is not there is read as 0
unfoldable pub header_of : List ℕ → Header
header_of frame =
    let first = get_or frame 0 0 in
    record { edition = first >> 6; width = (first >> 3) % 8; core = first % 8; groups = get_or frame 1 0; number = borne (first >> 6) (get_or frame 2 0) }

-- "exactly 2 + x times g octets", and "3 + x times g" in edition 2
abbrev pub frame_length : ℕ → ℕ → ℕ → ℕ
frame_length e x g = header_length e + x * g

abbrev pub due_length : Header → ℕ
due_length h = frame_length h.edition h.width h.groups

-- "8g samples"
abbrev pub sample_count : Header → ℕ
sample_count h = group * h.groups

-- edition 01 or 10; g from 1 to 40; a sample count that is a multiple of 8 from 8 to 320
abbrev pub is_edition : ℕ → Bool
is_edition e = within plain numbered e

abbrev pub is_groups : ℕ → ℕ → Bool
is_groups e g = within 1 (most_groups e) g

abbrev pub is_count : ℕ → ℕ → Bool
is_count e n = eqb (n % group) 0 && within group (most_groups e * group) n

-- "a decoder refuses a frame with another number", where n is due: "only edition 2 tests the number"
abbrev pub is_due : Header → ℕ → Bool
is_due h n = not (is_numbered h.edition) || eqb h.number n

-- "only a success in it moves it on": the number that is due behind a frame of edition e, where n was; it "wraps from 255 to 0"
unfoldable pub number_after : ℕ → ℕ → ℕ
number_after e n = pick (is_numbered e) ((n + 1) % 256) n
