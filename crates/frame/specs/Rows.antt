-- What is wrong with a frame by itself, as rows of the table of replies: 5, 1 and 2 of a header alone, and 6 of the frame's length. Decode and
-- drop test all of them, in this order.
use Rattle.std.specs.Prelude.{not, List, [], ◌∷◌, ◌++◌, ℕ, eqb, ltb}
use Rattle.words.specs.First.{Row}
use Rattle.quantizer.specs.Pair.{is_pair}
use Rattle.frame.specs.declared.header.Header.{Header}
use Rattle.frame.specs.Header.{fewest, due_length, is_edition, is_groups}

abbrev pub header_rows : Header → List Row
header_rows h =
    (5, not (is_edition h.edition)) ∷
    (1, not (is_pair h.width h.core)) ∷
    (2, not (is_groups h.edition h.groups)) ∷ []

-- of a frame of n octets with the header h
abbrev pub frame_rows : Header → ℕ → List Row
frame_rows h n = (5, ltb n fewest) ∷ (header_rows h ++ ((6, not (eqb n (due_length h))) ∷ []))
