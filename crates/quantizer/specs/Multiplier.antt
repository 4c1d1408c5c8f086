-- G.727, sections 6.2.5 and 6.2.6: FUNCTW and FUNCTF, which go by the core alone. C is 2, 3 or 4.
use Rattle.std.specs.Prelude.{◌&&◌, ℕ, ◌-◌, ◌^◌, ◌%◌, eqb, leb}
use Rattle.words.specs.Notation.{◌when◌∣◌, ◌>>◌}

-- IM, part of FUNCTW and FUNCTF: the magnitude of a core codeword of C bits, I & 1, I & 3 or I & 7 where its sign IS is 0, else
-- (3 - I) & 1, (7 - I) & 3 or (15 - I) & 7
unfoldable pub IM_core : ℕ → ℕ → ℕ
IM_core C I =
    let IS = I >> (C - 1) in
    I % 2 ^ (C - 1) when eqb IS 0 ∣
    (2 ^ C - 1 - I) % 2 ^ (C - 1)

-- WI for C = 2, part of FUNCTW. Its last row is IM = 0, as in the other two
unfoldable pub WI_2 : ℕ → ℕ
WI_2 IM =
    439 when eqb IM 1 ∣
    4074

-- for C = 3
unfoldable pub WI_3 : ℕ → ℕ
WI_3 IM =
    582 when eqb IM 3 ∣
    137 when eqb IM 2 ∣
    30 when eqb IM 1 ∣
    4092

-- for C = 4
unfoldable pub WI_4 : ℕ → ℕ
WI_4 IM =
    1108 when eqb IM 7 ∣
    340 when eqb IM 6 ∣
    184 when eqb IM 5 ∣
    98 when eqb IM 4 ∣
    50 when eqb IM 3 ∣
    27 when eqb IM 2 ∣
    4 when eqb IM 1 ∣
    4084

-- "Map quantizer output into logarithmic version of scale factor multiplier": WI
unfoldable pub FUNCTW : ℕ → ℕ → ℕ
FUNCTW C I =
    let IM = IM_core C I in
    WI_2 IM when eqb C 2 ∣
    WI_3 IM when eqb C 3 ∣
    WI_4 IM

-- FI for C = 2, part of FUNCTF. Its last row is IM = 0
unfoldable pub FI_2 : ℕ → ℕ
FI_2 IM =
    7 when eqb IM 1 ∣
    0

-- for C = 3. Its last row is IM = 0
unfoldable pub FI_3 : ℕ → ℕ
FI_3 IM =
    7 when eqb IM 3 ∣
    2 when eqb IM 2 ∣
    1 when eqb IM 1 ∣
    0

-- for C = 4. Its last row is IM = 7
unfoldable pub FI_4 : ℕ → ℕ
FI_4 IM =
    0 when leb 0 IM && leb IM 2 ∣
    1 when leb 3 IM && leb IM 5 ∣
    3 when eqb IM 6 ∣
    7

-- "Map quantizer output into the F(I) function": FI
unfoldable pub FUNCTF : ℕ → ℕ → ℕ
FUNCTF C I =
    let IM = IM_core C I in
    FI_2 IM when eqb C 2 ∣
    FI_3 IM when eqb C 3 ∣
    FI_4 IM
