-- G.727, section 6.2.9: the tone and transition detector, TONE and TRANS.
use Rattle.std.specs.Prelude.{◌&&◌, ℕ, ◌+◌, ◌%◌, eqb, leb, ltb}
use Rattle.words.specs.Notation.{◌when◌∣◌, ◌<<◌, ◌>>◌}

-- "Partial band signal detection": TDP
abbrev pub TONE : ℕ → ℕ
TONE A2P = 1 when leb 32768 A2P && ltb A2P 53760 ∣ 0

-- "Transition detector": TR. G.726's has the wider DQ in DQMAG, and other numbers in THR2
unfoldable pub TRANS : ℕ → ℕ → ℕ → ℕ
TRANS TD YL DQ =
    let DQMAG = DQ % 16384 in
    let YLINT = YL >> 15 in
    let YLFRAC = (YL >> 10) % 32 in
    let THR1 = (32 + YLFRAC) << YLINT in
    let THR2 = 31 << 9 when ltb 8 YLINT ∣ THR1 in
    let DQTHR = (THR2 + (THR2 >> 1)) >> 1 in
    1 when ltb DQTHR DQMAG && eqb TD 1 ∣ 0
