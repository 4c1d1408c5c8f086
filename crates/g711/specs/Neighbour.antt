-- G.727, section 6.2.10, SYNC: SP+, "the PCM code word that represents the next more positive PCM output level", and SP-, the next more
-- negative one, each held at the end of the scale. mu-law's two zeros, FF and 7F, are one level, so neither steps to the other.
-- LAW is 0 for mu-law and 1 for A-law.
use Rattle.std.specs.Prelude.{ℕ, ◌+◌, ◌-◌, eqb, leb, ltb}
use Rattle.words.specs.Notation.{◌when◌∣◌, ◌**◌}

-- mu-law: from the most negative level upwards code words rise from 00 to 7F, which is zero, and fall from FF, zero too, to 80
unfoldable pub above_mu : ℕ → ℕ
above_mu SP =
    128 when eqb SP 128 ∣
    SP - 1 when ltb 128 SP ∣
    254 when eqb SP 127 ∣
    SP + 1

unfoldable pub below_mu : ℕ → ℕ
below_mu SP =
    0 when eqb SP 0 ∣
    SP - 1 when ltb SP 128 ∣
    126 when eqb SP 255 ∣
    SP + 1

-- A-law, by the code word T with its even bits inverted back: from the most negative level upwards T falls from 127 to 0, the negative level
-- next to zero, and rises from 128, the positive one, to 255
unfoldable pub above_T : ℕ → ℕ
above_T T =
    255 when eqb T 255 ∣
    T + 1 when leb 128 T ∣
    128 when eqb T 0 ∣
    T - 1

unfoldable pub below_T : ℕ → ℕ
below_T T =
    127 when eqb T 127 ∣
    T + 1 when ltb T 127 ∣
    0 when eqb T 128 ∣
    T - 1

unfoldable pub above : ℕ → ℕ → ℕ
above SP LAW = above_mu SP when eqb LAW 0 ∣ above_T (SP ** 85) ** 85

unfoldable pub below : ℕ → ℕ → ℕ
below SP LAW = below_mu SP when eqb LAW 0 ∣ below_T (SP ** 85) ** 85
