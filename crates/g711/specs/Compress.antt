-- G.727, section 6.2.10: COMPRESS. LAW is 0 for mu-law and 1 for A-law.
use Rattle.std.specs.Prelude.{◌&&◌, not, List, [], ◌∷◌, ℕ, ◌+◌, ◌-◌, ◌%◌, eqb, leb}
use Rattle.words.specs.Notation.{◌when◌∣◌, ◌>>◌, ◌**◌}
use Rattle.g711.specs.G711.{decisions_mu, decisions_A}

-- how many of the decision values m has reached
unfoldable pub reached : List ℕ → ℕ → ℕ
reached [] m = 0
reached (x ∷ xs) m = (1 when leb x m ∣ 0) + reached xs m

-- the level whose interval holds m: the decision value of level 0 is 0, so one is always reached
unfoldable pub level_of : List ℕ → ℕ → ℕ
level_of decisions m = reached decisions m - 1

-- "Convert from uniform PCM to either A-law or mu-law PCM": SP. Table 16/G.727 shows the vicinity of the origin:
-- a magnitude at a decision value belongs to the level above it, but for A-law's negative half to the level below it.
-- The rows that are printed for LAW = 1 are those of every LAW but 0
unfoldable pub COMPRESS : ℕ → ℕ → ℕ
COMPRESS SR LAW =
    let IS = SR >> 15 in
    let IM = SR when eqb IS 0 ∣ (65536 - SR) % 32768 in
    let IMAG = IM when eqb LAW 0 ∣ IM >> 1 when not (eqb LAW 0) && eqb IS 0 ∣ (IM + 1) >> 1 in
    (128 + level_of decisions_A IMAG) ** 85 when eqb IS 0 && not (eqb LAW 0) ∣
    level_of decisions_A (IMAG - 1) ** 85 when eqb IS 1 && not (eqb LAW 0) ∣
    255 - level_of decisions_mu IMAG when eqb IS 0 && eqb LAW 0 ∣
    127 - level_of decisions_mu IMAG
