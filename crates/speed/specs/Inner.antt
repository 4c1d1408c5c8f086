-- What FILTA, FILTB and FILTC share; a reader of the definitions does not need it.
use Rattle.std.specs.Prelude.{ℕ, ◌+◌, ◌-◌, ◌*◌, ◌^◌, ◌%◌, eqb}
use Rattle.words.specs.Notation.{◌when◌∣◌, ◌>>◌}

-- an average of so many bits, moved towards a target by 1 / 2 ^ speed of the difference, which has a bit more
unfoldable pub averaged : ℕ → ℕ → ℕ → ℕ → ℕ
averaged bits speed target average =
    let WHOLE = 2 ^ bits in
    let DIF = (target + 2 * WHOLE - average) % (2 * WHOLE) in
    let DIFS = DIF >> bits in
    let DIFSX = DIF >> speed when eqb DIFS 0 ∣ (DIF >> speed) + (WHOLE - ((2 * WHOLE) >> speed)) in
    (DIFSX + average) % WHOLE
