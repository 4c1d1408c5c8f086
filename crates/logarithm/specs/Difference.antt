-- G.727, section 6.2.1: SUBTA. SL has 14 bits, SE 15 and D 16, all two's complement.
use Rattle.std.specs.Prelude.{ℕ, ◌+◌, ◌-◌, ◌%◌, eqb}
use Rattle.words.specs.Notation.{◌when◌∣◌, ◌>>◌}

-- "Compute difference signal by subtracting signal estimate from input signal (or quantized reconstructed signal in decoder)": D
unfoldable pub SUBTA : ℕ → ℕ → ℕ
SUBTA SL SE =
    let SLS = SL >> 13 in
    let SLI = SL when eqb SLS 0 ∣ 49152 + SL in
    let SES = SE >> 14 in
    let SEI = SE when eqb SES 0 ∣ 32768 + SE in
    (SLI + 65536 - SEI) % 65536
