-- The core bits of a codeword: a core codeword, the same whatever enhancement bits were dropped before.
use mathlib.Core.Path.{◌≡◌, ap, ◌∙◌}
use Prim.Native.Nat.{ℕ, ◌+◌, ◌-◌, ◌/◌, ◌^◌, ◌≤◌, ◌<◌}
use native.Mathlib.Omega.{arith}
use lib.Pow.{shr_lt, shr-shr}
use Rattle.words.specs.Notation.{◌>>◌}
use Rattle.quantizer.specs.Codeword.{CoreCodeword}
use Rattle.quantizer.specs.Pair.{Pair}
use Rattle.sample.specs.Core.{Ic}

pub core_codeword : {core width I : ℕ} → Pair width core → I < 2 ^ width → CoreCodeword core (Ic core width I)
unfolding Ic
core_codeword {core} {width} {I} p h =
    let low = p.widths.low in
    let sum : core + (width - core) ≡ width = omega arith in
    let fits : I < 2 ^ (core + (width - core)) = rw sum h in
    record { least = p.cores.low; most = p.cores.high; short = shr_lt core (width - core) fits }

-- thinning a codeword leaves its core bits
pub core_of_thinned : (core v w I : ℕ) → core ≤ v → v ≤ w → Ic core v (I >> (w - v)) ≡ Ic core w I
unfolding Ic
core_of_thinned core v w I low high =
    let sum : w - v + (v - core) ≡ w - core = omega arith in
    shr-shr I (w - v) (v - core) ∙ ap (λ (n : ℕ). I / 2 ^ n) sum
