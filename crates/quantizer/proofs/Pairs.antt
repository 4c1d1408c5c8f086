-- The test of a pair and the fact: each follows from the other. Both numbers of a pair are widths.
use mathlib.Core.Bool.{true}
use mathlib.Core.Path.{◌≡◌}
use Prim.Native.Nat.{ℕ}
use native.Mathlib.Omega.{arith}
use Rattle.words.specs.Within.{within}
use Rattle.words.proofs.Rows.{both}
use Rattle.words.proofs.Within.{within_says, within_of}
use Rattle.quantizer.specs.Codeword.{Width}
use Rattle.quantizer.specs.Pair.{Pair, is_pair}

pub pair_says : (width core : ℕ) → is_pair width core ≡ true → Pair width core
pair_says width core t =
    let r = both (within 2 4 core) (within core 5 width) t in
    record { cores = within_says 2 4 core r.0; widths = within_says core 5 width r.1 }

pub pair_of : {width core : ℕ} → Pair width core → is_pair width core ≡ true
pair_of p = rw (within_of p.cores, within_of p.widths)

pub pair_width : {width core : ℕ} → Pair width core → Width width
pair_width p = record { least = omega (arith, p.cores.low, p.widths.low); most = p.widths.high }
