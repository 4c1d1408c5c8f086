-- How far the levels of G.711 reach, where the scale ends, and that code words stay octets.
use mathlib.Core.Path.{◌≡◌, refl}
use mathlib.Core.Bool.{Bool, true, false, ◌&&◌, not}
use Prim.Native.Nat.{ℕ, zero, suc, ◌+◌, ◌-◌, ◌*◌, ◌%◌, ◌≤◌, ◌<◌}
use native.Mathlib.Omega.{arith}
use lib.Bits.{xor_lt}
use lib.Dec.{eqb, ltb, eqb-suc-zero}
use Rattle.words.specs.Notation.{pick, ◌when◌∣◌, ◌>>◌, ◌**◌}
use Rattle.g711.specs.G711.{outputs_mu, outputs_A}
use Rattle.g711.specs.Expand.{SS_mu, SS_A, EXPAND}
use Rattle.g711.specs.Compress.{COMPRESS}
use Rattle.g711.specs.Neighbour.{above, above_mu, above_T, below, below_mu, below_T}
use Rattle.g711.proofs.Computed.{bounded}
use Rattle.g711.proofs.Decisions.{level_top}

-- the magnitude of a level of 14 bits, two's complement
abbrev pub size_of : ℕ → ℕ
size_of v = pick (ltb v 8192) v (16384 - v)

-- the greatest magnitude, and the most positive and the most negative code word, which have it
abbrev pub greatest : ℕ → ℕ
greatest LAW = pick (eqb LAW 0) 8031 8064

abbrev pub highest : ℕ → ℕ
highest LAW = pick (eqb LAW 0) 0x80 0xAA

abbrev pub lowest : ℕ → ℕ
lowest LAW = pick (eqb LAW 0) 0x00 0x2A

halves : (mu positive : Bool) (x y : ℕ)
    → let SSQ = pick mu (x % 8192) (y % 4096 * 2) in pick positive SSQ ((16384 - SSQ) % 16384) < 16384
halves mu false x y = omega arith
halves true true x y = omega arith
halves false true x y = omega arith

pub expand_lt : (S LAW : ℕ) → EXPAND S LAW < 16384
unfolding EXPAND
expand_lt S LAW = halves (eqb LAW 0) (eqb (pick (eqb LAW 0) (SS_mu S >> 13) (SS_A S >> 12)) 0) (SS_mu S) (SS_A S)

pub expand_size : (S LAW : ℕ) → S < 256 → size_of (EXPAND S LAW) ≤ greatest LAW
unfolding EXPAND SS_mu SS_A outputs_mu outputs_A
expand_size = bounded (λ i l. size_of (EXPAND i l)) (λ i l. greatest l) (λ i l. simp eqb-suc-zero) 256 tt tt

pub expand_highest : (LAW : ℕ) → EXPAND (highest LAW) LAW ≡ greatest LAW
unfolding EXPAND SS_mu SS_A outputs_mu outputs_A
expand_highest zero = refl
expand_highest (suc l) = simp eqb-suc-zero

pub expand_lowest : (LAW : ℕ) → EXPAND (lowest LAW) LAW ≡ 16384 - greatest LAW
unfolding EXPAND SS_mu SS_A outputs_mu outputs_A
expand_lowest zero = refl
expand_lowest (suc l) = simp eqb-suc-zero

rows : (p q r : Bool) (a b c d : ℕ) → a ≤ 127 → b ≤ 127
    → ((128 + a) ** 85 when p ∣ b ** 85 when q ∣ 255 - c when r ∣ 127 - d) < 256
rows true q r a b c d g h = xor_lt 8 (128 + a) 85 (omega arith) (omega arith)
rows false true r a b c d g h = xor_lt 8 b 85 (omega arith) (omega arith)
rows false false true a b c d g h = omega arith
rows false false false a b c d g h = omega arith

pub compress_lt : (SR LAW : ℕ) → COMPRESS SR LAW < 256
unfolding COMPRESS
compress_lt SR LAW =
    let IS = SR >> 15 in
    let A = not (eqb LAW 0) in
    rows (eqb IS 0 && A) (eqb IS 1 && A) (eqb IS 0 && eqb LAW 0) _ _ _ _ (level_top false _) (level_top false _)

pub above_lt : (S LAW : ℕ) → S < 256 → above S LAW < 256
unfolding above above_mu above_T
above_lt = bounded (λ i l. suc (above i l)) (λ i l. 256) (λ i l. simp eqb-suc-zero) 256 tt tt

pub below_lt : (S LAW : ℕ) → S < 256 → below S LAW < 256
unfolding below below_mu below_T
below_lt = bounded (λ i l. suc (below i l)) (λ i l. 256) (λ i l. simp eqb-suc-zero) 256 tt tt

-- the ends of the scale stay where they are
pub above_held : (LAW : ℕ) → above (highest LAW) LAW ≡ highest LAW
unfolding above above_mu above_T
above_held zero = refl
above_held (suc l) = simp eqb-suc-zero

pub below_held : (LAW : ℕ) → below (lowest LAW) LAW ≡ lowest LAW
unfolding below below_mu below_T
below_held zero = refl
below_held (suc l) = simp eqb-suc-zero
