-- The segments that both laws of companding count by: the number of bits of a magnitude names its segment, and the four bits behind the
-- leading one its place there. So counted, a greater magnitude has no lower level.
use mathlib.Core.Path.{◌≡◌, refl, ap, ◌∙◌}
use mathlib.Core.Bool.{Bool, true, false}
use Prim.Native.Nat.{ℕ, suc, ◌+◌, ◌-◌, ◌*◌, ◌/◌, ◌%◌, ◌^◌, ◌≤◌, ◌<◌, min}
use native.Mathlib.Omega.{arith}
use native.Mathlib.Decide.{dec_le, dec_lt}
use native.Mathlib.Nat.{pow-suc, le-div_iff_mul-le, div-lt_iff_lt-mul}
use lib.Dec.{ltb}
use lib.Pow.{pow_pos, pow_mono, pow-add, shr_mono}
use borrow.Author.Tests.{lt-ltb, le-ltb}
use Rattle.words.specs.Notation.{pick}
use Rattle.words.specs.Length.{bit_length, rows}
use Rattle.words.specs.Inner.{Spans}
use Rattle.words.proofs.Length.{length_spans}

less_by : (i j : ℕ) → 2 ^ i < 2 ^ j → Dec (i < j) → i < j
less_by i j h (yes d) = d
less_by i j h (no d) =
    let back : 2 ^ j ≤ 2 ^ i = pow_mono {i = j} {j = i} (omega arith) in
    omega arith

exponent_lt : (i j : ℕ) → 2 ^ i < 2 ^ j → i < j
exponent_lt i j h = less_by i j h (dec_lt i j)

-- the number of the interval that m is in, sixteen to a segment
abbrev pub chord_of : ℕ → ℕ
chord_of m = (bit_length m - 5) * 16 + m / 2 ^ (bit_length m - 5) % 16

module _ (m : ℕ) (low : 16 ≤ m) (high : m < 65536) where
  pub range : (5 ≤ bit_length m) × (bit_length m ≤ 16)
  range =
      let s : Spans m (bit_length m) = length_spans m high in
      let a : 4 < bit_length m = exponent_lt 4 (bit_length m) (omega (arith, s.high)) in
      let b : bit_length m < 17 = exponent_lt (bit_length m) 17 (omega (arith, s.low)) in
      omega arith

  scaled : 2 ^ bit_length m ≡ 2 ^ (bit_length m - 5) * 32
  scaled =
      let e : bit_length m ≡ bit_length m - 5 + 5 = omega (arith, range) in
      ap (λ (i : ℕ). 2 ^ i) e ∙ pow-add 2 (bit_length m - 5) 5

  -- the leading one and the four bits behind it
  leads : 16 ≤ m / 2 ^ (bit_length m - 5)
  leads =
      let s : Spans m (bit_length m) = length_spans m high in
      (le-div_iff_mul-le (pow_pos (bit_length m - 5))).1 (omega (arith, s.low, scaled))

  ends : m / 2 ^ (bit_length m - 5) < 32
  ends =
      let s : Spans m (bit_length m) = length_spans m high in
      (div-lt_iff_lt-mul (pow_pos (bit_length m - 5))).1 (omega (arith, s.high, scaled))

module _ (m k : ℕ) (low : 16 ≤ m) (h : m ≤ k) (high : k < 65536) where
  longer : bit_length m ≤ bit_length k
  longer =
      let s : Spans m (bit_length m) = length_spans m (omega arith) in
      let t : Spans k (bit_length k) = length_spans k high in
      let d : bit_length m < suc (bit_length k) =
      exponent_lt (bit_length m) (suc (bit_length k)) (omega (arith, s.low, t.high, pow-suc 2 (bit_length k))) in
      omega arith

  by_segment : Dec (bit_length k ≤ bit_length m) → chord_of m ≤ chord_of k
  by_segment (yes d) =
      let e : bit_length k ≡ bit_length m = omega (arith, longer) in
      let a : 16 ≤ m / 2 ^ (bit_length m - 5) = leads m low (omega arith) in
      let b : k / 2 ^ (bit_length m - 5) < 32 = rw e at (ends k (omega arith) high) in
      let n : m / 2 ^ (bit_length m - 5) ≤ k / 2 ^ (bit_length m - 5) = shr_mono (bit_length m - 5) h in
      rw e (omega arith)
  by_segment (no d) = omega (arith, range m low (omega arith))

  pub chord_mono : chord_of m ≤ chord_of k
  chord_mono = by_segment (dec_le (bit_length k) (bit_length m))

-- a magnitude's level as the code finds it. mu-law's intervals are twice as wide as those of `chord_of` and moved by 33; A-law's are the
-- same as those of `chord_of`, but its first segment has steps as wide as its second's. Behind the last decision value all is level 127
abbrev pub formula : Bool → ℕ → ℕ
formula true m = chord_of ((min m 8158 + 33) / 2)
formula false m = pick (ltb m 32) (m / 2) (chord_of (min m 4095))

second : chord_of 32 ≡ 16
unfolding bit_length rows
second = refl

last : chord_of 4095 ≡ 127
unfolding bit_length rows
last = refl

module _ (m : ℕ) where
  near : m < 32 → formula false m ≡ m / 2
  near h = simp (lt-ltb _ _ h)

  far : 32 ≤ m → formula false m ≡ chord_of (min m 4095)
  far h = simp (le-ltb _ _ h)

by_side : (m k : ℕ) → m ≤ k → Dec (k < 32) → Dec (m < 32) → formula false m ≤ formula false k
by_side m k h (yes d) e =
    let a : formula false m ≡ m / 2 = near m (omega arith) in
    omega (arith, near k d)
by_side m k h (no d) (yes e) =
    let b : formula false k ≡ chord_of (min k 4095) = far k (omega arith) in
    let l : chord_of 32 ≤ chord_of (min k 4095) = chord_mono 32 (min k 4095) (omega arith) (omega arith) (omega arith) in
    omega (arith, near m e, second)
by_side m k h (no d) (no e) =
    let a : formula false m ≡ chord_of (min m 4095) = far m (omega arith) in
    let b : formula false k ≡ chord_of (min k 4095) = far k (omega arith) in
    rw (a, b) (chord_mono _ _ (omega arith) (omega arith) (omega arith))

pub formula_mono : (mu : Bool) (m k : ℕ) → m ≤ k → formula mu m ≤ formula mu k
formula_mono true m k h = chord_mono _ _ (omega arith) (omega arith) (omega arith)
formula_mono false m k h = by_side m k h (dec_lt k 32) (dec_lt m 32)

filled : (mu : Bool) (m : ℕ) → formula mu (m + 8158) ≡ 127
filled true m =
    let e : (min (m + 8158) 8158 + 33) / 2 ≡ 4095 = omega arith in
    ap chord_of e ∙ last
filled false m =
    let e : min (m + 8158) 4095 ≡ 4095 = omega arith in
    far (m + 8158) (omega arith) ∙ ap chord_of e ∙ last

pub formula_top : (mu : Bool) (m : ℕ) → formula mu m ≤ 127
formula_top mu m = omega (arith, formula_mono mu m (m + 8158) (omega arith), filled mu m)
