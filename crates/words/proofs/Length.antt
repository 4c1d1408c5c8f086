-- Laws of the number of bits: it is the one n that spans m, whatever body computes it.
use Rattle.std.proofs.Common.{◌≡◌, ℕ, zero, suc, ◌+◌, ◌*◌, ◌^◌, ◌<◌, ◌≤◌, sym, ap, ◌∙◌, pow-suc, arith, pow_mono, le-leb}
use native.Mathlib.Decide.{dec_le}
use lib.Count.{count_leading_zeros, leading_top}
use borrow.Author.Tests.{lt-leb}
use Rattle.words.specs.Length.{rows, bit_length}
use Rattle.words.specs.Inner.{Spans}

module _ (k m : ℕ) where
  above : 2 ^ k ≤ m → rows (suc k) m ≡ suc k
  unfolding rows
  above h = simp (le-leb _ _ h)

  below : m < 2 ^ k → rows (suc k) m ≡ rows k m
  unfolding rows
  below h = simp (lt-leb _ _ h)

  is_row : {n : ℕ} → n ≤ suc k → Spans m n → (n ≤ k → rows k m ≡ n) → Dec (n ≤ k) → rows (suc k) m ≡ n
  is_row {n} h s r (yes d) =
      let fits : 2 ^ n ≤ 2 ^ k = pow_mono d in
      below (omega arith) ∙ r d
  is_row {n} h s r (no d) =
      let e : n ≡ suc k = omega arith in
      let reached : 2 ^ k ≤ m = omega (arith, pow-suc 2 k, ap (λ (i : ℕ). 2 ^ i) e) in
      above reached ∙ sym e

  row_spans : m < 2 ^ suc k → (m < 2 ^ k → Spans m (rows k m)) → Dec (2 ^ k ≤ m) → Spans m (rows (suc k) m)
  row_spans h r (yes d) = rw (above d) (record { low = omega (arith, pow-suc 2 k); high = h })
  row_spans h r (no d) =
      let short : m < 2 ^ k = omega arith in
      rw (below short) (r short)

-- the table's answer is the only n that spans m
rows_is : (k : ℕ) {m n : ℕ} → n ≤ k → Spans m n → rows k m ≡ n
unfolding rows
rows_is zero h s = omega arith
rows_is (suc k) {m} {n} h s = is_row k m h s (λ d. rows_is k d s) (dec_le n k)

rows_span : (k m : ℕ) → m < 2 ^ k → Spans m (rows k m)
unfolding rows
rows_span zero m h = record { low = omega arith; high = h }
rows_span (suc k) m h = row_spans k m h (λ d. rows_span k m d) (dec_le (2 ^ k) m)

short : (k m n : ℕ) → m < 2 ^ k → 2 ^ n ≤ 2 * m + 1 → Dec (n ≤ k) → n ≤ k
short k m n h low (yes d) = d
short k m n h low (no d) =
    let long : 2 ^ suc k ≤ 2 ^ n = pow_mono {i = suc k} {j = n} (omega arith) in
    omega (arith, pow-suc 2 k)

-- whatever spans a word is its number of bits
pub length_is : (m n : ℕ) → m < 65536 → Spans m n → n ≡ bit_length m
unfolding bit_length
length_is m n h s = sym (rows_is 16 (short 16 m n h s.low (dec_le n 16)) s)

pub length_spans : (m : ℕ) → m < 65536 → Spans m (bit_length m)
unfolding bit_length
length_spans m h = rows_span 16 m h

-- a number below 2 ^ k has at most k bits
pub length_le : (k m : ℕ) → m < 65536 → m < 2 ^ k → bit_length m ≤ k
length_le k m h less = short k m (bit_length m) less (length_spans m h).low (dec_le (bit_length m) k)

-- a word has at most 16
pub length_word : (m : ℕ) → m < 65536 → bit_length m ≤ 16
length_word m word = length_le 16 m word word

-- 2 m + 1 has one bit more than m: counted in a word of k bits, its leading zeros, that bit and the bits of m make k
pub length_counted : (k m : ℕ) → m < 65536 → 2 * m + 1 < 2 ^ k → count_leading_zeros k (2 * m + 1) + suc (bit_length m) ≡ k
length_counted k m word fits =
    let top = leading_top k (2 * m + 1) (omega arith) fits in
    let spans : Spans m top.0 = record { low = top.2; high = omega (arith, top.3, pow-suc 2 top.0) } in
    rw (sym (length_is m top.0 word spans)) top.1
