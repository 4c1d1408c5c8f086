-- Laws of QUAN and ID, over the width (G.727, sections 3, 6.2.2 and 6.2.10): the tables nest, and Tables 17 to 20 are Tables 8 to 11 in the
-- order of the codewords. Each is a test at the bounds of the rows.
use mathlib.Core.Path.{◌≡◌, sym, ◌∙◌, ap}
use mathlib.Core.Bool.{Bool, ◌&&◌}
use Prim.Native.Nat.{ℕ, ◌+◌, ◌-◌, ◌^◌, ◌≤◌, ◌<◌}
use native.Mathlib.Omega.{arith}
use lib.Pow.{shr-shr}
use borrow.Author.Tests.{ne_eqb}
use lib.Dec.{T, eqb, leb, ltb, eqb→eq, ltb→lt}
use Rattle.words.specs.Notation.{◌>>◌}
use Rattle.words.proofs.Tests.{span, below_at}
use Rattle.lists.specs.Tabulate.{entries}
use Rattle.quantizer.specs.Codeword.{Width, Codeword}
use Rattle.quantizer.specs.Table.{find}
use Rattle.quantizer.specs.Decision.{QUAN, decisions, table8, table9, table10, table11}
use Rattle.quantizer.specs.Sync.{IM, ID, places, table17, table18, table19, table20}
use Rattle.quantizer.specs.Threshold.{reached, coded}
use Rattle.quantizer.proofs.Columns.{begins, levels}
use Rattle.quantizer.proofs.Thresholds.{is_threshold, coded_steady}
use Rattle.quantizer.proofs.Tests.{all, widths, at_width, width}
use Rattle.quantizer.proofs.Bounds.{bounds, leasts, at_bounds, quan_steady, id_steady}

-- what is looked at of a value of DLN: the codeword, the 5-bit codeword, ID, and what the thresholds give
record Seen : Type 0 where
  codeword : ℕ
  longest : ℕ
  place : ℕ
  counted : ℕ

abbrev seen : ℕ → ℕ → ℕ → Seen
seen w s n = record { codeword = QUAN w n s; longest = QUAN 5 n s; place = ID w n s; counted = coded (levels w) n s }

abbrev holds : (ℕ → ℕ → Seen → Bool) → ℕ → ℕ → Bool
holds q w s = all (λ n. q w s (seen w s n)) bounds

levels_begin : {w : ℕ} → Width w → T (all is_threshold (levels w))
unfolding levels begins entries decisions table8 table9 table10 table11 bounds leasts
levels_begin h = at_width (λ w. all is_threshold (levels w)) tt h

everywhere : (q : ℕ → ℕ → Seen → Bool) → T (widths (λ w. span 0 2 (holds q w))) →
    {w s n : ℕ} → Width w → n < 4096 → s < 2 → T (q w s (seen w s n))
everywhere q t {w} {s} {n} hw hn hs =
    at_bounds (λ n. q w s (seen w s n)) (below_at (holds q w) 2 s (at_width (λ w. span 0 2 (holds q w)) t hw) hs)
    (λ n f u.
    rw (quan_steady f hw s, quan_steady f (width 5 tt) s, id_steady f hw s, coded_steady f (levels w) s (levels_begin hw)) at u)
    n
    hn

-- The codeword of a value is the 5-bit codeword shifted right, has no more bits than its width, and has the sign at the top.
-- ID is its place, and the thresholds that the value has reached give it
pub record Coding (w s n : ℕ) : Type 0 where
  pub nests : QUAN w n s ≡ QUAN 5 n s >> (5 - w)
  pub short : QUAN w n s < 2 ^ w
  pub signed : QUAN w n s >> (w - 1) ≡ s
  pub ordered : ID w n s ≡ IM w (QUAN w n s)
  pub counted : coded (levels w) n s ≡ QUAN w n s

pub coding : {w s n : ℕ} → Width w → n < 4096 → s < 2 → Coding w s n
unfolding QUAN decisions table8 table9 table10 table11 find ID IM places table17 table18 table19 table20 coded reached levels begins entries bounds leasts
coding hw hn hs =
    record {
      nests = eqb→eq _ _ (everywhere (λ w s v. eqb v.codeword (v.longest >> (5 - w))) tt hw hn hs);
      short = ltb→lt _ _ (everywhere (λ w s v. ltb v.codeword (2 ^ w)) tt hw hn hs);
      signed = eqb→eq _ _ (everywhere (λ w s v. eqb (v.codeword >> (w - 1)) s) tt hw hn hs);
      ordered = eqb→eq _ _ (everywhere (λ w s v. eqb v.place (IM w v.codeword)) tt hw hn hs);
      counted = eqb→eq _ _ (everywhere (λ w s v. eqb v.counted v.codeword) tt hw hn hs);
    }

pub quan_codeword : {w s n : ℕ} → Width w → n < 4096 → s < 2 → Codeword w (QUAN w n s)
quan_codeword hw hn hs = record { least = hw.least; most = hw.most; short = (coding hw hn hs).short }

-- the codeword at a width is the codeword at any greater width, shifted right
pub nesting : {v w s n : ℕ} → Width v → Width w → v ≤ w → n < 4096 → s < 2 → QUAN v n s ≡ QUAN w n s >> (w - v)
nesting {v} {w} {s} {n} hv hw h hn hs =
    let sum : 5 - w + (w - v) ≡ 5 - v = omega arith in
    let longest = QUAN 5 n s in
    (coding hv hn hs).nests ∙ rw (← sum) (sym (shr-shr longest (5 - w) (w - v)))
    ∙ ap (λ (I : ℕ). I >> (w - v)) (sym (coding hw hn hs).nests)

-- the levels of a width give its codewords; and a width that is none of the three others is read as 5
pub by_levels : (v : ℕ) → T (leb 2 v && leb v 5) →
    {w s n r : ℕ} → w ≡ v → r ≡ coded (levels v) n s → (n < 4096) × (s < 2) → r ≡ QUAN w n s
by_levels v t {w} {s} {n} e is h = rw e (is ∙ (coding (width v t) h.0 h.1).counted)

pub read_as_5 : {w : ℕ} (s n : ℕ) → (w ≡ 2 → ⊥) → (w ≡ 3 → ⊥) → (w ≡ 4 → ⊥) → QUAN 5 n s ≡ QUAN w n s
unfolding QUAN decisions
read_as_5 {w} s n two three four = simp (ne_eqb w 2 two, ne_eqb w 3 three, ne_eqb w 4 four)
