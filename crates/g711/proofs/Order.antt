-- SP+ and SP- are next to SP: no level of its law lies between, and but for the ends of the scale SP+ is higher than SP and SP- lower. So SP+ is SP at
-- the upper end alone, and SP- at the lower one.
use mathlib.Core.Path.{◌≡◌}
use Prim.Native.Nat.{ℕ, zero, suc, ◌+◌, ◌-◌, ◌%◌, ◌≤◌, ◌<◌}
use native.Mathlib.Nat.{le_refl}
use native.Mathlib.Omega.{arith}
use native.Mathlib.Decide.{dec_le}
use lib.Dec.{eqb, leb, ltb, eqb-suc-zero}
use borrow.Author.Tests.{ne_eqb, eqb-true, eqb-false}
use Rattle.words.specs.Notation.{pick, ◌**◌}
use Rattle.words.proofs.Pick.{cases}
use Rattle.g711.specs.G711.{outputs_mu, outputs_A}
use Rattle.g711.specs.Expand.{SS_mu, SS_A, EXPAND}
use Rattle.g711.specs.Neighbour.{above, above_mu, above_T, below, below_mu, below_T}
use Rattle.g711.proofs.Computed.{agree, bounded}
use Rattle.g711.proofs.Extent.{highest, lowest, above_lt, below_lt}

-- the levels of 14 bits, two's complement, in their order
abbrev pub rank : ℕ → ℕ
rank v = (v + 8192) % 16384

abbrev pub rank_of : ℕ → ℕ → ℕ
rank_of S LAW = rank (EXPAND S LAW)

-- the place of a code word's level among those of its law, from the most negative on, and a code word that is at a place:
-- A-law has 256 places, and mu-law, whose zeros share one, 255, from 1 on
abbrev place_of : ℕ → ℕ → ℕ
place_of S LAW =
    let T = S ** 85 in
    pick (eqb LAW 0) (pick (ltb S 128) (S + 1) (383 - S)) (pick (ltb T 128) (127 - T) T)

abbrev word_at : ℕ → ℕ → ℕ
word_at k LAW = pick (eqb LAW 0) (pick (leb k 128) (k - 1) (383 - k)) (pick (ltb k 128) (127 - k) k ** 85)

abbrev rank_at : ℕ → ℕ → ℕ
rank_at k LAW = rank_of (word_at k LAW) LAW

placed : (S LAW : ℕ) → S < 256 → rank_of S LAW ≡ rank_at (place_of S LAW) LAW
unfolding EXPAND SS_mu SS_A outputs_mu outputs_A
placed = agree rank_of (λ i l. rank_at (place_of i l) l) (λ i l. simp eqb-suc-zero) 256 tt tt

place_top : (S LAW : ℕ) → S < 256 → place_of S LAW ≤ 255
place_top = bounded place_of (λ i l. 255) (λ i l. simp eqb-suc-zero) 256 tt tt

climbs : (k LAW : ℕ) → k < 255 → rank_at k LAW ≤ rank_at (suc k) LAW
unfolding EXPAND SS_mu SS_A outputs_mu outputs_A
climbs = bounded rank_at (λ i l. rank_at (suc i) l) (λ i l. simp eqb-suc-zero) 255 tt tt

module _ (f : ℕ → ℕ) (n : ℕ) (step : (k : ℕ) → k < n → f k ≤ f (suc k)) where
  one_more : (i j : ℕ) → i ≤ suc j → suc j ≤ n → (i ≤ j → f i ≤ f j) → Dec (i ≤ j) → f i ≤ f (suc j)
  one_more i j h t r (yes d) = omega (arith, r d, step j t)
  one_more i j h t r (no d) =
      let e : i ≡ suc j = omega arith in
      rw e (le_refl _)

  mono : (i j : ℕ) → i ≤ j → j ≤ n → f i ≤ f j
  mono i zero h t =
      let e : i ≡ 0 = omega arith in
      rw e (le_refl _)
  mono i (suc j) h t = one_more i j h t (λ d. mono i j d (omega arith)) (dec_le i j)

module _ (S T LAW : ℕ) (s : S < 256) (t : T < 256) where
  by_place : rank_of S LAW < rank_of T LAW → Dec (place_of T LAW ≤ place_of S LAW) → place_of S LAW < place_of T LAW
  by_place h (yes d) =
      let a : rank_at (place_of T LAW) LAW ≤ rank_at (place_of S LAW) LAW =
      mono (λ k. rank_at k LAW) 255 (λ k. climbs k LAW) (place_of T LAW) (place_of S LAW) d (place_top S LAW s) in
      absurd (omega (arith, placed S LAW s, placed T LAW t))
  by_place h (no d) = omega arith

  higher : rank_of S LAW < rank_of T LAW → place_of S LAW < place_of T LAW
  higher h = by_place h (dec_le (place_of T LAW) (place_of S LAW))

gap : (S T U LAW : ℕ) → S < 256 → T < 256 → U < 256 → place_of U LAW ≤ place_of S LAW + 1
    → rank_of S LAW < rank_of T LAW → rank_of T LAW < rank_of U LAW → ⊥
gap S T U LAW s t u p h k = omega (arith, higher S T LAW s t h, higher T U LAW t u k)

place_above : (S LAW : ℕ) → S < 256 → place_of (above S LAW) LAW ≤ place_of S LAW + 1
unfolding above above_mu above_T
place_above = bounded (λ i l. place_of (above i l) l) (λ i l. place_of i l + 1) (λ i l. simp eqb-suc-zero) 256 tt tt

place_below : (S LAW : ℕ) → S < 256 → place_of S LAW ≤ place_of (below S LAW) LAW + 1
unfolding below below_mu below_T
place_below = bounded place_of (λ i l. place_of (below i l) l + 1) (λ i l. simp eqb-suc-zero) 256 tt tt

module _ (S T LAW : ℕ) (s : S < 256) (t : T < 256) where
  pub above_next : rank_of S LAW < rank_of T LAW → rank_of T LAW < rank_of (above S LAW) LAW → ⊥
  above_next = gap S T (above S LAW) LAW s t (above_lt S LAW s) (place_above S LAW s)

  pub below_next : rank_of (below S LAW) LAW < rank_of T LAW → rank_of T LAW < rank_of S LAW → ⊥
  below_next = gap (below S LAW) T S LAW (below_lt S LAW s) t s (place_below S LAW s)

-- but for the ends
abbrev raised : ℕ → ℕ → ℕ
raised S LAW = pick (eqb S (highest LAW)) 16384 (rank_of (above S LAW) LAW)

abbrev lowered : ℕ → ℕ → ℕ
lowered S LAW = pick (eqb S (lowest LAW)) 0 (suc (rank_of (below S LAW) LAW))

pub above_higher : (S LAW : ℕ) → S < 256 → (S ≡ highest LAW → ⊥) → rank_of S LAW < rank_of (above S LAW) LAW
unfolding EXPAND SS_mu SS_A outputs_mu outputs_A above above_mu above_T
above_higher S LAW h n =
    rw (ne_eqb S (highest LAW) n) at
    (bounded (λ i l. suc (rank_of i l)) raised (λ i l. simp eqb-suc-zero) 256 tt tt S LAW h)

pub below_lower : (S LAW : ℕ) → S < 256 → (S ≡ lowest LAW → ⊥) → rank_of (below S LAW) LAW < rank_of S LAW
unfolding EXPAND SS_mu SS_A outputs_mu outputs_A below below_mu below_T
below_lower S LAW h n =
    rw (ne_eqb S (lowest LAW) n) at (bounded lowered rank_of (λ i l. simp eqb-suc-zero) 256 tt tt S LAW h)

-- what is not moved stands at an end
stands : {S end : ℕ} → ((S ≡ end → ⊥) → ⊥) → S ≡ end
stands {S} {end} not = cases (eqb S end) (eqb-true S end) (λ other. absurd (not (eqb-false S end other)))

module _ (S LAW : ℕ) (h : S < 256) where
  pub above_held_only : above S LAW ≡ S → S ≡ highest LAW
  above_held_only held = stands (λ other. omega (arith, rw held at (above_higher S LAW h other)))

  pub below_held_only : below S LAW ≡ S → S ≡ lowest LAW
  below_held_only held = stands (λ other. omega (arith, rw held at (below_lower S LAW h other)))
