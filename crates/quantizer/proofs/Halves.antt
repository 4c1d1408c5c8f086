-- The two halves of the codewords of a width, by their sign: the magnitude of a codeword and its place in the order, by its half.
-- Each is a test of every codeword of every width.
use mathlib.Core.Path.{◌≡◌, sym, ap, ◌∙◌}
use mathlib.Core.Bool.{Bool}
use Prim.Native.Nat.{ℕ, ◌+◌, ◌-◌, ◌*◌, ◌%◌, ◌^◌, ◌≤◌, ◌<◌}
use native.Mathlib.Omega.{arith}
use lib.Dec.{T, eqb, leb, ltb, eqb→eq, leb→le, ltb→lt}
use borrow.Author.Tests.{lt-ltb, le-ltb, eq-eqb, ne_eqb, eqb-true, eqb-false}
use Rattle.words.specs.Notation.{pick}
use Rattle.words.proofs.Pick.{cases}
use Rattle.quantizer.specs.Codeword.{Width, Codeword, CoreCodeword}
use Rattle.quantizer.specs.Multiplier.{IM_core}
use Rattle.quantizer.specs.Sync.{IM}
use Rattle.quantizer.proofs.Tests.{at_width, codewords, at_codeword}

pub record Halves (w : ℕ) : Type 0 where
  pub shifted : 1 * 2 ^ (w - 1) % 256 ≡ 2 ^ (w - 1)
  pub low : 2 ≤ 2 ^ (w - 1)
  pub high : 2 ^ (w - 1) ≤ 16
  pub double : 2 ^ w ≡ 2 * 2 ^ (w - 1)

pub halves : {w : ℕ} → Width w → Halves w
halves h =
    record {
      shifted = eqb→eq _ _ (at_width (λ w. eqb (1 * 2 ^ (w - 1) % 256) (2 ^ (w - 1))) tt h);
      low = leb→le _ _ (at_width (λ w. leb 2 (2 ^ (w - 1))) tt h);
      high = leb→le _ _ (at_width (λ w. leb (2 ^ (w - 1)) 16) tt h);
      double = eqb→eq _ _ (at_width (λ w. eqb (2 ^ w) (2 * 2 ^ (w - 1))) tt h);
    }

pub width_of : {w I : ℕ} → Codeword w I → Width w
width_of h = record { least = h.least; most = h.most }

pub codeword_of_core : {w I : ℕ} → CoreCodeword w I → Codeword w I
codeword_of_core h = record { least = h.least; most = omega arith; short = h.short }

-- what is p of the half and I below the half, and q of them from there on
module _ (f p q : ℕ → ℕ → ℕ) where
  abbrev split : ℕ → ℕ → Bool
  split w I = eqb (pick (ltb I (2 ^ (w - 1))) (p (2 ^ (w - 1)) I) (q (2 ^ (w - 1)) I)) (f w I)

  halved : T (codewords 4 split) → {w I : ℕ} → Codeword w I → pick (ltb I (2 ^ (w - 1))) (p (2 ^ (w - 1)) I) (q (2 ^ (w - 1)) I) ≡ f w I
  halved t h = eqb→eq _ _ (at_codeword split t h)

  below : T (codewords 4 split) → {w I half : ℕ} → Codeword w I → half ≡ 2 ^ (w - 1) → I < half → p half I ≡ f w I
  below t {w} {I} h e l = rw e (rw (lt-ltb I (2 ^ (w - 1)) (rw e at l)) at (halved t h))

  from : T (codewords 4 split) → {w I half : ℕ} → Codeword w I → half ≡ 2 ^ (w - 1) → half ≤ I → q half I ≡ f w I
  from t {w} {I} h e l = rw e (rw (le-ltb I (2 ^ (w - 1)) (rw e at l)) at (halved t h))

module _ {w I half : ℕ} (h : Codeword w I) (e : half ≡ 2 ^ (w - 1)) where
  pub magnitude_below : I < half → I ≡ IM_core w I
  unfolding IM_core
  magnitude_below = below IM_core (λ half I. I) (λ half I. 2 * half - 1 - I) tt h e

  pub magnitude_from : half ≤ I → 2 * half - 1 - I ≡ IM_core w I
  unfolding IM_core
  magnitude_from = from IM_core (λ half I. I) (λ half I. 2 * half - 1 - I) tt h e

  pub place_below : I < half → I + half ≡ IM w I
  unfolding IM
  place_below = below IM (λ half I. I + half) (λ half I. I - half) tt h e

  pub place_from : half ≤ I → I - half ≡ IM w I
  unfolding IM
  place_from = from IM (λ half I. I + half) (λ half I. I - half) tt h e

module _ {w I : ℕ} (h : Codeword w I) where
  pub magnitude_small : IM_core w I < 2 ^ (w - 1)
  unfolding IM_core
  magnitude_small = ltb→lt _ _ (at_codeword (λ w I. ltb (IM_core w I) (2 ^ (w - 1))) tt h)

  -- the halves change places, so the place of a place is the codeword
  place_back : IM w (IM w I) ≡ I
  unfolding IM
  place_back = eqb→eq _ _ (at_codeword (λ w I. eqb (IM w (IM w I)) I) tt h)

pub place_one_to_one : {w I J : ℕ} → Codeword w I → Codeword w J → IM w I ≡ IM w J → I ≡ J
place_one_to_one {w} h k e = sym (place_back h) ∙ ap (IM w) e ∙ place_back k

-- so comparing places is comparing codewords
pub places_apart : {w I J : ℕ} → Codeword w I → Codeword w J → eqb (IM w I) (IM w J) ≡ eqb I J
places_apart {w} {I} {J} h k =
    cases (eqb I J)
    (λ e. rw e (eq-eqb _ _ (ap (IM w) (eqb-true I J e))))
    (λ e. rw e (ne_eqb _ _ (λ same. eqb-false I J e (place_one_to_one h k same))))
