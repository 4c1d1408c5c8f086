-- The levels of samples: as many as there are samples, each the level of the sample at its place, and 14 bits wide where the end takes the samples.
use mathlib.Core.Bool.{Bool, true}
use mathlib.Core.List.{List, [], ◌∷◌, map}
use mathlib.Core.Path.{◌≡◌, refl}
use Prim.Native.Nat.{ℕ, zero, suc, ◌<◌}
use native.Mathlib.Nat.{le_of_suc-le-suc, not-suc-le-zero}
use lib.ListN.{length, get_or, take, drop, length-map}
use lib.Seq.{take_at}
use Rattle.std.specs.List.{list_all}
use Rattle.words.proofs.Rows.{both}
use Rattle.std.proofs.lemmas.List.{get_or-map}
use Rattle.g711.proofs.Extent.{expand_lt}
use Rattle.linear.proofs.Levels.{level_short}
use Rattle.sample.specs.End.{End, pcm, linear, Sample, is_taken, level_of}
use Rattle.levels.specs.Encode.{are_taken, levels_of}
use Rattle.levels.specs.Inner.{FourteenBits, LevelsAll}

module _ (end : End) (samples : List (Sample end)) where
  pub levels_length : length (levels_of end samples) ≡ length samples
  levels_length = length-map samples (level_of end)

  -- d is any sample
  pub level_at : (d : Sample end) (i : ℕ) → i < length samples → get_or (levels_of end samples) i 0 ≡ level_of end (get_or samples i d)
  level_at d i h = get_or-map (level_of end) samples i d 0 h

-- the levels that were put into a buffer are its first ones
pub levels_first : {levels before after : List ℕ} → LevelsAll levels before after → take (length levels) after ≡ levels
levels_first {levels} {before} e = rw e.out (take_at levels (drop (length levels) before) (length levels) refl)

module _ {A : Type 0} (taken : A → Bool) where
  -- where all samples are taken, each is
  pub taken_at : (xs : List A) → list_all taken xs ≡ true → (i : ℕ) (x : A) → i < length xs → x ≡ get_or xs i x → taken x ≡ true
  taken_at [] t i x h e = absurd (not-suc-le-zero h)
  taken_at (y ∷ xs) t zero x h e = rw e (both (taken y) (list_all taken xs) t).0
  taken_at (y ∷ xs) t (suc i) x h e = taken_at xs (both (taken y) (list_all taken xs) t).1 i x (le_of_suc-le-suc h) e

  module _ (level : A → ℕ) (short : (x : A) → taken x ≡ true → level x < 16384) where
    all_short : (xs : List A) → list_all taken xs ≡ true → (i : ℕ) → i < length (map level xs) → get_or (map level xs) i 0 < 16384
    all_short [] t i h = absurd (not-suc-le-zero h)
    all_short (x ∷ xs) t zero h = short x (both (taken x) (list_all taken xs) t).0
    all_short (x ∷ xs) t (suc i) h = all_short xs (both (taken x) (list_all taken xs) t).1 i (le_of_suc-le-suc h)

    pub short_levels : (xs : List A) → list_all taken xs ≡ true → FourteenBits (map level xs)
    short_levels xs t = record { short = all_short xs t }

taken_short : (end : End) (S : Sample end) → is_taken end S ≡ true → level_of end S < 16384
taken_short (pcm LAW) S t = expand_lt S LAW
taken_short linear x t = level_short x t

pub levels_short : (end : End) (samples : List (Sample end)) → are_taken end samples ≡ true → FourteenBits (levels_of end samples)
levels_short end samples t = short_levels (is_taken end) (level_of end) (taken_short end) samples t

-- every octet is taken
pub pcm_taken : (LAW : ℕ) (octets : List ℕ) → are_taken (pcm LAW) octets ≡ true
pcm_taken LAW [] = refl
pcm_taken LAW (S ∷ octets) = pcm_taken LAW octets
