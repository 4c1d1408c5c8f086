-- A header to which no row applies is sound, and no row applies to a sound one; the same of a frame; and what the test of a count says.
use mathlib.Core.Bool.{true, not}
use mathlib.Core.List.{List, [], ◌∷◌}
use mathlib.Core.Path.{◌≡◌}
use Prim.Native.Nat.{ℕ, ◌*◌, ◌/◌, ◌%◌, ◌≤◌}
use native.Mathlib.Omega.{arith}
use lib.Dec.{eqb}
use borrow.Author.Tests.{ltb-false, le-ltb, eqb-true, eq-eqb, not-false}
use Rattle.words.specs.First.{Row, first}
use Rattle.words.specs.Within.{Within, within}
use Rattle.words.proofs.First.{NoneApplies, none_apart, none_joined, first_front}
use Rattle.words.proofs.Rows.{both}
use Rattle.words.proofs.Within.{within_says, within_of}
use Rattle.quantizer.proofs.Pairs.{pair_says, pair_of}
use Rattle.frame.specs.declared.header.Header.{Header}
use Rattle.frame.specs.Header.{plain, numbered, fewest, group, most_groups, due_length, is_count}
use Rattle.frame.specs.Rows.{header_rows, frame_rows}
use Rattle.frame.specs.Sound.{SoundHeader, Sound}

module _ (h : Header) where
  pub header_says : NoneApplies (header_rows h) → SoundHeader h
  header_says none =
      record {
        known = within_says plain numbered h.edition (not-false _ none.0);
        pair = pair_says h.width h.core (not-false _ none.1.0);
        count = within_says 1 (most_groups h.edition) h.groups (not-false _ none.1.1.0);
      }

  pub header_none : SoundHeader h → NoneApplies (header_rows h)
  header_none s = (rw (within_of s.known), (rw (pair_of s.pair), (rw (within_of s.count), tt)))

  module _ (n : ℕ) where
    abbrev length_row : List Row
    length_row = (6, not (eqb n (due_length h))) ∷ []

    pub sound_says : NoneApplies (frame_rows h n) → Sound h n
    sound_says none =
        let apart = none_apart (header_rows h) length_row none.1 in
        record { long = ltb-false n fewest none.0; header = header_says apart.0; whole = eqb-true n (due_length h) (not-false _ apart.1.0) }

    pub sound_none : Sound h n → NoneApplies (frame_rows h n)
    sound_none s = (le-ltb _ _ s.long, none_joined (header_rows h) length_row (header_none s.header) (rw (eq-eqb _ _ s.whole), tt))

    -- where a row of the header's own applies, it is the frame's
    pub frame_front : fewest ≤ n → (first (header_rows h) ≡ 0 → ⊥) → first (frame_rows h n) ≡ first (header_rows h)
    unfolding first
    frame_front long wrong = rw (le-ltb _ _ long) (first_front (header_rows h) length_row wrong)

-- the samples of 1 to 40 whole groups
pub record Counted (e n : ℕ) : Type 0 where
  pub whole : n / group * group ≡ n
  pub groups : Within 1 (most_groups e) (n / group)

pub count_says : (e n : ℕ) → is_count e n ≡ true → Counted e n
count_says e n t =
    let r = both (eqb (n % group) 0) (within group (most_groups e * group) n) t in
    let rest = eqb-true (n % group) 0 r.0 in
    let w = within_says group (most_groups e * group) n r.1 in
    let low = w.low in
    let high = w.high in
    record { whole = omega arith; groups = record { low = omega arith; high = omega arith } }

pub count_of : {e n : ℕ} → Counted e n → is_count e n ≡ true
count_of {e} {n} k =
    let whole = k.whole in
    let low = k.groups.low in
    let high = k.groups.high in
    let rest : n % group ≡ 0 = omega arith in
    let ends : Within group (most_groups e * group) n = record { low = omega arith; high = omega arith } in
    rw (eq-eqb _ _ rest, within_of ends)
