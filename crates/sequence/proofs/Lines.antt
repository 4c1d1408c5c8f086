-- Laws of a text's lines: a line that is begun, lines that go on, digits two by two, and the sum with one value more.
use Rattle.std.proofs.Common.{◌≡◌, ℕ, suc, ◌+◌, ◌*◌, ◌%◌, ◌<◌, Bool, true, false, ◌&&◌, eqb, List, [], ◌∷◌, ◌++◌, length, refl, ap, not-suc-le-zero, arith, ne_eqb}
use Rattle.words.proofs.Pick.{by_pick}
use Rattle.sequence.specs.Limits.{line_feed, added}
use Rattle.sequence.specs.Digits.{digit_of}
use Rattle.sequence.specs.Text.{values_of, sum_of, remainder, onto, lines_of, lines}

-- characters that stand in front of the first line
unfoldable pub prefix : List ℕ → List (List ℕ) → List (List ℕ)
prefix [] ls = ls
prefix (c ∷ cs) ls = onto c (prefix cs ls)

pub prefix_line : (front : List ℕ) (ls : List (List ℕ)) → prefix front ([] ∷ ls) ≡ front ∷ ls
unfolding prefix onto
prefix_line [] ls = refl
prefix_line (c ∷ cs) ls = rw (prefix_line cs ls)

pub prefix_snoc : (front : List ℕ) (c : ℕ) (ls : List (List ℕ)) → prefix (front ++ c ∷ []) ls ≡ prefix front (onto c ls)
unfolding prefix
prefix_snoc [] c ls = refl
prefix_snoc (b ∷ bs) c ls = ap (onto b) (prefix_snoc bs c ls)

pub length_onto : (c : ℕ) (ls : List (List ℕ)) → length (onto c ls) ≡ length ls
unfolding onto
length_onto c [] = refl
length_onto c (l ∷ ls) = refl

-- there is always one
pub lines_some : (text : List ℕ) → 0 < length (lines_of text)
unfolding lines_of
lines_some [] = omega arith
lines_some (c ∷ cs) =
    by_pick (λ ls. 0 < length ls) (eqb c line_feed) ([] ∷ lines_of cs) (onto c (lines_of cs)) (λ e. omega arith) (λ e. rw length_onto (lines_some cs))

-- nothing stands behind a line
abbrev pub is_end : List (List ℕ) → Bool
is_end [] = true
is_end (behind ∷ more) = eqb (length behind + length more) 0

pub onto_no_end : (c : ℕ) (ls : List (List ℕ)) → 0 < length ls → is_end (onto c ls) ≡ false
unfolding onto
onto_no_end c [] h = absurd (not-suc-le-zero h)
onto_no_end c (l ∷ ls) h = ne_eqb (suc (length l) + length ls) 0 (λ e. omega arith)

pub lines_on : (p : ℕ) (vs line : List ℕ) (ls : List (List ℕ)) → 0 < length ls → eqb (length line) 2 && is_end ls ≡ false
    → lines p vs (line ∷ ls) ≡ lines (p + suc (length line)) (vs ++ values_of line) ls
unfolding lines
lines_on p vs line [] h e = absurd (not-suc-le-zero h)
lines_on p vs line (b ∷ m) h e = rw e

-- characters two by two
pub data Pairs : List ℕ → Type 0 where
  none : Pairs []
  more : {a b : ℕ} {l : List ℕ} → Pairs l → Pairs (a ∷ b ∷ l)

pub pairs_even : {l : List ℕ} → Pairs l → length l % 2 ≡ 0
pairs_even none = refl
pairs_even (more p) =
    let e = pairs_even p in
    omega arith

pub pairs_snoc : {l : List ℕ} (h c : ℕ) → Pairs l → Pairs (l ++ h ∷ c ∷ [])
pairs_snoc h c none = more none
pairs_snoc h c (more p) = more (pairs_snoc h c p)

pub values_snoc : {l : List ℕ} (h c : ℕ) → Pairs l → values_of (l ++ h ∷ c ∷ []) ≡ values_of l ++ (digit_of h * 16 + digit_of c) ∷ []
unfolding values_of
values_snoc h c none = refl
values_snoc h c (more {a = a} {b = b} p) = ap (λ (l : List ℕ). (digit_of a * 16 + digit_of b) ∷ l) (values_snoc h c p)

pub sum_append : (vs us : List ℕ) → sum_of (vs ++ us) ≡ sum_of vs + sum_of us
unfolding sum_of
sum_append [] us = omega arith
sum_append (v ∷ vs) us =
    let e = sum_append vs us in
    omega arith

pub remainder_snoc : (vs : List ℕ) (v : ℕ) → remainder (vs ++ v ∷ []) ≡ added (remainder vs) v
unfolding remainder sum_of
remainder_snoc vs v =
    let e : sum_of (vs ++ v ∷ []) ≡ sum_of vs + (v + 0) = sum_append vs (v ∷ []) in
    omega arith
