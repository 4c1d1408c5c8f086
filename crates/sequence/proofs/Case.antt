-- Both cases of letter read alike: whatever changes neither a character's digit nor whether it is a line feed changes nothing of what is read.
use Rattle.std.proofs.Common.{◌≡◌, ℕ, suc, ◌+◌, Bool, true, false, eqb, List, [], ◌∷◌, ◌++◌, map, length, refl, arith}
use Rattle.std.proofs.lemmas.Bool.Decides.{nat_tests}
use lib.ListN.{length-map}
use Rattle.words.specs.Notation.{pick}
use Rattle.sequence.specs.Limits.{line_feed}
use Rattle.sequence.specs.Digits.{digit_of, upper}
use Rattle.sequence.specs.Text.{Outcome, values_of, characters, onto, lines_of, lines, read_of}

module _ (f : ℕ → ℕ) where
  onto_changed : (c : ℕ) (ls : List (List ℕ)) → onto (f c) (map (map f) ls) ≡ map (map f) (onto c ls)
  unfolding onto
  onto_changed c [] = refl
  onto_changed c (l ∷ ls) = refl

  apart_changed : (t : Bool) (c : ℕ) (ls : List (List ℕ)) → pick t ([] ∷ map (map f) ls) (onto (f c) (map (map f) ls)) ≡ map (map f) (pick t ([] ∷ ls) (onto c ls))
  apart_changed true c ls = refl
  apart_changed false c ls = onto_changed c ls

  module _ (feed : (c : ℕ) → eqb (f c) line_feed ≡ eqb c line_feed) where
    lines_changed : (text : List ℕ) → lines_of (map f text) ≡ map (map f) (lines_of text)
    unfolding lines_of
    lines_changed [] = refl
    lines_changed (c ∷ cs) = rw (feed c, lines_changed cs) (apart_changed (eqb c line_feed) c (lines_of cs))

    module _ (digit : (c : ℕ) → digit_of (f c) ≡ digit_of c) where
      values_alike : (cs : List ℕ) → values_of (map f cs) ≡ values_of cs
      unfolding values_of
      values_alike [] = refl
      values_alike (c ∷ []) = refl
      values_alike (c ∷ d ∷ cs) = rw (digit c, digit d, values_alike cs)

      characters_alike : (p n : ℕ) (cs : List ℕ) (rest : Outcome) → characters p n (map f cs) rest ≡ characters p n cs rest
      unfolding characters
      characters_alike p n [] rest = refl
      characters_alike p n (c ∷ cs) rest = rw (feed c, digit c, characters_alike (suc p) 0 cs rest, characters_alike (suc p) (suc n) cs rest)

      lines_alike : (p : ℕ) (vs : List ℕ) (ls : List (List ℕ)) → lines p vs (map (map f) ls) ≡ lines p vs ls
      unfolding lines
      lines_alike p vs [] = refl
      lines_alike p vs (line ∷ []) = refl
      lines_alike p vs (line ∷ behind ∷ more) =
          rw (values_alike line, length-map line f, length-map behind f, length-map more (map f), lines_alike (p + suc (length line)) (vs ++ values_of line) (behind ∷ more))

      pub read_alike : (text : List ℕ) → read_of (map f text) ≡ read_of text
      unfolding read_of
      read_alike text = rw (lines_changed text, lines_alike 0 [] (lines_of text)) (characters_alike 0 0 text (lines 0 [] (lines_of text)))

upper_digit : (c : ℕ) → digit_of (upper c) ≡ digit_of c
unfolding digit_of
upper_digit c = grind (arith, nat_tests)

upper_feed : (c : ℕ) → eqb (upper c) line_feed ≡ eqb c line_feed
upper_feed c = grind (arith, nat_tests)

pub case_alike : (text : List ℕ) → read_of (map upper text) ≡ read_of text
case_alike = read_alike upper upper_feed upper_digit
