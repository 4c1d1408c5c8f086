-- Reading on from where a call stopped comes to the same as reading all at once: in the values that are handed out, and in the reader at the end.
use Rattle.std.proofs.Common.{◌≡◌, ℕ, suc, ◌+◌, ◌-◌, ◌≤◌, true, false, List, [], ◌∷◌, ◌++◌, length, take, drop, sym, refl, ap, ◌∙◌, append_assoc, append-nil, arith, take-append-drop, drop_of_length-le, leb-true}
use native.Mathlib.Decide.{dec_le}
use Rattle.words.proofs.Pick.{cases}
use Rattle.lists.specs.Run.{last}
use Rattle.sequence.specs.Piece.{Piece, stop, further, Offer, session}
use Rattle.sequence.specs.Reading.{is_refused, next, given, handed_out, is_through, reading}
use Rattle.sequence.specs.declared.reader.Reader.{Reader}
use Rattle.sequence.proofs.Refusing.{refused_last, refused_hands, refusing_gives}
use Rattle.sequence.proofs.Taking.{reading_refused, reading_full, reading_more}
use Rattle.sequence.proofs.Cuts.{session_makes, session_keeps}

pub record Onward (r : Reader) (text : List ℕ) (p : Piece Reader) : Type 0 where
  pub makes : handed_out r text ≡ p.made ++ handed_out p.state (drop p.taken text)
  pub ends : last next r text ≡ last next p.state (drop p.taken text)

onward_stop : (r : Reader) (text : List ℕ) → Onward r text (stop r)
unfolding stop
onward_stop r text = record { makes = refl; ends = refl }

module _ (r : Reader) (c : ℕ) (text : List ℕ) where
  onward_refused : is_refused (next r c).verdict ≡ true → Onward r (c ∷ text) (stop (next r c))
  unfolding stop handed_out last
  onward_refused e =
      record {
        makes = rw (refusing_gives r c e, refused_hands (next r c) e text) (sym (refused_hands (next r c) e (c ∷ text)));
        ends = refused_last (next r c) e text ∙ sym (refused_last (next r c) e (c ∷ text));
      }

  onward_more : (p : Piece Reader) → Onward (next r c) text p → Onward r (c ∷ text) (further 1 (given r c) p)
  unfolding further handed_out last
  onward_more p o =
      let one : 1 + p.taken ≡ suc p.taken = omega arith in
      record {
        makes = rw one (ap (λ (l : List ℕ). given r c ++ l) o.makes ∙ sym (append_assoc (given r c) p.made (handed_out p.state (drop p.taken text))));
        ends = rw one o.ends;
      }

  module _ (room : ℕ) (xs : List ℕ) (later : Onward (next r c) text (reading (room - length (given r c)) (next r c) xs)) where
    roomy : is_refused (next r c).verdict ≡ false → Dec (length (given r c) ≤ room) → Onward r (c ∷ text) (reading room r (c ∷ xs))
    roomy e (yes d) = rw (reading_more room r c xs e d) (onward_more (reading (room - length (given r c)) (next r c) xs) later)
    roomy e (no d) = rw (reading_full room r c xs e (omega arith)) (onward_stop r (c ∷ text))

    onward_next : Onward r (c ∷ text) (reading room r (c ∷ xs))
    onward_next =
        cases (is_refused (next r c).verdict) (λ e. rw (reading_refused room r c xs e) (onward_refused e)) (λ e. roomy e (dec_le (length (given r c)) room))

onward : (room : ℕ) (r : Reader) (xs ys : List ℕ) → Onward r (xs ++ ys) (reading room r xs)
unfolding reading
onward room r [] ys = onward_stop r ys
onward room r (c ∷ xs) ys = onward_next r c (xs ++ ys) room xs (onward (room - length (given r c)) (next r c) xs ys)

pub reading_onward : (room n : ℕ) (r : Reader) (text : List ℕ) → Onward r text (reading room r (take n text))
reading_onward room n r text = rw (take-append-drop n text) at (onward room r (take n text) (drop n text))

module _ (r : Reader) (text : List ℕ) (offers : List Offer) where
  all_made : handed_out r text ≡ (session reading r text offers).made ++ handed_out (session reading r text offers).state (drop (session reading r text offers).taken text)
  all_made = session_makes reading handed_out (λ room n s xs. (reading_onward room n s xs).makes) r text offers

  all_ended : last next r text ≡ last next (session reading r text offers).state (drop (session reading r text offers).taken text)
  all_ended = session_keeps reading (last next) (λ room n s xs. (reading_onward room n s xs).ends) r text offers

  -- then nothing more comes
  nothing_left : is_through (session reading r text offers) text ≡ true
      → (handed_out (session reading r text offers).state (drop (session reading r text offers).taken text) ≡ []) × (last next (session reading r text offers).state (drop (session reading r text offers).taken text) ≡ (session reading r text offers).state)
  unfolding handed_out last
  nothing_left e =
      let p = session reading r text offers in
      cases (is_refused p.state.verdict) (λ t. (refused_hands p.state t (drop p.taken text), refused_last p.state t (drop p.taken text)))
      (λ t. let none = drop_of_length-le text (leb-true (length text) p.taken (rw t at e)) in (rw none, rw none))

  pub through_made : is_through (session reading r text offers) text ≡ true → (session reading r text offers).made ≡ handed_out r text
  through_made e = sym (all_made ∙ ap (λ (l : List ℕ). (session reading r text offers).made ++ l) (nothing_left e).0 ∙ append-nil (session reading r text offers).made)

  pub through_ends : is_through (session reading r text offers) text ≡ true → (session reading r text offers).state ≡ last next r text
  through_ends e = sym (all_ended ∙ (nothing_left e).1)
