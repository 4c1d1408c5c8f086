-- What is handed out is never taken back: it is the front of the values of every sound text that begins so. A refused reader answers every call alike. And FF is
-- no remainder.
use Rattle.std.proofs.Common.{◌≡◌, ℕ, ◌%◌, ◌^◌, ◌<◌, true, ◌&&◌, eqb, List, [], ◌∷◌, ◌++◌, length, sym, refl, ap, ◌∙◌, append_assoc, arith, eqb-true, Ok, Err}
use Rattle.words.proofs.Pick.{cases}
use Rattle.lists.specs.Run.{last}
use Rattle.sequence.specs.Limits.{modulus}
use Rattle.sequence.specs.Piece.{stop}
use Rattle.sequence.specs.Reading.{is_refused, next, given, handed_out, beginning, reading, end_of}
use Rattle.sequence.specs.Text.{Verdict, outcome_of, Values, read_of}
use Rattle.sequence.specs.declared.reader.Reader.{Reader}
use Rattle.sequence.proofs.Refusing.{refused_next}
use Rattle.sequence.proofs.Taking.{reading_refused}
use Rattle.sequence.proofs.Whole.{read_whole}

pub handed_append : (r : Reader) (xs ys : List ℕ) → handed_out r (xs ++ ys) ≡ handed_out r xs ++ handed_out (last next r xs) ys
unfolding handed_out last
handed_append r [] ys = refl
handed_append r (c ∷ xs) ys =
    ap (λ (l : List ℕ). given r c ++ l) (handed_append (next r c) xs ys)
    ∙ sym (append_assoc (given r c) (handed_out (next r c) xs) (handed_out (last next (next r c) xs) ys))

sound_values : (v : Verdict) (hs vs : List ℕ) → outcome_of hs v ≡ Values vs → hs ≡ vs
sound_values (Ok _) hs vs e = cc
sound_values (Err fault) hs vs e = cc

pub handed_in_front : (xs ys vs : List ℕ) → length (xs ++ ys) < 2 ^ 64 → read_of (xs ++ ys) ≡ Values vs → vs ≡ handed_out beginning xs ++ handed_out (last next beginning xs) ys
handed_in_front xs ys vs bound e =
    sym (sound_values (end_of (last next beginning (xs ++ ys))) (handed_out beginning (xs ++ ys)) vs (read_whole (xs ++ ys) bound ∙ e)) ∙ handed_append beginning xs ys

pub refused_reads : (room : ℕ) (r : Reader) (text : List ℕ) → is_refused r.verdict ≡ true → reading room r text ≡ stop r
unfolding reading
refused_reads room r [] e = refl
refused_reads room r (c ∷ cs) e =
    let same = refused_next r e c in
    reading_refused room r c cs (ap (λ (s : Reader). is_refused s.verdict) same ∙ e) ∙ ap stop same

pub remainder_below : (r : Reader) → end_of r ≡ Ok tt → r.held < 255
unfolding end_of
remainder_below r e =
    cases (is_refused r.verdict)
    (λ t. cc (t, ap is_refused (rw t at e)))
    (λ t.
    cases (eqb r.column 0 && r.holds)
    (λ u.
    cases (eqb r.held (r.sum % modulus)) (λ w. let same = eqb-true r.held (r.sum % modulus) w in omega arith)
    (λ w. cc (rw (t, u, w) at e)))
    (λ u. cc (rw (t, u) at e)))
