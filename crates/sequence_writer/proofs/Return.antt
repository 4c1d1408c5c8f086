-- What the writer's layout says reads back to its values: digit by digit, line by line, row by row.
use Rattle.std.proofs.Common.{◌≡◌, ℕ, zero, suc, ◌+◌, ◌*◌, ◌/◌, ◌%◌, ◌<◌, ◌≤◌, eqb, List, [], ◌∷◌, ◌++◌, length, take, drop, sym, refl, ap, ◌∙◌, append_assoc, append-nil, arith, length-drop, take-append-drop, length-take, lt-ltb, eq-eqb, ne_eqb, le-leb}
use borrow.Author.Tests.{lt-leb}
use Rattle.std.proofs.Math.Bool.{and-false}
use Rattle.sequence.specs.Limits.{line_feed, longest}
use Rattle.sequence.specs.Text.{Outcome, Values, values_of, sum_of, remainder, characters, onto, lines_of, lines, read_of, Octets}
use Rattle.sequence_writer.specs.Layout.{capital, line_of, rows, text_of}
use Rattle.sequence_writer.proofs.Capitals.{capital_read, capital_no_feed}
use Rattle.sequence_writer.proofs.Octets.{octets_one, octets_head, octets_tail, octets_take, octets_drop}

-- a line without its line feed
digits_of : List ℕ → List ℕ
digits_of [] = []
digits_of (v ∷ vs) = capital (v / 16) ∷ capital (v % 16) ∷ digits_of vs

digits_length : (us : List ℕ) → length (digits_of us) ≡ 2 * length us
unfolding digits_of
digits_length [] = refl
digits_length (u ∷ us) =
    let on = digits_length us in
    omega arith

digits_values : (us : List ℕ) → Octets us → values_of (digits_of us) ≡ us
unfolding digits_of values_of
digits_values [] o = refl
digits_values (u ∷ us) o =
    let short = octets_head o in
    let value : u / 16 * 16 + u % 16 ≡ u = omega arith in
    rw (capital_read (u / 16) (omega arith), capital_read (u % 16) (omega arith), value, digits_values us (octets_tail o))

-- the lines of a text whose first line is known
line_apart : (us cs : List ℕ) → lines_of (line_of us ++ cs) ≡ digits_of us ∷ lines_of cs
unfolding line_of lines_of onto digits_of
line_apart [] cs = refl
line_apart (u ∷ us) cs = rw (capital_no_feed (u / 16), capital_no_feed (u % 16), line_apart us cs)

module _ (rest : Outcome) where
  digit_passes : (p n d : ℕ) (cs : List ℕ) → d < 16 → n < longest → characters p n (capital d ∷ cs) rest ≡ characters (suc p) (suc n) cs rest
  unfolding characters
  digit_passes p n d cs h room = rw (capital_no_feed d, capital_read d h, lt-ltb d 16 h, lt-leb longest n room)

  feed_passes : (p n : ℕ) (cs : List ℕ) → n % 2 ≡ 0 → 2 ≤ n → characters p n (line_feed ∷ cs) rest ≡ characters (suc p) 0 cs rest
  unfolding characters
  feed_passes p n cs even some = rw (eq-eqb (n % 2) 0 even, le-leb 2 n some)

  -- a line's values behind n characters of it
  line_passes : (us : List ℕ) → Octets us → (p n : ℕ) (cs : List ℕ) → n % 2 ≡ 0 → 2 ≤ n + 2 * length us → n + 2 * length us ≤ longest
      → characters p n (line_of us ++ cs) rest ≡ characters (p + suc (2 * length us)) 0 cs rest
  unfolding line_of
  line_passes [] o p n cs even some room =
      let behind : suc p ≡ p + 1 = omega arith in
      feed_passes p n cs even (omega arith) ∙ ap (λ (q : ℕ). characters q 0 cs rest) behind
  line_passes (u ∷ us) o p n cs even some room =
      let short = octets_head o in
      let behind : suc (suc p) + suc (2 * length us) ≡ p + suc (2 * suc (length us)) = omega arith in
      digit_passes p n (u / 16) (capital (u % 16) ∷ line_of us ++ cs) (omega arith) (omega arith)
      ∙ digit_passes (suc p) (suc n) (u % 16) (line_of us ++ cs) (omega arith) (omega arith)
      ∙ line_passes us (octets_tail o) (suc (suc p)) (suc (suc n)) cs (omega arith) (omega arith) (omega arith)
      ∙ ap (λ (q : ℕ). characters q 0 cs rest) behind

  rows_pass : (n : ℕ) (vs : List ℕ) → Octets vs → (p : ℕ) (cs : List ℕ) → length vs ≤ 32 * n → 32 * n < length vs + 32
      → characters p 0 (rows n vs ++ cs) rest ≡ characters (p + n + 2 * length vs) 0 cs rest
  unfolding rows
  rows_pass zero vs o p cs fit full =
      let none : p ≡ p + 0 + 2 * length vs = omega arith in
      ap (λ (q : ℕ). characters q 0 cs rest) none
  rows_pass (suc n) vs o p cs fit full =
      let front = length-take 32 vs in
      let back = length-drop 32 vs in
      let behind : p + suc (2 * length (take 32 vs)) + n + 2 * length (drop 32 vs) ≡ p + suc n + 2 * length vs = omega arith in
      ap (λ (l : List ℕ). characters p 0 l rest) (append_assoc (line_of (take 32 vs)) (rows n (drop 32 vs)) cs)
      ∙ line_passes (take 32 vs) (octets_take 32 o) p 0 (rows n (drop 32 vs) ++ cs) refl (omega arith) (omega arith)
      ∙ rows_pass n (drop 32 vs) (octets_drop 32 o) (p + suc (2 * length (take 32 vs))) cs (omega arith) (omega arith)
      ∙ ap (λ (q : ℕ). characters q 0 cs rest) behind

-- a line behind which two more begin is one of values
line_read : (p : ℕ) (us line : List ℕ) (more : List (List ℕ)) → 2 ≤ length more → lines p us (line ∷ more) ≡ lines (p + suc (length line)) (us ++ values_of line) more
unfolding lines
line_read p us line [] h = absurd (omega arith)
line_read p us line (behind ∷ more) h = rw (ne_eqb (length behind + length more) 0 (λ e. omega arith), and-false (eqb (length line) 2))

last_line : (us : List ℕ) → lines_of (line_of us) ≡ digits_of us ∷ [] ∷ []
unfolding lines_of
last_line us = rw append-nil at (line_apart us [])

-- rows, and the remainder's line behind them
module _ (r : ℕ) where
  text_apart : (n : ℕ) (vs : List ℕ) → lines_of (rows (suc n) vs ++ line_of (r ∷ [])) ≡ digits_of (take 32 vs) ∷ lines_of (rows n (drop 32 vs) ++ line_of (r ∷ []))
  unfolding rows
  text_apart n vs = rw (append_assoc (line_of (take 32 vs)) (rows n (drop 32 vs)) (line_of (r ∷ []))) (line_apart (take 32 vs) (rows n (drop 32 vs) ++ line_of (r ∷ [])))

  two_lines : (n : ℕ) (vs : List ℕ) → 2 ≤ length (lines_of (rows n vs ++ line_of (r ∷ [])))
  unfolding rows
  two_lines zero vs = rw (last_line (r ∷ [])) (omega arith)
  two_lines (suc n) vs =
      let more = two_lines n (drop 32 vs) in
      rw (text_apart n vs) (omega arith)

  module _ (octet : r < 256) where
    remainder_read : (p : ℕ) (us : List ℕ) → r ≡ remainder us → lines p us (digits_of (r ∷ []) ∷ [] ∷ []) ≡ Values us
    unfolding lines sum_of
    remainder_read p us e =
        rw (digits_length (r ∷ []), digits_values (r ∷ []) (octets_one octet), eq-eqb (r + 0) (remainder us) (omega arith))

    rows_read : (n : ℕ) (vs : List ℕ) → Octets vs → (p : ℕ) (us : List ℕ) → length vs ≤ 32 * n → r ≡ remainder (us ++ vs)
        → lines p us (lines_of (rows n vs ++ line_of (r ∷ []))) ≡ Values (us ++ vs)
    unfolding rows
    rows_read zero [] o p us fit e = rw (last_line (r ∷ []), append-nil us) (remainder_read p us (rw append-nil at e))
    rows_read zero (v ∷ vs) o p us fit e = absurd (omega arith)
    rows_read (suc n) vs o p us fit e =
        let whole : (us ++ take 32 vs) ++ drop 32 vs ≡ us ++ vs = append_assoc us (take 32 vs) (drop 32 vs) ∙ ap (λ (l : List ℕ). us ++ l) (take-append-drop 32 vs) in
        let back = length-drop 32 vs in
        rw (text_apart n vs, line_read p us (digits_of (take 32 vs)) (lines_of (rows n (drop 32 vs) ++ line_of (r ∷ []))) (two_lines n (drop 32 vs)), digits_values (take 32 vs) (octets_take 32 o), ← whole)
        (rows_read n (drop 32 vs) (octets_drop 32 o) _ (us ++ take 32 vs) (omega arith) (rw whole e))

pub read_back : (vs : List ℕ) → Octets vs → read_of (text_of vs) ≡ Values vs
unfolding read_of text_of remainder characters
read_back vs o =
    let n = (length vs + 31) / 32 in
    let r = remainder vs in
    let octet : r < 256 = omega arith in
    let rest : Outcome = lines 0 [] (lines_of (rows n vs ++ line_of (r ∷ []))) in
    let fit : length vs ≤ 32 * n = omega arith in
    let full : 32 * n < length vs + 32 = omega arith in
    rows_pass rest n vs o 0 (line_of (r ∷ [])) fit full
    ∙ ap (λ (l : List ℕ). characters (0 + n + 2 * length vs) 0 l rest) (sym (append-nil (line_of (r ∷ []))))
    ∙ line_passes rest (r ∷ []) (octets_one octet) (0 + n + 2 * length vs) 0 [] refl (omega arith) (omega arith)
    ∙ rows_read r octet n vs o 0 [] fit refl
