-- The step, run over a whole text, finds what the definition of the whole text says.
use Rattle.std.proofs.Common.{◌≡◌, ℕ, suc, ◌+◌, ◌%◌, ◌^◌, ◌<◌, ◌≤◌, true, false, ◌&&◌, eqb, leb, List, [], ◌∷◌, ◌++◌, length, sym, refl, ap, ◌∙◌, append_assoc, append-nil, arith, le-ltb, lt-ltb, eq-eqb, eqb-true, le-leb, leb-true}
use native.Mathlib.Decide.{dec_le}
use borrow.Author.Tests.{lt-leb}
use Rattle.words.proofs.Rows.{both}
use Rattle.words.proofs.Pick.{cases}
use Rattle.lists.specs.Run.{last}
use Rattle.sequence.specs.Limits.{line_feed, is_whole}
use Rattle.sequence.specs.Digits.{digit_of}
use Rattle.sequence.specs.Piece.{Offer, session}
use Rattle.sequence.specs.Reading.{is_refused, place, refused, line_ended, kept, with_digit, step_of, next, given_of, handed_out, beginning, is_through, reading, end_of}
use Rattle.sequence.specs.Text.{Outcome, outcome_of, Wrong, values_of, sum_of, remainder, lines_of, lines, characters, read_of}
use Rattle.sequence.specs.declared.reader.Refusal.{Refusal}
use Rattle.sequence.specs.declared.reader.Refusal.TheVariants.{BadCharacter, LineTooLong}
use Rattle.sequence.specs.declared.reader.Reader.{Reader}
use Rattle.sequence.specs.declared.step.Stepped.{Stepped}
use Rattle.sequence.proofs.Characters.{digit_no_feed}
use Rattle.sequence.proofs.Rows.{step_line, step_bad, step_long, step_digit}
use Rattle.sequence.proofs.Refusing.{refused_last, refused_end}
use Rattle.sequence.proofs.Lines.{prefix, prefix_line, lines_some, lines_on, none, pairs_even}
use Rattle.sequence.proofs.Standing.{Position, Even, Stands, even, odd, alone, position, stands_end, stands_digit}
use Rattle.sequence.proofs.Onward.{through_made, through_ends}

-- a line feed behind whole values
module _ (r : Reader) (H : List ℕ) (p n : ℕ) (K : List ℕ → Outcome) (c : ℕ) (feeds : eqb c line_feed ≡ true) (whole : is_whole n ≡ true) (bound : suc p < 2 ^ 64) where
  Ended : Type 0
  Ended = Stands (line_ended r) H (suc p) 0 (λ cs. K (c ∷ cs))

  two_or_more : 2 ≤ n
  two_or_more = leb-true 2 n (both (eqb (n % 2) 0) (leb 2 n) whole).1

  is_even : n % 2 ≡ 0
  is_even = eqb-true (n % 2) 0 (both (eqb (n % 2) 0) (leb 2 n) whole).0

  behind : Position r H p n → Position (line_ended r) H (suc p) 0
  behind at =
      let line = at.line in
      let column = at.column in
      record { sound = at.sound; line = omega arith; column = refl; sum = at.sum }

  -- of one value
  line_alone : (vs front : List ℕ) → Even r H p n K vs front → n ≡ 2 → Ended
  unfolding Ended lines_of values_of
  line_alone vs [] e two = absurd (omega (arith, e.count))
  line_alone vs (a ∷ []) e two = absurd (omega (arith, e.count))
  line_alone vs (a ∷ b ∷ []) e two =
      let line = e.at.line in
      let is : eqb n 2 ≡ true = eq-eqb n 2 two in
      let held = (e.back is).1 in
      alone r.line vs a b
      (record {
        at = behind e.at;
        count = refl;
        behind = omega arith;
        holds = e.holds ∙ is;
        held = cc held;
        out = (e.back is).0;
        rest = λ cs. e.rest (c ∷ cs) ∙ rw (feeds, prefix_line (a ∷ b ∷ []) (lines_of cs));
      })
  line_alone vs (a ∷ b ∷ x ∷ front) e two = absurd (omega (arith, e.count))

  -- of more
  line_on : (vs front : List ℕ) → Even r H p n K vs front → eqb n 2 ≡ false → Ended
  unfolding Ended lines_of values_of prefix
  line_on vs front e other =
      let line = e.at.line in
      let column = e.at.column in
      let count = e.count in
      let long : eqb (length front) 2 ≡ false = rw (← count) other in
      let starts : (line_ended r).line ≡ r.line + suc (length front) = omega arith in
      even (vs ++ values_of front) []
      (record {
        at = behind e.at;
        count = refl;
        short = omega arith;
        pairs = none;
        holds = e.holds ∙ other;
        back = λ u. cc u;
        out = λ u. e.out other ∙ sym (append-nil (vs ++ values_of front));
        rest =
            λ cs.
            e.rest (c ∷ cs) ∙ rw (feeds, prefix_line front (lines_of cs), starts) (lines_on r.line vs front (lines_of cs) (lines_some cs) (rw long));
      })

  pub stands_line : Stands r H p n K → Stands (line_ended r) H (suc p) 0 (λ cs. K (c ∷ cs))
  unfolding Ended
  stands_line (even vs front e) = cases (eqb n 2) (λ t. line_alone vs front e (eqb-true n 2 t)) (λ t. line_on vs front e t)
  stands_line (odd vs front h o) =
      let count = o.count in
      let half = pairs_even o.pairs in
      let half-too = is_even in
      absurd (omega arith)
  stands_line (alone q vs a b l) =
      let count = l.count in
      let some = two_or_more in
      absurd (omega arith)

-- what comes of a text from here on: the values handed out behind H, and the verdict at its end
abbrev found : List ℕ → Reader → List ℕ → Outcome
found H r cs = outcome_of (H ++ handed_out r cs) (end_of (last next r cs))

module _ (r : Reader) (H : List ℕ) (c : ℕ) (cs : List ℕ) where
  found_next : (s : Stepped) → step_of r c ≡ s → found H r (c ∷ cs) ≡ found (H ++ given_of s) s.reader cs
  unfolding handed_out last
  found_next s e =
      ap (λ (u : Stepped). outcome_of (H ++ (given_of u ++ handed_out u.reader cs)) (end_of (last next u.reader cs))) e
      ∙ ap (λ (l : List ℕ). outcome_of l (end_of (last next s.reader cs))) (sym (append_assoc H (given_of s) (handed_out s.reader cs)))

  found_refused : (why : Refusal) (p : ℕ) → step_of r c ≡ kept (refused r why) → place r ≡ p → found H r (c ∷ cs) ≡ Wrong why p
  found_refused why p e at =
      found_next (kept (refused r why)) e
      ∙ rw (refused_last (refused r why) refl cs, refused_end (refused r why) refl) (ap (Wrong why) at)

module _ (r : Reader) (H : List ℕ) (p n : ℕ) (K : List ℕ → Outcome) (c : ℕ) (cs : List ℕ) (s : Stands r H p n K) (bound : p + suc (length cs) < 2 ^ 64) where
  at : Position r H p n
  at = position r H p n K s

  sound : is_refused r.verdict ≡ false
  sound = rw at.sound

  here : place r ≡ p
  here =
      let line = at.line in
      let column = at.column in
      omega arith

  by_line : eqb c line_feed && is_whole n ≡ true → ((t : Stands (line_ended r) H (suc p) 0 (λ l. K (c ∷ l))) → found H (line_ended r) cs ≡ characters (suc p) 0 cs (K (c ∷ cs)))
      → found H r (c ∷ cs) ≡ characters p n (c ∷ cs) (K (c ∷ cs))
  unfolding characters
  by_line e later =
      let tests = both (eqb c line_feed) (is_whole n) e in
      found_next r H c cs (kept (line_ended r)) (step_line r c sound (rw at.column e))
      ∙ rw (append-nil, e) (later (stands_line r H p n K c tests.0 tests.1 (omega arith) s))

  module _ (inside : eqb c line_feed && is_whole n ≡ false) where
    within : eqb c line_feed && is_whole r.column ≡ false
    within = rw at.column inside

    by_bad : 16 ≤ digit_of c → found H r (c ∷ cs) ≡ characters p n (c ∷ cs) (K (c ∷ cs))
    unfolding characters
    by_bad h = found_refused r H c cs BadCharacter p (step_bad r c sound within h) here ∙ rw (inside, le-ltb (digit_of c) 16 h)

    by_long : digit_of c < 16 → 64 ≤ n → found H r (c ∷ cs) ≡ characters p n (c ∷ cs) (K (c ∷ cs))
    unfolding characters
    by_long d h =
        let column = at.column in
        found_refused r H c cs LineTooLong p (step_long r c sound within d (omega arith)) here ∙ rw (inside, lt-ltb (digit_of c) 16 d, le-leb 64 n h)

    by_digit : digit_of c < 16 → n < 64
        → ((t : Stands (with_digit r (digit_of c)).reader (H ++ given_of (with_digit r (digit_of c))) (suc p) (suc n) (λ l. K (c ∷ l))) → found (H ++ given_of (with_digit r (digit_of c))) (with_digit r (digit_of c)).reader cs ≡ characters (suc p) (suc n) cs (K (c ∷ cs)))
        → found H r (c ∷ cs) ≡ characters p n (c ∷ cs) (K (c ∷ cs))
    unfolding characters
    by_digit d h later =
        let column = at.column in
        found_next r H c cs (with_digit r (digit_of c)) (step_digit r c sound within d (omega arith))
        ∙ rw (inside, lt-ltb (digit_of c) 16 d, lt-leb 64 n h) (later (stands_digit r H p n K c d (digit_no_feed c d) h s))

    by_character : Dec (16 ≤ digit_of c) → Dec (64 ≤ n)
        → ((t : Stands (with_digit r (digit_of c)).reader (H ++ given_of (with_digit r (digit_of c))) (suc p) (suc n) (λ l. K (c ∷ l))) → found (H ++ given_of (with_digit r (digit_of c))) (with_digit r (digit_of c)).reader cs ≡ characters (suc p) (suc n) cs (K (c ∷ cs)))
        → found H r (c ∷ cs) ≡ characters p n (c ∷ cs) (K (c ∷ cs))
    by_character (yes bad) long later = by_bad bad
    by_character (no digit) (yes long) later = by_long (omega arith) long
    by_character (no digit) (no short) later = by_digit (omega arith) (omega arith) later

runs : (cs : List ℕ) (r : Reader) (H : List ℕ) (p n : ℕ) (K : List ℕ → Outcome) → Stands r H p n K → p + length cs < 2 ^ 64 → found H r cs ≡ characters p n cs (K cs)
unfolding characters handed_out last
runs [] r H p n K s bound = rw append-nil (stands_end r H p n K (omega arith) s)
runs (c ∷ cs) r H p n K s bound =
    cases (eqb c line_feed && is_whole n)
    (λ e. by_line r H p n K c cs s bound e (λ t. runs cs (line_ended r) H (suc p) 0 (λ l. K (c ∷ l)) t (omega arith)))
    (λ e. by_character r H p n K c cs s bound e (dec_le 16 (digit_of c)) (dec_le 64 n) (λ t. runs cs (with_digit r (digit_of c)).reader (H ++ given_of (with_digit r (digit_of c))) (suc p) (suc n) (λ l. K (c ∷ l)) t (omega arith)))

begins : Stands beginning [] 0 0 (λ cs. lines 0 [] (lines_of cs))
unfolding remainder sum_of values_of prefix
begins =
    even [] []
    (record {
      at = record { sound = refl; line = refl; column = refl; sum = refl };
      count = refl;
      short = omega arith;
      pairs = none;
      holds = refl;
      back = λ u. cc u;
      out = λ u. refl;
      rest = λ cs. refl;
    })

module _ (text : List ℕ) (bound : length text < 2 ^ 64) where
  -- the step run over a text gives the text's reading
  pub read_whole : outcome_of (handed_out beginning text) (end_of (last next beginning text)) ≡ read_of text
  unfolding read_of
  read_whole = runs text beginning [] 0 0 (λ cs. lines 0 [] (lines_of cs)) begins (omega arith)

  -- and so do a caller's calls, however the text is cut and however long the value buffers are
  pub read_however_cut : (offers : List Offer) → is_through (session reading beginning text offers) text ≡ true
      → outcome_of (session reading beginning text offers).made (end_of (session reading beginning text offers).state) ≡ read_of text
  read_however_cut offers through = rw (through_made beginning text offers through, through_ends beginning text offers through) read_whole
