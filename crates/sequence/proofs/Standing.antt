-- Where a reader stands in a text, and that it then finds what the whole text's definition says of the rest: in a line behind whole values, in a line behind
-- half a value, or behind a line that held one value alone.
use Rattle.std.proofs.Common.{◌≡◌, ℕ, suc, ◌+◌, ◌*◌, ◌%◌, ◌^◌, ◌<◌, ◌≤◌, Bool, true, false, ◌&&◌, eqb, List, [], ◌∷◌, ◌++◌, length, sym, refl, ap, ◌∙◌, subst, append_assoc, append-nil, arith, length-append, eq-eqb, ne_eqb, eqb-true, Ok}
use borrow.Author.Tests.{eqb-false}
use Rattle.words.specs.Notation.{pick}
use Rattle.words.proofs.Pick.{cases}
use Rattle.sequence.specs.Limits.{line_feed, added}
use Rattle.sequence.specs.Digits.{digit_of}
use Rattle.sequence.specs.Reading.{kept, handed, begun, first_digit, held_back, completed, second_digit, joined, with_digit, given_of, fault, back, end_of}
use Rattle.sequence.specs.Text.{Outcome, outcome_of, Values, Wrong, values_of, sum_of, remainder, onto, lines_of, lines}
use Rattle.sequence.specs.declared.reader.Refusal.TheVariants.{WrongRemainder}
use Rattle.sequence.specs.declared.reader.Reader.{Reader}
use Rattle.sequence.specs.declared.step.Stepped.{Stepped}
use Rattle.sequence.proofs.Lines.{prefix, prefix_line, prefix_snoc, lines_some, onto_no_end, length_onto, lines_on, Pairs, none, pairs_even, pairs_snoc, values_snoc, remainder_snoc}

-- the reader is sound, p characters are behind it, n of them in its line, and it has handed out the values H
pub record Position (r : Reader) (H : List ℕ) (p n : ℕ) : Type 0 where
  pub sound : r.verdict ≡ Ok tt
  pub line : r.line + n ≡ p
  pub column : r.column ≡ n
  pub sum : r.sum ≡ remainder H

module _ (r : Reader) (H : List ℕ) (p n : ℕ) (K : List ℕ → Outcome) where
  -- behind whole values, the line's characters so far being `front`, and the values of the lines before it vs
  pub record Even (vs front : List ℕ) : Type 0 where
    pub at : Position r H p n
    pub count : n ≡ length front
    pub short : n ≤ 64
    pub pairs : Pairs front
    pub holds : r.holds ≡ eqb n 2
    pub back : eqb n 2 ≡ true → (H ≡ vs) × (r.held ∷ [] ≡ values_of front)
    pub out : eqb n 2 ≡ false → H ≡ vs ++ values_of front
    pub rest : (cs : List ℕ) → K cs ≡ lines r.line vs (prefix front (lines_of cs))

  -- behind half a value, its digit being h
  pub record Odd (vs front : List ℕ) (h : ℕ) : Type 0 where
    pub at : Position r H p n
    pub count : n ≡ suc (length front)
    pub short : n ≤ 63
    pub pairs : Pairs front
    pub digit : digit_of h < 16
    pub high : r.high ≡ digit_of h
    pub holds : r.holds ≡ false
    pub out : H ≡ vs ++ values_of front
    pub rest : (cs : List ℕ) → K cs ≡ lines r.line vs (prefix (front ++ h ∷ []) (lines_of cs))

  -- behind a line of one value, which began at q
  pub record Alone (q : ℕ) (vs : List ℕ) (a b : ℕ) : Type 0 where
    pub at : Position r H p n
    pub count : n ≡ 0
    pub behind : q + 3 ≡ p
    pub holds : r.holds ≡ true
    pub held : r.held ≡ digit_of a * 16 + digit_of b
    pub out : H ≡ vs
    pub rest : (cs : List ℕ) → K cs ≡ lines q vs ((a ∷ b ∷ []) ∷ lines_of cs)

  pub data Stands : Type 0 where
    even : (vs front : List ℕ) → Even vs front → Stands
    odd : (vs front : List ℕ) (h : ℕ) → Odd vs front h → Stands
    alone : (q : ℕ) (vs : List ℕ) (a b : ℕ) → Alone q vs a b → Stands

  pub position : Stands → Position r H p n
  position (even vs front e) = e.at
  position (odd vs front h o) = o.at
  position (alone q vs a b l) = l.at

-- one character on in the line: nothing is handed out, or the value v
module _ {r u : Reader} {H : List ℕ} {p n : ℕ} (at : Position r H p n) (sound : u.verdict ≡ r.verdict) (line : u.line ≡ r.line) (column : u.column ≡ r.column + 1) where
  on_kept : u.sum ≡ r.sum → Position u (H ++ []) (suc p) (suc n)
  on_kept sum =
      record {
        sound = sound ∙ at.sound;
        line = omega (arith, line, at.line);
        column = omega (arith, column, at.column);
        sum = sum ∙ at.sum ∙ ap remainder (sym (append-nil H));
      }

  on_handed : (v : ℕ) → u.sum ≡ added r.sum v → Position u (H ++ v ∷ []) (suc p) (suc n)
  on_handed v sum =
      record {
        sound = sound ∙ at.sound;
        line = omega (arith, line, at.line);
        column = omega (arith, column, at.column);
        sum = sum ∙ ap (λ (m : ℕ). added m v) at.sum ∙ sym (remainder_snoc H v);
      }

-- the text ends
module _ (r : Reader) (H : List ℕ) (p n : ℕ) (K : List ℕ → Outcome) (bound : p < 2 ^ 64) where
  end_even : (vs front : List ℕ) → Even r H p n K vs front → outcome_of H (end_of r) ≡ K []
  unfolding end_of lines_of lines
  end_even vs front e =
      let open-line : eqb r.column 0 && r.holds ≡ false = rw (e.at.column, e.holds) (no_two n) in
      rw (e.at.sound, open-line, e.rest [], prefix_line front [])
    where
      no_two : (m : ℕ) → eqb m 0 && eqb m 2 ≡ false
      no_two m = cases (eqb m 0) (λ t. rw (eqb-true m 0 t)) (λ t. rw t)

  end_odd : (vs front : List ℕ) (h : ℕ) → Odd r H p n K vs front h → outcome_of H (end_of r) ≡ K []
  unfolding end_of lines_of lines
  end_odd vs front h o =
      let column = o.at.column in
      let count = o.count in
      let inside : eqb r.column 0 ≡ false = ne_eqb r.column 0 (λ e. omega arith) in
      rw (o.at.sound, inside, o.rest [], prefix_line (front ++ h ∷ []) [])

  judged : (q : ℕ) (vs : List ℕ) → H ≡ vs → back 3 r.line ≡ q → (t : Bool)
      → outcome_of H (pick t (Ok tt) (fault WrongRemainder (back 3 r.line))) ≡ pick t (Values vs) (Wrong WrongRemainder q)
  judged q vs e b true = ap Values e
  judged q vs e b false = ap (Wrong WrongRemainder) b

  end_alone : (q : ℕ) (vs : List ℕ) (a b : ℕ) → Alone r H p n K q vs a b → outcome_of H (end_of r) ≡ K []
  unfolding end_of lines_of lines values_of sum_of remainder
  end_alone q vs a b l =
      let line = l.at.line in
      let column = l.at.column in
      let count = l.count in
      let behind = l.behind in
      let held = l.held in
      let sum : r.sum ≡ sum_of H % 255 = l.at.sum in
      let value : r.held ≡ sum_of (values_of (a ∷ b ∷ [])) = omega arith in
      let due : r.sum % 255 ≡ sum_of vs % 255 = rw (← l.out) (omega arith) in
      let start : eqb r.column 0 ≡ true = eq-eqb r.column 0 (omega arith) in
      let test : eqb r.held (r.sum % 255) ≡ eqb (sum_of (values_of (a ∷ b ∷ []))) (sum_of vs % 255) = rw (value, due) in
      let began : back 3 r.line ≡ q = omega arith in
      rw (l.at.sound, start, l.holds, l.rest [], test) (judged q vs l.out began (eqb (sum_of (values_of (a ∷ b ∷ []))) (sum_of vs % 255)))

  pub stands_end : Stands r H p n K → outcome_of H (end_of r) ≡ K []
  stands_end (even vs front e) = end_even vs front e
  stands_end (odd vs front h o) = end_odd vs front h o
  stands_end (alone q vs a b l) = end_alone q vs a b l

no_length : (l : List ℕ) → length l ≡ 0 → l ≡ []
no_length [] e = refl
no_length (x ∷ l) e = absurd (omega arith)

-- a digit that has room in its line
module _ (r : Reader) (H : List ℕ) (p n : ℕ) (K : List ℕ → Outcome) (c : ℕ) (d : digit_of c < 16) (feeds : eqb c line_feed ≡ false) (room : n < 64) where
  Moved : Stepped → Type 0
  Moved s = Stands s.reader (H ++ given_of s) (suc p) (suc n) (λ cs. K (c ∷ cs))

  module _ (vs front : List ℕ) (e : Even r H p n K vs front) where
    rest_digit : (cs : List ℕ) → K (c ∷ cs) ≡ lines r.line vs (prefix (front ++ c ∷ []) (lines_of cs))
    unfolding lines_of
    rest_digit cs = e.rest (c ∷ cs) ∙ rw (feeds, prefix_snoc front c (lines_of cs))

    first_held : eqb n 2 ≡ true → Moved (handed (begun r (digit_of c)) r.held)
    unfolding Moved
    first_held t =
        let count = e.count in
        odd vs front c
        (record {
          at = on_handed e.at refl refl refl r.held refl;
          count = omega arith;
          short = omega (arith, pairs_even e.pairs);
          pairs = e.pairs;
          digit = d;
          high = refl;
          holds = refl;
          out = rw ((e.back t).0, (e.back t).1);
          rest = rest_digit;
        })

    first_free : eqb n 2 ≡ false → Moved (kept (begun r (digit_of c)))
    unfolding Moved
    first_free t =
        let count = e.count in
        odd vs front c
        (record {
          at = on_kept e.at refl refl refl refl;
          count = omega arith;
          short = omega (arith, pairs_even e.pairs);
          pairs = e.pairs;
          digit = d;
          high = refl;
          holds = refl;
          out = append-nil H ∙ e.out t;
          rest = rest_digit;
        })

    even_digit : Moved (with_digit r (digit_of c))
    unfolding with_digit first_digit
    even_digit =
        let column = e.at.column in
        let count = e.count in
        let half = pairs_even e.pairs in
        let first : eqb (r.column % 2) 0 ≡ true = eq-eqb (r.column % 2) 0 (omega arith) in
        cases (eqb n 2)
        (λ t. subst Moved (sym (rw (first, e.holds, t))) (first_held t))
        (λ t. subst Moved (sym (rw (first, e.holds, t))) (first_free t))

  module _ (vs front : List ℕ) (h : ℕ) (o : Odd r H p n K vs front h) where
    rest_pair : (cs : List ℕ) → K (c ∷ cs) ≡ lines r.line vs (prefix (front ++ h ∷ c ∷ []) (lines_of cs))
    unfolding lines_of
    rest_pair cs =
        o.rest (c ∷ cs) ∙ rw (feeds, ← prefix_snoc (front ++ h ∷ []) c (lines_of cs), append_assoc front (h ∷ []) (c ∷ []))

    -- the value that is completed
    value : joined r.high (digit_of c) ≡ digit_of h * 16 + digit_of c
    value =
        let high = o.high in
        let digit = o.digit in
        omega arith

    longer : suc n ≡ length (front ++ h ∷ c ∷ [])
    longer =
        let count = o.count in
        simp length-append (omega arith)

    second_held : eqb r.column 1 ≡ true
        → Moved (kept (held_back r (joined r.high (digit_of c))))
    unfolding Moved values_of
    second_held t =
        let column = o.at.column in
        let one = eqb-true r.column 1 t in
        let count = o.count in
        let empty : values_of front ≡ [] = ap values_of (no_length front (omega arith)) in
        let two : eqb (suc n) 2 ≡ true = eq-eqb (suc n) 2 (omega arith) in
        even vs (front ++ h ∷ c ∷ [])
        (record {
          at = on_kept o.at refl refl (omega arith) refl;
          count = longer;
          short = omega arith;
          pairs = pairs_snoc h c o.pairs;
          holds = sym two;
          back = λ u. (append-nil H ∙ o.out ∙ rw (empty, append-nil), rw (value, values_snoc h c o.pairs, empty));
          out = λ u. cc (two, u);
          rest = rest_pair;
        })

    second_handed : eqb r.column 1 ≡ false
        → Moved (handed (completed r) (joined r.high (digit_of c)))
    unfolding Moved
    second_handed t =
        let column = o.at.column in
        let other = eqb-false r.column 1 t in
        let more-than : eqb (suc n) 2 ≡ false = ne_eqb (suc n) 2 (λ e. other (omega arith)) in
        even vs (front ++ h ∷ c ∷ [])
        (record {
          at = on_handed o.at refl refl refl (joined r.high (digit_of c)) refl;
          count = longer;
          short = omega arith;
          pairs = pairs_snoc h c o.pairs;
          holds = o.holds ∙ sym more-than;
          back = λ u. cc (u, more-than);
          out = λ u. rw (value, values_snoc h c o.pairs, o.out) (append_assoc vs (values_of front) ((digit_of h * 16 + digit_of c) ∷ []));
          rest = rest_pair;
        })

    odd_digit : Moved (with_digit r (digit_of c))
    unfolding with_digit second_digit
    odd_digit =
        let column = o.at.column in
        let count = o.count in
        let half = pairs_even o.pairs in
        let second : eqb (r.column % 2) 0 ≡ false = ne_eqb (r.column % 2) 0 (λ e. omega arith) in
        cases (eqb r.column 1)
        (λ t. subst Moved (sym (rw (second, t))) (second_held t))
        (λ t. subst Moved (sym (rw (second, t))) (second_handed t))

  module _ (q : ℕ) (vs : List ℕ) (a b : ℕ) (l : Alone r H p n K q vs a b) where
    alone_digit : Moved (with_digit r (digit_of c))
    unfolding Moved with_digit first_digit lines_of values_of prefix
    alone_digit =
        let column = l.at.column in
        let count = l.count in
        let behind = l.behind in
        let held = l.held in
        let first : eqb (r.column % 2) 0 ≡ true = eq-eqb (r.column % 2) 0 (omega arith) in
        let from : r.line ≡ q + 3 = omega arith in
        let is : with_digit r (digit_of c) ≡ handed (begun r (digit_of c)) r.held = rw (first, l.holds) in
        subst Moved (sym is)
        (odd (vs ++ values_of (a ∷ b ∷ [])) [] c
        (record {
          at = on_handed l.at refl refl refl r.held refl;
          count = omega arith;
          short = omega arith;
          pairs = none;
          digit = d;
          high = refl;
          holds = refl;
          out = rw (l.out, held, append-nil);
          rest =
              λ cs.
              l.rest (c ∷ cs) ∙ rw (feeds, lines_on q vs (a ∷ b ∷ []) (onto c (lines_of cs)) (some cs) (onto_no_end c (lines_of cs) (lines_some cs)), from);
        }))
      where
        some : (cs : List ℕ) → 0 < length (onto c (lines_of cs))
        some cs = rw (length_onto c (lines_of cs)) (lines_some cs)

  pub stands_digit : Stands r H p n K → Stands (with_digit r (digit_of c)).reader (H ++ given_of (with_digit r (digit_of c))) (suc p) (suc n) (λ cs. K (c ∷ cs))
  unfolding Moved
  stands_digit (even vs front e) = even_digit vs front e
  stands_digit (odd vs front h o) = odd_digit vs front h o
  stands_digit (alone q vs a b l) = alone_digit q vs a b l
