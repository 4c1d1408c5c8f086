-- Where the value stands that was handed out last: at `last_place`, two characters of the text, which are its digits.
use Rattle.std.proofs.Common.{◌≡◌, ℕ, suc, ◌+◌, ◌-◌, ◌*◌, ◌%◌, ◌^◌, ◌<◌, ◌≤◌, Bool, true, false, ◌&&◌, eqb, leb, List, [], ◌∷◌, ◌++◌, length, get_or, sym, refl, ◌∙◌, subst, append_assoc, append-nil, arith, length-append, eq-eqb, ne_eqb, eqb-true, le-leb, leb-true, Ok}
use native.Mathlib.Decide.{dec_le}
use lib.ListN.{get_or-append}
use lib.Seq.{get_or_at}
use borrow.Author.Tests.{lt-leb}
use Rattle.words.proofs.Rows.{both}
use Rattle.words.proofs.Pick.{cases}
use Rattle.lists.specs.Run.{last}
use Rattle.sequence.specs.Limits.{line_feed, is_whole}
use Rattle.sequence.specs.Digits.{digit_of}
use Rattle.sequence.specs.Reading.{is_refused, refused, line_ended, kept, handed, begun, first_digit, held_back, completed, second_digit, joined, with_digit, step_of, next, given_of, handed_out, beginning, last_place}
use Rattle.sequence.specs.declared.reader.Refusal.{Refusal}
use Rattle.sequence.specs.declared.reader.Refusal.TheVariants.{BadCharacter, LineTooLong}
use Rattle.sequence.specs.declared.reader.Reader.{Reader}
use Rattle.sequence.specs.declared.step.Stepped.{Stepped}
use Rattle.sequence.proofs.Rows.{step_line, step_bad, step_long, step_digit}
use Rattle.sequence.proofs.Refusing.{refused_last, refused_hands}

-- the value whose digits stand at a place
abbrev pub value_at : List ℕ → ℕ → ℕ
value_at t p = digit_of (get_or t p 0) * 16 + digit_of (get_or t (suc p) 0)

abbrev pub last_of : List ℕ → ℕ
last_of vs = get_or vs (length vs - 1) 0

-- the value that was handed out last, if any was, stands k characters before n
pub record Lastly (t H : List ℕ) (n k : ℕ) : Type 0 where
  pub at : 0 < length H → (k ≤ n) × (n - k + 1 < length t) × (value_at t (n - k) ≡ last_of H)

-- whatever is read behind them, its digits stay where they are
value_stays : (t more : List ℕ) (p : ℕ) → p + 1 < length t → value_at (t ++ more) p ≡ value_at t p
value_stays t more p h = rw (get_or-append t more 0 p (omega arith), get_or-append t more 0 (suc p) (omega arith))

module _ (t : List ℕ) (c : ℕ) where
  longer : length (t ++ c ∷ []) ≡ suc (length t)
  longer = simp length-append (omega arith)

  -- the digits of a value that c completes
  value_new : (p : ℕ) → suc p ≡ length t → value_at (t ++ c ∷ []) p ≡ digit_of (get_or t p 0) * 16 + digit_of c
  value_new p e = rw (get_or-append t (c ∷ []) 0 p (omega arith), get_or_at t c [] 0 (suc p) (sym e))

  -- nothing more is handed out
  lastly_keeps : {H : List ℕ} {n k m j : ℕ} → Lastly t H n k → n + j ≡ m + k → Lastly (t ++ c ∷ []) (H ++ []) m j
  lastly_keeps {H} {n} {k} {m} {j} l e =
      record {
        at =
            λ some.
            let before = l.at (rw append-nil at some) in
            let low = before.0 in
            let high = before.1 in
            let same : m - j ≡ n - k = omega arith in (
              omega arith,
              rw (same, longer) (omega arith),
              rw (same, append-nil) (value_stays t (c ∷ []) (n - k) high ∙ before.2),
            );
      }

  -- a value is
  lastly_new : (H : List ℕ) (v n k : ℕ) → k ≤ n → n - k + 1 < suc (length t) → value_at (t ++ c ∷ []) (n - k) ≡ v → Lastly (t ++ c ∷ []) (H ++ v ∷ []) n k
  lastly_new H v n k low high is =
      let behind : length (H ++ v ∷ []) - 1 ≡ length H = simp length-append (omega arith) in
      record { at = λ some. (low, rw longer high, is ∙ sym (get_or_at H v [] 0 (length (H ++ v ∷ []) - 1) (sym behind))) }

-- what a sound reader's numbers say of the characters t that it has read, and of the values H that it has handed out
pub record Read (t : List ℕ) (r : Reader) (n : ℕ) (holds : Bool) : Type 0 where
  pub sound : r.verdict ≡ Ok tt
  pub size : r.line + n ≡ length t
  pub column : r.column ≡ n
  pub holds_is : r.holds ≡ holds

module _ (t : List ℕ) (r : Reader) (H : List ℕ) where
  pub data Form : Type 0 where
    start : Read t r 0 false → Lastly t H r.line 3 → Form
    alone : Read t r 0 true → (q : ℕ) → q + 3 ≡ r.line → r.held ≡ value_at t q → Lastly t H r.line 6 → Form
    first : Read t r 1 false → r.high ≡ digit_of (get_or t r.line 0) → digit_of (get_or t r.line 0) < 16 → Lastly t H r.line 3 → Form
    one : Read t r 2 true → r.held ≡ value_at t r.line → Lastly t H r.line 3 → Form
    odd : (n : ℕ) → Read t r n false → 3 ≤ n → n % 2 ≡ 1 → (q : ℕ) → suc q ≡ length t → r.high ≡ digit_of (get_or t q 0) → digit_of (get_or t q 0) < 16 → Lastly t H (r.line + n) 3 → Form
    even : (n : ℕ) → Read t r n false → 4 ≤ n → n % 2 ≡ 0 → Lastly t H (r.line + n) 2 → Form

  form_sound : Form → r.verdict ≡ Ok tt
  form_sound (start a l) = a.sound
  form_sound (alone a q e h l) = a.sound
  form_sound (first a h d l) = a.sound
  form_sound (one a h l) = a.sound
  form_sound (odd n a b o q e h d l) = a.sound
  form_sound (even n a b o l) = a.sound

-- a digit
module _ (t : List ℕ) (r : Reader) (H : List ℕ) (c : ℕ) (d : digit_of c < 16) where
  Next : Stepped → Type 0
  Next s = Form (t ++ c ∷ []) s.reader (H ++ given_of s)

  is_first : (n : ℕ) (b : Bool) → Read t r n b → n % 2 ≡ 0 → eqb (r.column % 2) 0 ≡ true
  is_first n b a e =
      let column = a.column in
      eq-eqb (r.column % 2) 0 (omega arith)

  is_second : (n : ℕ) (b : Bool) → Read t r n b → n % 2 ≡ 1 → eqb (r.column % 2) 0 ≡ false
  is_second n b a e =
      let column = a.column in
      ne_eqb (r.column % 2) 0 (λ z. omega arith)

  on : (n : ℕ) (b h : Bool) (s : Reader) → Read t r n b → s.verdict ≡ r.verdict → s.line ≡ r.line → s.column ≡ suc n → s.holds ≡ h → Read (t ++ c ∷ []) s (suc n) h
  on n b h s a v l k o =
      let size = a.size in
      record { sound = v ∙ a.sound; size = rw (l, longer t c) (omega arith); column = k; holds_is = o }

  -- the last character of what was read is c
  here : (p : ℕ) → p ≡ length t → get_or (t ++ c ∷ []) p 0 ≡ c
  here p e = get_or_at t c [] 0 p (sym e)

  from_start : Read t r 0 false → Lastly t H r.line 3 → Next (with_digit r (digit_of c))
  unfolding Next with_digit first_digit
  from_start a l =
      let size = a.size in
      let column = a.column in
      let is : with_digit r (digit_of c) ≡ kept (begun r (digit_of c)) = rw (is_first 0 false a refl, a.holds_is) in
      let mine = here r.line (omega arith) in
      subst Next (sym is) (first (on 0 false false (begun r (digit_of c)) a refl refl (omega arith) refl) (rw mine) (rw mine d) (lastly_keeps t c l (omega arith)))

  from_alone : Read t r 0 true → (q : ℕ) → q + 3 ≡ r.line → r.held ≡ value_at t q → Next (with_digit r (digit_of c))
  unfolding Next with_digit first_digit
  from_alone a q e h =
      let size = a.size in
      let column = a.column in
      let is : with_digit r (digit_of c) ≡ handed (begun r (digit_of c)) r.held = rw (is_first 0 true a refl, a.holds_is) in
      let mine = here r.line (omega arith) in
      let spot : r.line - 3 ≡ q = omega arith in
      subst Next (sym is)
      (first (on 0 true false (handed (begun r (digit_of c)) r.held).reader a refl refl (omega arith) refl) (rw mine) (rw mine d)
      (lastly_new t c H r.held r.line 3 (omega arith) (omega arith) (rw spot (value_stays t (c ∷ []) q (omega arith) ∙ sym h))))

  from_first : Read t r 1 false → r.high ≡ digit_of (get_or t r.line 0) → digit_of (get_or t r.line 0) < 16 → Lastly t H r.line 3 → Next (with_digit r (digit_of c))
  unfolding Next with_digit second_digit
  from_first a h small l =
      let size = a.size in
      let column = a.column in
      let is : with_digit r (digit_of c) ≡ kept (held_back r (joined r.high (digit_of c))) = rw (is_second 1 false a refl, eq-eqb r.column 1 column) in
      let value : joined r.high (digit_of c) ≡ digit_of (get_or t r.line 0) * 16 + digit_of c = omega arith in
      subst Next (sym is)
      (one (on 1 false true (held_back r (joined r.high (digit_of c))) a refl refl refl refl) (value ∙ sym (value_new t c r.line (omega arith))) (lastly_keeps t c l (omega arith)))

  from_one : Read t r 2 true → r.held ≡ value_at t r.line → Next (with_digit r (digit_of c))
  unfolding Next with_digit first_digit
  from_one a h =
      let size = a.size in
      let column = a.column in
      let is : with_digit r (digit_of c) ≡ handed (begun r (digit_of c)) r.held = rw (is_first 2 true a refl, a.holds_is) in
      let mine = here (length t) refl in
      let spot : r.line + 3 - 3 ≡ r.line = omega arith in
      subst Next (sym is)
      (odd 3 (on 2 true false (handed (begun r (digit_of c)) r.held).reader a refl refl (omega arith) refl) (omega arith) refl (length t) (sym (longer t c)) (rw mine) (rw mine d)
      (lastly_new t c H r.held (r.line + 3) 3 (omega arith) (omega arith) (rw spot (value_stays t (c ∷ []) r.line (omega arith) ∙ sym h))))

  from_odd : (n : ℕ) → Read t r n false → 3 ≤ n → n % 2 ≡ 1 → (q : ℕ) → suc q ≡ length t → r.high ≡ digit_of (get_or t q 0) → digit_of (get_or t q 0) < 16 → Next (with_digit r (digit_of c))
  unfolding Next with_digit second_digit
  from_odd n a three half q e h small =
      let size = a.size in
      let column = a.column in
      let is : with_digit r (digit_of c) ≡ handed (completed r) (joined r.high (digit_of c)) = rw (is_second n false a half, ne_eqb r.column 1 (λ z. omega arith)) in
      let value : joined r.high (digit_of c) ≡ digit_of (get_or t q 0) * 16 + digit_of c = omega arith in
      let spot : r.line + suc n - 2 ≡ q = omega arith in
      subst Next (sym is)
      (even (suc n) (on n false false (handed (completed r) (joined r.high (digit_of c))).reader a refl refl (omega arith) a.holds_is) (omega arith) (omega arith)
      (lastly_new t c H (joined r.high (digit_of c)) (r.line + suc n) 2 (omega arith) (omega arith) (rw spot (value_new t c q e ∙ sym value))))

  from_even : (n : ℕ) → Read t r n false → 4 ≤ n → n % 2 ≡ 0 → Lastly t H (r.line + n) 2 → Next (with_digit r (digit_of c))
  unfolding Next with_digit first_digit
  from_even n a four half l =
      let size = a.size in
      let column = a.column in
      let is : with_digit r (digit_of c) ≡ kept (begun r (digit_of c)) = rw (is_first n false a half, a.holds_is) in
      let mine = here (length t) refl in
      subst Next (sym is)
      (odd (suc n) (on n false false (begun r (digit_of c)) a refl refl (omega arith) refl) (omega arith) (omega arith) (length t) (sym (longer t c)) (rw mine) (rw mine d) (lastly_keeps t c l (omega arith)))

  form_digit : Form t r H → Form (t ++ c ∷ []) (with_digit r (digit_of c)).reader (H ++ given_of (with_digit r (digit_of c)))
  unfolding Next
  form_digit (start a l) = from_start a l
  form_digit (alone a q e h l) = from_alone a q e h
  form_digit (first a h small l) = from_first a h small l
  form_digit (one a h l) = from_one a h
  form_digit (odd n a three half q e h small l) = from_odd n a three half q e h small
  form_digit (even n a four half l) = from_even n a four half l

-- a line feed behind whole values
module _ (t : List ℕ) (r : Reader) (H : List ℕ) (c : ℕ) (whole : is_whole r.column ≡ true) (bound : suc (length t) < 2 ^ 64) where
  two_or_more : 2 ≤ r.column
  two_or_more = leb-true 2 r.column (both (eqb (r.column % 2) 0) (leb 2 r.column) whole).1

  is_even : r.column % 2 ≡ 0
  is_even = eqb-true (r.column % 2) 0 (both (eqb (r.column % 2) 0) (leb 2 r.column) whole).0

  ended : (n : ℕ) (b : Bool) → Read t r n b → Read (t ++ c ∷ []) (line_ended r) 0 b
  ended n b a =
      let size = a.size in
      let column = a.column in
      record { sound = a.sound; size = rw (longer t c) (omega arith); column = refl; holds_is = a.holds_is }

  -- where the next line starts
  starts : (n : ℕ) (b : Bool) → Read t r n b → (line_ended r).line ≡ suc (r.line + n)
  starts n b a =
      let size = a.size in
      let column = a.column in
      omega arith

  form_line : Form t r H → Form (t ++ c ∷ []) (line_ended r) (H ++ [])
  form_line (start a l) = absurd (let column = a.column in let some = two_or_more in omega arith)
  form_line (alone a q e h l) = absurd (let column = a.column in let some = two_or_more in omega arith)
  form_line (first a h small l) = absurd (let column = a.column in let some = two_or_more in omega arith)
  form_line (one a h l) =
      let size = a.size in
      let next-line = starts 2 true a in
      alone (ended 2 true a) r.line (omega arith) (h ∙ sym (value_stays t (c ∷ []) r.line (omega arith))) (lastly_keeps t c l (omega arith))
  form_line (odd n a three half q e h small l) = absurd (let column = a.column in let half-too = is_even in omega arith)
  form_line (even n a four half l) =
      let next-line = starts n false a in
      start (ended n false a) (lastly_keeps t c l (omega arith))

-- the value that was handed out last, if any was, stands where `last_place` says
Stands : List ℕ → Reader → List ℕ → Type 0
Stands t r H = 0 < length H → (last_place r + 1 < length t) × (value_at t (last_place r) ≡ last_of H)

module _ (t : List ℕ) (r : Reader) (H : List ℕ) (bound : length t < 2 ^ 64) where
  -- at n - k, which is where it stands
  stands_at : (n k : ℕ) → Lastly t H n k → (k ≤ n → n - k + 1 < length t → last_place r ≡ n - k) → Stands t r H
  unfolding Stands
  stands_at n k l is some =
      let at = l.at some in
      rw (is at.0 at.1) (at.1, at.2)

  -- in the first columns it stands before the line
  before : (n : ℕ) (b : Bool) → Read t r n b → n ≤ 2 → eqb r.column 0 && r.holds ≡ false → Lastly t H r.line 3 → Stands t r H
  unfolding last_place
  before n b a few none l =
      let size = a.size in
      let column = a.column in
      stands_at r.line 3 l (λ low high. rw (lt-leb 3 r.column (omega arith), none) (omega arith))

  behind : (n k : ℕ) (b : Bool) → Read t r n b → 3 ≤ n → 2 + n % 2 ≡ k → Lastly t H (r.line + n) k → Stands t r H
  unfolding last_place
  behind n k b a three half l =
      let size = a.size in
      let column = a.column in
      stands_at (r.line + n) k l (λ low high. rw (le-leb 3 r.column (omega arith)) (omega arith))

  stands : Form t r H → Stands t r H
  unfolding last_place
  stands (start a l) = before 0 false a (omega arith) (rw (a.column, a.holds_is)) l
  stands (alone a q e h l) =
      let size = a.size in
      let column = a.column in
      stands_at r.line 6 l (λ low high. rw (lt-leb 3 r.column (omega arith), eq-eqb r.column 0 column, a.holds_is) (omega arith))
  stands (first a h small l) = before 1 false a (omega arith) (rw a.column) l
  stands (one a h l) = before 2 true a (omega arith) (rw a.column) l
  stands (odd n a three half q e h small l) = behind n 3 false a three (omega arith) l
  stands (even n a four half l) = behind n 2 false a (omega arith) (omega arith) l

module _ (t : List ℕ) (r : Reader) (H : List ℕ) (c : ℕ) (cs : List ℕ) (f : Form t r H) (bound : suc (length t) < 2 ^ 64) where
  Further : Stepped → Type 0
  Further s = Stands (t ++ c ∷ cs) (last next s.reader cs) (H ++ (given_of s ++ handed_out s.reader cs))

  sound : is_refused r.verdict ≡ false
  sound = rw (form_sound t r H f)

  -- a refused reader keeps what the place is told by
  further_refused : (why : Refusal) → Further (kept (refused r why))
  unfolding Further Stands last_place
  further_refused why =
      rw (refused_last (refused r why) refl cs, refused_hands (refused r why) refl cs, append-nil)
      (λ some.
      let at = stands t r H (omega arith) f some in
      (rw length-append (omega (arith, at.0)), value_stays t (c ∷ cs) (last_place r) at.0 ∙ at.1))

  -- the rest, from the form that a step leaves
  further_on : (s : Stepped) → Stands ((t ++ c ∷ []) ++ cs) (last next s.reader cs) ((H ++ given_of s) ++ handed_out s.reader cs) → Further s
  unfolding Further
  further_on s later = rw (append_assoc t (c ∷ []) cs, append_assoc H (given_of s) (handed_out s.reader cs)) at later

  by_line : eqb c line_feed && is_whole r.column ≡ true → ((g : Form (t ++ c ∷ []) (line_ended r) (H ++ [])) → Stands ((t ++ c ∷ []) ++ cs) (last next (line_ended r) cs) ((H ++ []) ++ handed_out (line_ended r) cs))
      → Further (step_of r c)
  by_line e later =
      let whole = (both (eqb c line_feed) (is_whole r.column) e).1 in
      subst Further (sym (step_line r c sound e)) (further_on (kept (line_ended r)) (later (form_line t r H c whole bound f)))

  by_character : eqb c line_feed && is_whole r.column ≡ false → Dec (16 ≤ digit_of c) → Dec (64 ≤ r.column)
      → ((g : Form (t ++ c ∷ []) (with_digit r (digit_of c)).reader (H ++ given_of (with_digit r (digit_of c)))) → Stands ((t ++ c ∷ []) ++ cs) (last next (with_digit r (digit_of c)).reader cs) ((H ++ given_of (with_digit r (digit_of c))) ++ handed_out (with_digit r (digit_of c)).reader cs))
      → Further (step_of r c)
  by_character e (yes bad) long later = subst Further (sym (step_bad r c sound e bad)) (further_refused BadCharacter)
  by_character e (no digit) (yes long) later = subst Further (sym (step_long r c sound e (omega arith) long)) (further_refused LineTooLong)
  by_character e (no digit) (no short) later =
      let d : digit_of c < 16 = omega arith in
      subst Further (sym (step_digit r c sound e d (omega arith))) (further_on (with_digit r (digit_of c)) (later (form_digit t r H c d f)))

stands_behind : (cs t : List ℕ) (r : Reader) (H : List ℕ) → Form t r H → length t + length cs < 2 ^ 64 → Stands (t ++ cs) (last next r cs) (H ++ handed_out r cs)
unfolding last handed_out Further
stands_behind [] t r H f bound = rw (append-nil t, append-nil H) (stands t r H (omega arith) f)
stands_behind (c ∷ cs) t r H f bound =
    let more = longer t c in
    cases (eqb c line_feed && is_whole r.column)
    (λ e. by_line t r H c cs f (omega arith) e (λ g. stands_behind cs (t ++ c ∷ []) (line_ended r) (H ++ []) g (omega arith)))
    (λ e. by_character t r H c cs f (omega arith) e (dec_le 16 (digit_of c)) (dec_le 64 r.column) (λ g. stands_behind cs (t ++ c ∷ []) (with_digit r (digit_of c)).reader (H ++ given_of (with_digit r (digit_of c))) g (omega arith)))

begins : Form [] beginning []
begins = start (record { sound = refl; size = refl; column = refl; holds_is = refl }) (record { at = λ some. absurd (omega arith) })

-- the value that was handed out last stands where `last_place` says, also where the text was refused behind it
pub last_place_right : (text : List ℕ) → length text < 2 ^ 64 → 0 < length (handed_out beginning text)
    → value_at text (last_place (last next beginning text)) ≡ last_of (handed_out beginning text)
unfolding Stands
last_place_right text bound some = (stands_behind text [] beginning [] begins (omega arith) some).1
