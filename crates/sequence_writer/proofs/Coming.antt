-- What is still to come from a writer, whatever writer it is, if some values are still to be handed in and the end is said behind them: each character is the
-- first of it, a call makes its part of it, and the end's being said changes nothing of it.
use Rattle.std.proofs.Common.{◌≡◌, ℕ, zero, suc, ◌+◌, ◌-◌, ◌/◌, ◌%◌, ◌<◌, ◌≤◌, Bool, true, false, not, ◌&&◌, ◌||◌, eqb, ltb, leb, List, [], ◌∷◌, ◌++◌, length, get_or, take, drop, sym, refl, ap, ◌∙◌, true≢false, add-zero, arith, drop-drop, ltb-true, lt-ltb, eq-eqb, ne_eqb, eqb-true, le-leb, leb-false, leb-true}
use mathlib.Core.Bool.{or-false, false≢true}
use native.Mathlib.Nat.{sub-zero, zero-sub, suc-sub-suc}
use lib.Seq.{take-nil}
use borrow.Author.Tests.{eqb-false, not-false, lt-leb}
use Rattle.words.specs.Notation.{◌when◌∣◌}
use Rattle.words.proofs.Pick.{cases}
use Rattle.words.proofs.Rows.{both}
use Rattle.sequence.specs.Limits.{line_feed, longest, added}
use Rattle.sequence.specs.Piece.{stop, further}
use Rattle.sequence.specs.Text.{sum_of}
use Rattle.sequence_writer.specs.Layout.{capital, line_of}
use Rattle.sequence_writer.specs.Writing.{is_done, awaits, ends_line, closing, next_of, taken_by, writing}
use Rattle.sequence_writer.specs.declared.Stage.{Stage}
use Rattle.sequence_writer.specs.declared.Stage.TheVariants.{Values, Closing, Remainder, Done}
use Rattle.sequence_writer.specs.declared.Writer.{Writer}
use Rattle.sequence_writer.proofs.Laying.{writing_stop, writing_more}

-- values behind n characters of a line, n being even, and the end of a line that is open
unfoldable pub laid : ℕ → List ℕ → List ℕ
laid n [] = [] when eqb n 0 ∣ line_feed ∷ []
laid n (v ∷ vs) = line_feed ∷ capital (v / 16) ∷ capital (v % 16) ∷ laid 2 vs when leb longest n ∣ capital (v / 16) ∷ capital (v % 16) ∷ laid (n + 2) vs

-- from an even column on, behind values of that sum
unfoldable pub coming_from : Stage → ℕ → ℕ → List ℕ → List ℕ
coming_from Values n sum vs = laid n vs ++ line_of ((sum + sum_of vs) % 255 ∷ [])
coming_from Closing n sum vs = laid n [] ++ line_of (sum % 255 ∷ [])
coming_from Remainder n sum vs = line_feed ∷ []
coming_from Done n sum vs = []

unfoldable pub coming : Writer → List ℕ → List ℕ
coming w vs =
    [] when is_done w.stage
    ∣ capital (w.value % 16) ∷ coming_from w.stage ((w.column + 1) % 256) w.sum vs when eqb (w.column % 2) 1
    ∣ coming_from w.stage w.column w.sum vs

-- a line that is full, or behind which no value follows, is ended
pub laid_feed : (n : ℕ) (vs : List ℕ) → 0 < n → (0 < length vs → longest ≤ n) → laid n vs ≡ line_feed ∷ laid 0 vs
unfolding laid
laid_feed n [] some full = rw (ne_eqb n 0 (λ e. omega arith))
laid_feed n (v ∷ vs) some full = rw (le-leb longest n (full (omega arith)))

pub laid_more : (n v : ℕ) (vs : List ℕ) → n < longest → laid n (v ∷ vs) ≡ capital (v / 16) ∷ capital (v % 16) ∷ laid (n + 2) vs
unfolding laid
laid_more n v vs room = rw (lt-leb longest n room)

neither : (t u : Bool) → t || u ≡ false → (t ≡ false) × (u ≡ false)
neither true u e = absurd (true≢false e)
neither false u e = (refl, e)

-- a line that is ended behind the last value is open, and one that is not is not
opened : (n : ℕ) → leb longest n || not (eqb n 0) ≡ true → 0 < n
opened zero e = absurd (false≢true e)
opened (suc n) e = omega arith

unopened : (n : ℕ) → leb longest n || not (eqb n 0) ≡ false → n ≡ 0
unopened n e = eqb-true n 0 (not-false (eqb n 0) (neither (leb longest n) (not (eqb n 0)) e).1)

-- whatever value is handed in, the next character is the first of what is to come, and from the writer behind it the rest is
abbrev Comes : Writer → Type 0
Comes w = (v : ℕ) (vs : List ℕ) → coming w vs ≡ (next_of w v).character ∷ coming (next_of w v).writer vs

-- the second digit of a value is due
second_comes : (w : Writer) → is_done w.stage ≡ false → eqb (w.column % 2) 1 ≡ true → Comes w
unfolding coming next_of
second_comes w going odd v vs =
    let behind : eqb ((w.column + 1) % 256 % 2) 1 ≡ false = ne_eqb ((w.column + 1) % 256 % 2) 1 (λ e. omega (arith, eqb-true (w.column % 2) 1 odd)) in
    rw (odd, going, behind)

abbrev in_stage : ℕ → ℕ → ℕ → Stage → Writer
in_stage column value sum s = record { stage = s; column = column; value = value; sum = sum }

module _ (column value sum : ℕ) (even : eqb (column % 2) 1 ≡ false) where
  -- a line feed is due
  feed_comes : (s : Stage) → is_done s ≡ false → ends_line (in_stage column value sum s) ≡ true → Comes (in_stage column value sum s)
  unfolding coming next_of coming_from laid
  feed_comes Values going ends v vs =
      let full = leb-true longest column (rw or-false at ends) in
      rw (even, ends, laid_feed column vs (omega arith) (λ h. full))
  feed_comes Closing going ends v vs = rw (even, ends, laid_feed column [] (opened column ends) (λ h. absurd (omega arith)))
  feed_comes Remainder going ends v vs = rw even
  feed_comes Done going ends v vs = absurd (true≢false going)

  -- the remainder is due
  remainder_comes : (s : Stage) → is_done s ≡ false → ends_line (in_stage column value sum s) ≡ false → awaits (in_stage column value sum s) ≡ false → Comes (in_stage column value sum s)
  unfolding coming next_of coming_from laid line_of
  remainder_comes Values going ends waits v vs =
      let room = leb-false longest column (rw or-false at ends) in
      let first : awaits (in_stage column value sum Values) ≡ true = rw (eq-eqb (column % 2) 0 (omega (arith, eqb-false (column % 2) 1 even)), lt-ltb column longest room) in
      absurd (true≢false (sym first ∙ waits))
  remainder_comes Closing going ends waits v vs = rw (unopened column ends)
  remainder_comes Remainder going ends waits v vs = absurd (true≢false ends)
  remainder_comes Done going ends waits v vs = absurd (true≢false going)

-- the first digit of a value that is still to be handed in is due
module _ (column value sum v : ℕ) (vs : List ℕ) where
  sum_comes : (sum + sum_of (v ∷ vs)) % 255 ≡ (added sum v + sum_of vs) % 255
  unfolding sum_of
  sum_comes = omega arith

  first_comes : (s : Stage) → let w = in_stage column value sum s in awaits w ≡ true → coming w (v ∷ vs) ≡ (next_of w v).character ∷ coming (next_of w v).writer vs
  unfolding coming next_of coming_from
  first_comes Values waits =
      let tests = both (eqb (column % 2) 0) (ltb column longest) waits in
      let even = eqb-true (column % 2) 0 tests.0 in
      let room = ltb-true column longest tests.1 in
      let second : (column + 1) % 256 ≡ column + 1 = omega arith in
      let behind : (column + 1 + 1) % 256 ≡ column + 2 = omega arith in
      rw (ne_eqb (column % 2) 1 (λ e. omega arith), lt-leb longest column room, tests.0, tests.1, laid_more column v vs room)
      (rw (second, eq-eqb ((column + 1) % 2) 1 (omega arith), behind, sum_comes))
  first_comes Closing waits = absurd (false≢true waits)
  first_comes Remainder waits = absurd (false≢true waits)
  first_comes Done waits = absurd (false≢true waits)

module _ (w : Writer) where
  other_comes : is_done w.stage ≡ false → awaits w ≡ false → Comes w
  other_comes going waits =
      cases (eqb (w.column % 2) 1) (λ odd. second_comes w going odd) (λ even. cases (ends_line w)
      (λ ends. feed_comes w.column w.value w.sum even w.stage going ends)
      (λ ends. remainder_comes w.column w.value w.sum even w.stage going ends waits))

  -- so many of the values are offered
  value_comes : (n : ℕ) (vs : List ℕ) → awaits w ≡ true → eqb (length (take n vs)) 0 ≡ false
      → coming w vs ≡ (next_of w (get_or (take n vs) 0 0)).character ∷ coming (next_of w (get_or (take n vs) 0 0)).writer (drop (taken_by w) vs)
  value_comes zero vs waits some = absurd (true≢false some)
  value_comes (suc n) [] waits some = absurd (true≢false some)
  value_comes (suc n) (v ∷ vs) waits some = rw waits (first_comes w.column w.value w.sum v vs w.stage waits)

  next_comes : (n : ℕ) (vs : List ℕ) → is_done w.stage || (awaits w && eqb (length (take n vs)) 0) ≡ false
      → coming w vs ≡ (next_of w (get_or (take n vs) 0 0)).character ∷ coming (next_of w (get_or (take n vs) 0 0)).writer (drop (taken_by w) vs)
  next_comes n vs e =
      let due = neither (is_done w.stage) (awaits w && eqb (length (take n vs)) 0) e in
      cases (awaits w) (λ waits. value_comes n vs waits (rw waits at due.1)) (λ waits. rw waits (other_comes due.0 waits (get_or (take n vs) 0 0) vs))

drop_of_take : (k n : ℕ) (xs : List ℕ) → drop k (take n xs) ≡ take (n - k) (drop k xs)
drop_of_take zero n xs = rw sub-zero
drop_of_take (suc k) zero xs = rw zero-sub
drop_of_take (suc k) (suc n) [] = rw take-nil
drop_of_take (suc k) (suc n) (x ∷ xs) = rw suc-sub-suc (drop_of_take k n xs)

pub writing_makes : (room n : ℕ) (w : Writer) (vs : List ℕ)
    → coming w vs ≡ (writing room w (take n vs)).made ++ coming (writing room w (take n vs)).state (drop (writing room w (take n vs)).taken vs)
unfolding writing stop further
writing_makes zero n w vs = refl
writing_makes (suc room) n w vs =
    let next = next_of w (get_or (take n vs) 0 0) in
    let left = drop (taken_by w) vs in
    let p = writing room next.writer (take (n - taken_by w) left) in
    cases (is_done w.stage || (awaits w && eqb (length (take n vs)) 0)) (λ e. rw (writing_stop room w (take n vs) e))
    (λ e. rw (writing_more room w (take n vs) e, drop_of_take (taken_by w) n vs)
    (next_comes w n vs e
    ∙ ap (λ (l : List ℕ). next.character ∷ l) (writing_makes room (n - taken_by w) next.writer left)
    ∙ ap (λ (l : List ℕ). next.character ∷ p.made ++ coming p.state l) (drop-drop p.taken (taken_by w) vs)))

-- the end is said
closed_comes : (column value sum : ℕ) (s : Stage) → coming (closing (in_stage column value sum s)) [] ≡ coming (in_stage column value sum s) []
unfolding coming coming_from sum_of
closed_comes column value sum Values = rw add-zero
closed_comes column value sum Closing = refl
closed_comes column value sum Remainder = refl
closed_comes column value sum Done = refl

pub closing_comes : (w : Writer) → coming (closing w) [] ≡ coming w []
closing_comes w = closed_comes w.column w.value w.sum w.stage

pub done_comes : (w : Writer) (vs : List ℕ) → is_done w.stage ≡ true → coming w vs ≡ []
unfolding coming
done_comes w vs done = rw done
