-- The writer's loop: so many values are taken and so many characters written, and a call on the rest of both makes the rest of the piece.
use Rattle.std.proofs.Common.{◌≡◌, ℕ, suc, ◌+◌, ◌-◌, ◌<◌, ◌≤◌, Bool, true, false, not, ◌&&◌, ◌||◌, eqb, ltb, List, [], ◌∷◌, length, get_or, drop, set, refl, sym, ap, ◌∙◌, add-zero, arith, length-drop, get_or-drop, drop-drop, Option, None, Some, is_some, unwrap_or}
use Rattle.std.proofs.lemmas.Bool.Decides.{nat_tests}
use Rattle.std.specs.Option.{option_copied}
use Rattle.std.specs.Slice.{IsItemAt}
use denote.Ref.{Bor}
use mir.Val.{bool_byte}
use Rattle.words.specs.Notation.{pick}
use Rattle.sequence.specs.Piece.{stop, further, Fills}
use Rattle.sequence_writer.specs.Writing.{is_done, awaits, next_of, due_of, taken_by, writing}
use Rattle.sequence_writer.specs.declared.Writer.{Writer}
use Rattle.sequence_writer.specs.declared.Written.{Written}
use Rattle.sequence.proofs.Underway.{Midway, underway_size, underway_stopped, underway_one}

module _ (room : ℕ) (w : Writer) (vs : List ℕ) where
  pub writing_stop : is_done w.stage || (awaits w && eqb (length vs) 0) ≡ true → writing (suc room) w vs ≡ stop w
  unfolding writing
  writing_stop e = rw e

  pub writing_more : is_done w.stage || (awaits w && eqb (length vs) 0) ≡ false
      → writing (suc room) w vs ≡ further (taken_by w) ((next_of w (get_or vs 0 0)).character ∷ []) (writing room (next_of w (get_or vs 0 0)).writer (drop (taken_by w) vs))
  unfolding writing
  writing_more e = rw e

-- no value is left
spent : (values : List ℕ) (i : ℕ) → not (ltb i (length values)) ≡ eqb (length (drop i values)) 0
spent values i = rw length-drop (grind (arith, nat_tests))

-- the look-up of the next value gives it where it is there
looked_up : (values : List ℕ) (i : ℕ) (g : Option (Bor ℕ)) → IsItemAt values i g → (is_some (option_copied g) ≡ ltb i (length values)) × (unwrap_or (option_copied g) 0 ≡ get_or values i 0)
looked_up values i None look = (look.0, look.4 (omega arith) 0)
looked_up values i (Some x) look = (look.0, look.4 (omega arith) 0)

-- a test as the number that the code adds
pub as_number : (t : Bool) → bool_byte t ≡ pick t 1 0
as_number true = refl
as_number false = refl

-- a value that is taken is one of those that there are
reached : (done needs : Bool) (n i : ℕ) → i ≤ n → done || (needs && not (ltb i n)) ≡ false → i + pick needs 1 0 ≤ n
reached true needs n i h e = cc e
reached false true n i h e = grind (arith, nat_tests)
reached false false n i h e = omega arith

-- what is due by a test
none_due : (t : Bool) (s : Written) → pick t None (Some s) ≡ None → t ≡ true
none_due true s e = refl
none_due false s e = cc e

some_due : (t : Bool) (s s' : Written) → pick t None (Some s) ≡ Some s' → (t ≡ false) × (s' ≡ s)
some_due true s s' e = cc e
some_due false s s' e = (refl, cc e)

module _ (w₀ : Writer) (values before : List ℕ) where
  pub laying_full : {w : Writer} {i n : ℕ} {out : List ℕ} → Midway writing w₀ values before w i n out → length before ≤ n → Fills (writing (length before) w₀ values) before out w i (length out)
  unfolding writing
  laying_full {w} {i} {n} {out} l full =
      let size = underway_size (writing (length before) w₀ values) before l.under in
      let within = l.under.within in
      let none : length before - n ≡ 0 = omega arith in
      let whole : n ≡ length out = omega arith in
      rw whole at (underway_stopped (writing (length before) w₀ values) before l.under w (rw none))

  -- v is what the look-up of the next value gives
  module _ {w : Writer} {i n : ℕ} {out : List ℕ} (l : Midway writing w₀ values before w i n out) (more : n < length before)
      (g : Option (Bor ℕ)) (look : IsItemAt values i g) (v : Option ℕ) (copied : v ≡ option_copied g) where
    there : is_some v ≡ ltb i (length values)
    there = rw copied (looked_up values i g look).0

    value : unwrap_or v 0 ≡ get_or values i 0
    value = rw copied (looked_up values i g look).1

    room : length before - n ≡ suc (length before - (n + 1))
    room = omega arith

    test : is_done w.stage || (awaits w && not (is_some v)) ≡ (is_done w.stage || (awaits w && eqb (length (drop i values)) 0))
    test = rw (there, spent values i)

    pub laying_stopped : due_of w v ≡ None → Fills (writing (length before) w₀ values) before out w i n
    laying_stopped e =
        underway_stopped (writing (length before) w₀ values) before l.under w (rw room (writing_stop (length before - (n + 1)) w (drop i values) (sym test ∙ none_due _ _ e)))

    pub laying_more : {s : Written} → due_of w v ≡ Some s → {t : ℕ} → t ≡ taken_by w → Midway writing w₀ values before s.writer (i + t) (n + 1) (set out n s.character)
    laying_more {s} e {t} by =
        let due = some_due (is_done w.stage || (awaits w && not (is_some v))) _ _ e in
        let is : s ≡ next_of w (get_or values i 0) = due.1 ∙ ap (next_of w) value in
        let here : get_or (drop i values) 0 0 ≡ get_or values i 0 = get_or-drop i values 0 0 ∙ ap (λ (k : ℕ). get_or values k 0) (add-zero i) in
        let rest = writing (length before - (n + 1)) s.writer (drop (i + t) values) in
        let on : writing (length before - n) w (drop i values) ≡ further t (s.character ∷ []) rest =
        rw (room, is, by, ← here, ← drop-drop (taken_by w) i values) (writing_more (length before - (n + 1)) w (drop i values) (sym test ∙ due.0)) in
        record {
          within = rw by (reached (is_done w.stage) (awaits w) (length values) i l.within (rw there at due.0));
          under = underway_one (writing (length before) w₀ values) before l.under t rest _ on (omega arith);
        }
