-- The reader's loop: so many characters are taken and so many values written, and a call on the rest of both makes the rest of the piece.
use Rattle.std.proofs.Common.{◌≡◌, ℕ, suc, ◌+◌, ◌-◌, ◌<◌, ◌≤◌, true, false, List, [], ◌∷◌, length, get_or, drop, set, sym, ap, add-one, arith, drop_of_length-le, drop-cons, None, Some}
use native.Mathlib.Nat.{sub-zero}
use Rattle.sequence.specs.Piece.{further, Fills}
use Rattle.sequence.specs.Reading.{is_refused, next, given, step_of, reading}
use Rattle.sequence.specs.declared.reader.Reader.{Reader}
use Rattle.sequence.specs.declared.step.Stepped.{Stepped}
use Rattle.sequence.proofs.Underway.{Midway, underway_size, underway_stopped, underway_one, underway_nothing}
use Rattle.sequence.proofs.Taking.{reading_refused, reading_full, reading_more}

module _ (r₀ : Reader) (text before : List ℕ) where
  pub going_done : {r : Reader} {i w : ℕ} {out : List ℕ} → Midway reading r₀ text before r i w out → length text ≤ i → Fills (reading (length before) r₀ text) before out r (length text) w
  unfolding reading
  going_done {r} {i} {w} g all =
      let within = g.within in
      let whole : i ≡ length text = omega arith in
      rw whole at (underway_stopped (reading (length before) r₀ text) before g.under r (rw (drop_of_length-le text all)))

  module _ {r : Reader} {i w : ℕ} {out : List ℕ} (g : Midway reading r₀ text before r i w out) (more : i < length text) {s : Stepped} (is : s ≡ step_of r (get_or text i 0)) where
    pub going_refused : is_refused s.reader.verdict ≡ true → Fills (reading (length before) r₀ text) before out s.reader i w
    going_refused e =
        underway_stopped (reading (length before) r₀ text) before g.under s.reader
        (rw (drop-cons text i 0 more, is) (reading_refused _ r (get_or text i 0) _ (rw is at e)))

    behind : next r (get_or text i 0) ≡ s.reader
    behind = ap (λ (u : Stepped). u.reader) (sym is)

    module _ (sound : is_refused s.reader.verdict ≡ false) where
      -- the value that it hands out has no room
      pub going_full : (v : ℕ) → s.value ≡ Some v → length out ≤ w → Fills (reading (length before) r₀ text) before out r i w
      going_full v e full =
          let size = underway_size _ _ g.under in
          let one : given r (get_or text i 0) ≡ v ∷ [] = rw (← is, e) in
          let lacking : length before - w < length (given r (get_or text i 0)) = rw one (omega arith) in
          underway_stopped (reading (length before) r₀ text) before g.under r
          (rw (drop-cons text i 0 more) (reading_full _ r (get_or text i 0) _ (rw is at sound) lacking))

      -- it has
      pub going_value : (v : ℕ) → s.value ≡ Some v → w < length out → Midway reading r₀ text before s.reader (i + 1) (w + 1) (set out w v)
      going_value v e free =
          let size = underway_size _ _ g.under in
          let one : given r (get_or text i 0) ≡ v ∷ [] = rw (← is, e) in
          let room : length (given r (get_or text i 0)) ≤ length before - w = rw one (omega arith) in
          let left : length before - (w + 1) ≡ length before - w - 1 = omega arith in
          let rest = reading (length before - w - 1) s.reader (drop (suc i) text) in
          let on : reading (length before - w) r (get_or text i 0 ∷ drop (suc i) text) ≡ further 1 (v ∷ []) rest =
          rw (one, behind) at (reading_more (length before - w) r (get_or text i 0) (drop (suc i) text) (rw is at sound) room) in
          record {
            within = omega arith;
            under =
                rw (left, add-one i)
                (rw (add-one i) at (underway_one (reading (length before) r₀ text) before g.under 1 rest v (rw (drop-cons text i 0 more) on) (omega arith)));
          }

      -- it hands out none
      pub going_nothing : s.value ≡ None → Midway reading r₀ text before s.reader (i + 1) w out
      going_nothing e =
          let none : given r (get_or text i 0) ≡ [] = rw (← is, e) in
          let room : length (given r (get_or text i 0)) ≤ length before - w = rw none (omega arith) in
          let rest = reading (length before - w) s.reader (drop (suc i) text) in
          let on : reading (length before - w) r (get_or text i 0 ∷ drop (suc i) text) ≡ further 1 [] rest =
          rw (none, sub-zero, behind) at (reading_more (length before - w) r (get_or text i 0) (drop (suc i) text) (rw is at sound) room) in
          record {
            within = omega arith;
            under = rw add-one (rw (add-one i) at (underway_nothing (reading (length before) r₀ text) before g.under 1 rest (rw (drop-cons text i 0 more) on)));
          }
