-- A buffer d that is written part by part from the front: `at` places of `whole` are written, `left` is still to come, and behind them
-- stands what d held. The parts are lent to whoever writes them.
use mathlib.Core.Path.{◌≡◌, refl, sym, ◌∙◌}
use mathlib.Core.List.{List, [], ◌++◌, append_assoc, append-nil}
use Prim.Native.Nat.{ℕ, ◌+◌, ◌≤◌}
use native.Mathlib.Omega.{arith}
use lib.ListN.{length, take, drop, length-append, length-take, length-drop, take-append-drop}
use lib.Seq.{take_at, drop_at, drop-drop}

module _ {A : Type 0} (d whole : List A) where
  pub record Front (at : ℕ) (left out : List A) : Type 0 where
    pub held : take at out ++ left ≡ whole
    pub kept : drop at out ≡ drop at d
    pub size : length out ≡ length d

  pub front_none : Front 0 whole d
  front_none = record { held = refl; kept = refl; size = refl }

  pub front_done : (at : ℕ) (out : List A) → Front at [] out → at ≡ length whole → out ≡ whole ++ drop (length whole) d
  front_done at out f e =
      let front : take at out ≡ whole = sym (append-nil (take at out)) ∙ f.held in
      sym (take-append-drop at out) ∙ rw (front, f.kept, e)

  pub front_more : (at n : ℕ) (part left out : List A) → Front at (part ++ left) out → length part ≡ n → at + n ≤ length d
      → Front (at + n) left (take at out ++ (part ++ drop n (drop at out)))
  front_more at n part left out f e room =
      let rest = drop n (drop at out) in
      let size : length out ≡ length d = f.size in
      let front : length (take at out ++ part) ≡ at + n = simp (length-append, length-take) (omega arith) in
      let joined : take at out ++ (part ++ rest) ≡ (take at out ++ part) ++ rest = sym (append_assoc (take at out) part rest) in
      record {
        held = rw (joined, take_at (take at out ++ part) rest (at + n) front) (append_assoc (take at out) part left ∙ f.held);
        kept = rw (joined, drop_at (take at out ++ part) rest (at + n) front, f.kept) (drop-drop n at d);
        size = rw joined (simp (length-append, length-take, length-drop) (omega arith));
      }
