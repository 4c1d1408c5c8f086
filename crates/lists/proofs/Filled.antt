-- A buffer d that is filled from the front with the list s of n elements: after j places it holds the first j of s and behind them what d held.
use mathlib.Core.Path.{◌≡◌, refl, ◌∙◌}
use mathlib.Core.List.{List, ◌++◌}
use Prim.Native.Nat.{ℕ, suc, ◌+◌, ◌≤◌, ◌<◌}
use native.Mathlib.Numerals.{add-one}
use native.Mathlib.Omega.{arith}
use lib.ListN.{length, get_or, take, drop, set, length-set}
use lib.Seq.{take-suc, drop-cons, set_at, take_all, append_snoc, length-take-le}

module _ {A : Type 0} (d s : List A) (n : ℕ) where
  pub record Filled (j : ℕ) (out : List A) : Type 0 where
    pub all : length s ≡ n
    pub room : n ≤ length d
    pub within : j ≤ n
    pub held : out ≡ take j s ++ drop j d
    pub size : length out ≡ length d

  pub filled_none : length s ≡ n → n ≤ length d → Filled 0 d
  filled_none all room = record { all = all; room = room; within = omega arith; held = refl; size = refl }

  -- one place more, with the element that is due there
  pub filled_more : {j : ℕ} {out : List A} {v : A} (x : A) → Filled j out → j < n → v ≡ get_or s j x → Filled (j + 1) (set out j v)
  filled_more {j} {out} {v} x f more e =
      let all = f.all in
      let room = f.room in
      let here : j < length s = omega arith in
      let there : j < length d = omega arith in
      let front : length (take j s) ≡ j = length-take-le j s (omega arith) in
      record {
        all = all;
        room = room;
        within = omega arith;
        held =
            rw (add-one, f.held, drop-cons d j x there, set_at (take j s) (get_or d j x) (drop (suc j) d) v j front, e, take-suc s j x here, append_snoc (take j s) (get_or s j x) (drop (suc j) d));
        size = length-set out j v ∙ f.size;
      }

  pub filled_all : {j : ℕ} {out : List A} → Filled j out → n ≤ j → out ≡ s ++ drop n d
  filled_all {j} {out} f h =
      let all = f.all in
      let within = f.within in
      let whole : j ≡ n = omega arith in
      f.held ∙ rw (whole, take_all n s (omega arith))
