-- A loop that runs a step over a list, by what is left: at place i it is in state t, and the run of the rest from t is the whole run from s.
use mathlib.Core.Path.{◌≡◌, refl, sym, ap, ◌∙◌}
use mathlib.Core.List.{List, ◌∷◌}
use Prim.Native.Nat.{ℕ, suc, ◌+◌, ◌≤◌, ◌<◌}
use native.Mathlib.Nat.{add_assoc, add-zero}
use native.Mathlib.Numerals.{add-one}
use native.Mathlib.Omega.{arith}
use lib.ListN.{length, get_or, drop, drop_of_length-le}
use lib.Seq.{drop-cons}
use Rattle.lists.specs.Run.{last, outs, total}
use Rattle.lists.proofs.Runs.{last_next, outs_next, total_next, outs_length}

module _ {S A : Type 0} (next : S → A → S) (s : S) (xs : List A) where
  pub record Running (i : ℕ) (t : S) : Type 0 where
    pub ends : last next t (drop i xs) ≡ last next s xs

  pub running_none : Running 0 s
  running_none = record { ends = refl }

  pub running_more : {i : ℕ} {t : S} (d : A) → Running i t → i < length xs → Running (i + 1) (next t (get_or xs i d))
  running_more {i} {t} d r h = record { ends = rw add-one (sym (last_next next t xs i d h) ∙ r.ends) }

  pub running_done : {i : ℕ} {t : S} → Running i t → length xs ≤ i → t ≡ last next s xs
  unfolding last
  running_done {i} {t} r h = rw (drop_of_length-le xs h) at r.ends

  -- what the step puts out on the way
  module _ {B : Type 0} (f : S → A → B) where
    pub record Putting (i : ℕ) (t : S) : Type 0 where
      pub rest : outs next f t (drop i xs) ≡ drop i (outs next f s xs)

    pub putting_none : Putting 0 s
    putting_none = record { rest = refl }

    module _ {i : ℕ} {t : S} (d : A) (x : B) (p : Putting i t) (h : i < length xs) where
      here : i < length (outs next f s xs)
      here = rw (outs_length next f s xs) h

      heads : f t (get_or xs i d) ∷ outs next f (next t (get_or xs i d)) (drop (suc i) xs) ≡ get_or (outs next f s xs) i x ∷ drop (suc i) (outs next f s xs)
      heads = sym (outs_next next t xs i d h f) ∙ p.rest ∙ drop-cons (outs next f s xs) i x here

      pub putting_at : f t (get_or xs i d) ≡ get_or (outs next f s xs) i x
      putting_at = cc heads

      pub putting_more : Putting (i + 1) (next t (get_or xs i d))
      putting_more = record { rest = rw add-one (cc heads) }

  -- the sum that it keeps
  module _ (f : S → A → ℕ) where
    pub record Summing (i : ℕ) (t : S) (n : ℕ) : Type 0 where
      pub sum : n + total next f t (drop i xs) ≡ total next f s xs

    pub summing_none : Summing 0 s 0
    summing_none = record { sum = omega arith }

    pub summing_more : {i : ℕ} {t : S} {n : ℕ} (d : A) → Summing i t n → i < length xs → Summing (i + 1) (next t (get_or xs i d)) (n + f t (get_or xs i d))
    summing_more {i} {t} {n} d q h =
        record { sum = rw add-one (add_assoc n (f t (get_or xs i d)) (total next f (next t (get_or xs i d)) (drop (suc i) xs)) ∙ ap (λ (m : ℕ). n + m) (sym (total_next next t xs i d h f)) ∙ q.sum) }

    pub summing_done : {i : ℕ} {t : S} {n : ℕ} → Summing i t n → length xs ≤ i → n ≡ total next f s xs
    unfolding total
    summing_done {i} {t} {n} q h =
        let none : n + total next f t (drop i xs) ≡ n = rw (drop_of_length-le xs h) (add-zero n) in
        sym none ∙ q.sum
