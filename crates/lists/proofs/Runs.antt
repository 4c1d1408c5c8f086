-- Laws of runs. A loop that has passed i inputs keeps what is left: the run of the rest, from the state that it is in, is the whole run.
use mathlib.Core.Path.{◌≡◌, refl, ap}
use mathlib.Core.List.{List, [], ◌∷◌}
use Prim.Native.Nat.{ℕ, suc, ◌+◌, ◌<◌}
use lib.ListN.{length, get_or, drop}
use lib.Seq.{drop-cons}
use Rattle.lists.specs.Run.{last, outs, total}

module _ {S A : Type 0} (next : S → A → S) where
  pub outs_length : {B : Type 0} (f : S → A → B) (s : S) (xs : List A) → length (outs next f s xs) ≡ length xs
  unfolding outs
  outs_length f s [] = refl
  outs_length f s (a ∷ xs) = ap suc (outs_length f (next s a) xs)

  -- what every step keeps, a run keeps
  pub last_keeps : (P : S → Type 0) → ((s : S) (a : A) → P s → P (next s a)) → (s : S) → P s → (xs : List A) → P (last next s xs)
  unfolding last
  last_keeps P step s p [] = p
  last_keeps P step s p (a ∷ xs) = last_keeps P step (next s a) (step s a p) xs

  -- the next input of a run over a list's rest
  module _ (s : S) (xs : List A) (i : ℕ) (d : A) (h : i < length xs) where
    pub last_next : last next s (drop i xs) ≡ last next (next s (get_or xs i d)) (drop (suc i) xs)
    unfolding last
    last_next = rw (drop-cons xs i d)

    pub outs_next : {B : Type 0} (f : S → A → B)
        → outs next f s (drop i xs) ≡ f s (get_or xs i d) ∷ outs next f (next s (get_or xs i d)) (drop (suc i) xs)
    unfolding outs
    outs_next f = rw (drop-cons xs i d)

    pub total_next : (f : S → A → ℕ)
        → total next f s (drop i xs) ≡ f s (get_or xs i d) + total next f (next s (get_or xs i d)) (drop (suc i) xs)
    unfolding total
    total_next f = rw (drop-cons xs i d)
