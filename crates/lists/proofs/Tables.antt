-- Laws of tabulated lists: their length, their entries, that equal entries make equal lists, and what a map makes of them.
use mathlib.Core.Path.{◌≡◌, refl, sym, ap, ◌∙◌}
use mathlib.Core.List.{List, ◌∷◌, map}
use Prim.Native.Nat.{ℕ, zero, suc, ◌+◌, ◌<◌, suc-le-suc}
use native.Mathlib.Nat.{add-zero, zero-add, add-suc, suc-add, le_of_suc-le-suc, not-suc-le-zero}
use native.Mathlib.Omega.{arith}
use lib.ListN.{length, get_or}
use lib.Seq.{ext_get_or}
use Rattle.lists.specs.Tabulate.{entries, tabulate}

module _ {A : Type 0} where
  length_entries : (f : ℕ → A) (i n : ℕ) → length (entries f i n) ≡ n
  unfolding entries
  length_entries f i zero = refl
  length_entries f i (suc n) = ap suc (length_entries f (suc i) n)

  pub length_tabulate : (n : ℕ) (f : ℕ → A) → length (tabulate n f) ≡ n
  unfolding tabulate
  length_tabulate n f = length_entries f 0 n

  get_or_entries : (f : ℕ → A) (i n k : ℕ) (d : A) → k < n → get_or (entries f i n) k d ≡ f (i + k)
  unfolding entries
  get_or_entries f i zero k d h = absurd (not-suc-le-zero h)
  get_or_entries f i (suc n) zero d h = ap f (sym (add-zero i))
  get_or_entries f i (suc n) (suc k) d h = get_or_entries f (suc i) n k d (le_of_suc-le-suc h) ∙ ap f (suc-add i k ∙ sym (add-suc i k))

  pub get_or_tabulate : (n : ℕ) (f : ℕ → A) (k : ℕ) (d : A) → k < n → get_or (tabulate n f) k d ≡ f k
  unfolding tabulate
  get_or_tabulate n f k d h = get_or_entries f 0 n k d h ∙ ap f (zero-add k)

  same_entries : (f g : ℕ → A) (i n : ℕ) → ((k : ℕ) → k < n → f (i + k) ≡ g (i + k)) → entries f i n ≡ entries g i n
  unfolding entries
  same_entries f g i zero same = refl
  same_entries f g i (suc n) same =
      let here : f i ≡ g i = rw add-zero at (same 0 (omega arith)) in
      rw (here, same_entries f g (suc i) n (λ k h. rw (suc-add i k, ← add-suc i k) (same (suc k) (suc-le-suc h))))

  pub tabulate_same : (n : ℕ) (f g : ℕ → A) → ((k : ℕ) → k < n → f k ≡ g k) → tabulate n f ≡ tabulate n g
  unfolding tabulate
  tabulate_same n f g same = same_entries f g 0 n (λ k h. rw zero-add (same k h))

  -- a list is the table of its own elements
  pub tabulate_list : (xs : List A) (d : A) → tabulate (length xs) (λ k. get_or xs k d) ≡ xs
  tabulate_list xs d =
      ext_get_or d _ xs (length_tabulate (length xs) (λ k. get_or xs k d))
      (λ k h. get_or_tabulate (length xs) (λ k. get_or xs k d) k d (rw length_tabulate at h))

  module _ {B : Type 0} (f : A → B) where
    map_entries : (h : ℕ → A) (i n : ℕ) → map f (entries h i n) ≡ entries (λ k. f (h k)) i n
    unfolding entries
    map_entries h i zero = refl
    map_entries h i (suc n) = ap (λ (l : List B). f (h i) ∷ l) (map_entries h (suc i) n)

    pub map_tabulate : (n : ℕ) (h : ℕ → A) → map f (tabulate n h) ≡ tabulate n (λ k. f (h k))
    unfolding tabulate
    map_tabulate n h = map_entries h 0 n
