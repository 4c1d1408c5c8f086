-- The rest of a buffer, lent from a place on and come back: what is lent is the list from there on, and what comes back takes its place.
use mathlib.Core.Path.{◌≡◌, ap, ◌∙◌}
use mathlib.Core.List.{List, ◌++◌, append-nil}
use Prim.Native.Nat.{ℕ, ◌-◌, ◌≤◌}
use native.Mathlib.Omega.{arith}
use lib.ListN.{length, take, drop, length-drop, drop_of_length-le}
use lib.Seq.{take_all}
use borrow.Rule.Slice.PartMut.{put_mid}

module _ {A : Type 0} (xs : List A) (at : ℕ) where
  sized : length (drop at xs) ≤ length xs - at
  sized = simp length-drop (omega arith)

  pub rest_lent : take (length xs - at) (drop at xs) ≡ drop at xs
  rest_lent = take_all (length xs - at) (drop at xs) sized

  pub rest_back : (ys : List A) → put_mid at (length xs - at) xs ys ≡ take at xs ++ ys
  rest_back ys = ap (λ (l : List A). take at xs ++ (ys ++ l)) (drop_of_length-le (drop at xs) sized) ∙ ap (λ (l : List A). take at xs ++ l) (append-nil ys)
