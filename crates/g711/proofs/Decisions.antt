-- COMPRESS's levels: G.711's decision values bound each of them (Tables 1 and 2/G.711, column 5), and the code's formula finds it.
use mathlib.Core.Path.{◌≡◌}
use mathlib.Core.List.{List, [], ◌∷◌}
use mathlib.Core.Bool.{Bool, true, false, ◌&&◌}
use Prim.Native.Nat.{ℕ, zero, suc, ◌+◌, ◌-◌, ◌≤◌, ◌<◌}
use native.Mathlib.Omega.{arith}
use native.Mathlib.Decide.{dec_le, dec_lt}
use native.Mathlib.Nat.{not-suc-le-zero, le_of_suc-le-suc, add-zero}
use lib.Dec.{T, eqb, eqb→eq, leb-zero}
use lib.ListN.{length, get_or}
use borrow.Author.Tests.{le-leb, lt-leb}
use Rattle.words.specs.Notation.{pick}
use Rattle.words.specs.Length.{bit_length, rows}
use Rattle.words.proofs.Tests.{and_left, and_right}
use Rattle.g711.specs.G711.{decisions_mu, decisions_A}
use Rattle.g711.specs.Compress.{reached, level_of}
use Rattle.g711.proofs.Segments.{formula, formula_mono, formula_top}

-- f goes from n to n + 1 just at x
abbrev pub rise : (ℕ → ℕ) → ℕ → ℕ → Bool
rise f n x = eqb (f (x - 1)) n && eqb (f x) (suc n)

-- f goes from n to n + 1 just at the first of the values, from n + 1 to n + 2 just at the second, and so on
abbrev pub rises : (ℕ → ℕ) → ℕ → List ℕ → Bool
rises f n [] = true
rises f n (x ∷ xs) = rise f n x && rises f (suc n) xs

module _ (f : ℕ → ℕ) (mono : (m k : ℕ) → m ≤ k → f m ≤ f k) where
  module _ (n x m : ℕ) (t : T (rise f n x)) where
    over : x ≤ m → n < f m
    over h = omega (arith, mono x m h, eqb→eq (f x) (suc n) (and_right (eqb (f (x - 1)) n) _ t))

    under : m < x → f m ≤ n
    under h =
        let a : f m ≤ f (x - 1) = mono m (x - 1) (omega arith) in
        omega (arith, eqb→eq (f (x - 1)) n (and_left (eqb (f (x - 1)) n) _ t))

    counted : (xs : List ℕ) → reached xs m ≡ f m - suc n → Dec (x ≤ m) → reached (x ∷ xs) m ≡ f m - n
    unfolding reached
    counted xs r (yes d) = simp (le-leb _ _ d) (omega (arith, over d))
    counted xs r (no d) =
        let b : m < x = omega arith in
        simp (lt-leb _ _ b) (omega (arith, under b))

  -- where f never falls, the values that m has reached are as many as f has risen by
  count : (xs : List ℕ) (n : ℕ) → T (rises f n xs) → (m : ℕ) → f m ≤ n + length xs → reached xs m ≡ f m - n
  unfolding reached
  count [] n t m h = omega arith
  count (x ∷ xs) n t m h =
      counted n x m (and_left (rise f n x) _ t) xs (count xs (suc n) (and_right (rise f n x) _ t) m (omega arith)) (dec_le x m)

  place : (xs : List ℕ) (n : ℕ) → T (rises f n xs) → (i : ℕ) → i < length xs → T (rise f (n + i) (get_or xs i 0))
  place [] n t i h = absurd (not-suc-le-zero h)
  place (x ∷ xs) n t zero h = rw (add-zero n) (and_left (rise f n x) _ t)
  place (x ∷ xs) n t (suc i) h =
      let e : n + suc i ≡ suc n + i = omega arith in
      rw e (place xs (suc n) (and_right (rise f n x) _ t) i (le_of_suc-le-suc h))

  -- the values behind 0, which every m has reached
  module _ (xs : List ℕ) (t : T (rises f 0 xs)) (m : ℕ) (top : f m ≤ length xs) where
    found : level_of (0 ∷ xs) m ≡ f m
    unfolding level_of reached
    found =
        let c : reached xs m ≡ f m - 0 = count xs 0 t m (omega arith) in
        simp leb-zero (omega arith)

    at_least : (n : ℕ) → n ≤ length xs → get_or (0 ∷ xs) n 0 ≤ m → n ≤ f m
    at_least zero h l = omega arith
    at_least (suc n) h l = omega (arith, over (0 + n) (get_or xs n 0) m (place xs 0 t n h) l)

    at_most : (n : ℕ) → n ≤ length xs → (n < length xs → m < get_or (0 ∷ xs) (suc n) 0) → Dec (n < length xs) → f m ≤ n
    at_most n h u (yes d) = omega (arith, under (0 + n) (get_or xs n 0) m (place xs 0 t n d) (u d))
    at_most n h u (no d) = omega arith

    held : (n : ℕ) → n ≤ length xs → get_or (0 ∷ xs) n 0 ≤ m → (n < length xs → m < get_or (0 ∷ xs) (suc n) 0)
        → level_of (0 ∷ xs) m ≡ n
    held n h l u =
        let a : n ≤ f m = at_least n h l in
        let b : f m ≤ n = at_most n h u (dec_lt n (length xs)) in
        omega (arith, found)

abbrev pub decisions : Bool → List ℕ
decisions mu = pick mu decisions_mu decisions_A

pub level_is : (mu : Bool) (m : ℕ) → level_of (decisions mu) m ≡ formula mu m
unfolding decisions_mu decisions_A bit_length rows
level_is true m = found (formula true) (formula_mono true) _ tt m (formula_top true m)
level_is false m = found (formula false) (formula_mono false) _ tt m (formula_top false m)

pub level_top : (mu : Bool) (m : ℕ) → level_of (decisions mu) m ≤ 127
level_top mu m = omega (arith, level_is mu m, formula_top mu m)

-- the same, law by law
pub level_mu_is : (m : ℕ) → level_of decisions_mu m ≡ formula true m
level_mu_is m = level_is true m

pub level_A_is : (m : ℕ) → level_of decisions_A m ≡ formula false m
level_A_is m = level_is false m

pub level_mu_top : (m : ℕ) → level_of decisions_mu m ≤ 127
level_mu_top m = level_top true m

pub level_A_top : (m : ℕ) → level_of decisions_A m ≤ 127
level_A_top m = level_top false m

agrees : (mu : Bool) (n m : ℕ) → n < 128 → get_or (decisions mu) n 0 ≤ m
    → (n < 127 → m < get_or (decisions mu) (suc n) 0) → level_of (decisions mu) m ≡ n
unfolding decisions_mu decisions_A bit_length rows
agrees true n m h l u = held (formula true) (formula_mono true) _ tt m (formula_top true m) n (omega arith) l u
agrees false n m h l u = held (formula false) (formula_mono false) _ tt m (formula_top false m) n (omega arith) l u

-- a magnitude from level n's decision value on, and below the next one where there is a next one, has level n
pub level_agrees : (n m LAW : ℕ) → n < 128 → get_or (decisions (eqb LAW 0)) n 0 ≤ m
    → (n < 127 → m < get_or (decisions (eqb LAW 0)) (suc n) 0) → level_of (decisions (eqb LAW 0)) m ≡ n
level_agrees n m LAW = agrees (eqb LAW 0) n m
