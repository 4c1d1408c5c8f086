-- A table of ranges gives one thing from a row's bound to the next, so what is to hold of all 4,096 values of DLN is tested where
-- the rows begin. The bounds are those of Table 11, where the rows of the other tables begin too.
use mathlib.Core.Path.{◌≡◌, refl, sym, subst, ap, ◌∙◌}
use mathlib.Core.Bool.{Bool, true, not, ◌&&◌, ◌||◌}
use mathlib.Core.List.{List, [], ◌∷◌}
use Prim.Native.Nat.{ℕ, zero, suc, ◌≤◌, ◌<◌}
use native.Mathlib.Omega.{arith}
use native.Mathlib.Decide.{dec_le}
use lib.Dec.{T, leb, T_not, leb→le}
use borrow.Author.Tests.{le-leb, lt-leb}
use Rattle.words.proofs.Tests.{and_left, and_right}
use Rattle.quantizer.specs.Codeword.{Width}
use Rattle.quantizer.specs.Table.{Range, row, find}
use Rattle.quantizer.specs.Decision.{table8, table9, table10, table11, decisions, QUAN}
use Rattle.quantizer.specs.Sync.{table17, table18, table19, table20, places, ID}
use Rattle.quantizer.proofs.Tests.{or_cases, test_cases, all, has, all_at, at_width}

unfoldable pub leasts : List Range → List ℕ
leasts [] = []
leasts (row ds least greatest I ∷ rows) = least ∷ leasts rows

unfoldable pub bounds : List ℕ
bounds = leasts table11

-- no row begins at the number after n
abbrev pub Free : ℕ → Type 0
Free n = (suc n < 4096) × T (not (has (suc n) bounds))

pub apart : {k n : ℕ} → T (has k bounds) → Free n → k ≡ suc n → ⊥
apart {k} {n} t f e = T_not (has (suc n) bounds) f.1 (subst (λ (m : ℕ). T (has m bounds)) e t)

module _ {a b c d : ℕ} (to : a ≤ b → c ≤ d) (back : c ≤ d → a ≤ b) where
  both_or_none : Dec (a ≤ b) → leb a b ≡ leb c d
  both_or_none (yes h) = le-leb a b h ∙ sym (le-leb c d (to h))
  both_or_none (no h) =
      let other : c ≤ d → ⊥ = λ k. h (back k) in
      let past : b < a = omega arith in
      let passed : d < c = omega arith in
      lt-leb a b past ∙ sym (lt-leb c d passed)

  pub same_test : leb a b ≡ leb c d
  same_test = both_or_none (dec_le a b)

-- the row begins at a bound, and ends before one or at the last value
abbrev starts : ℕ → Bool
starts least = has least bounds

abbrev stops : ℕ → Bool
stops greatest = has (suc greatest) bounds || leb 4095 greatest

abbrev cut : List Range → Bool
cut [] = true
cut (row ds least greatest I ∷ rows) = starts least && (stops greatest && cut rows)

module _ {n : ℕ} (f : Free n) where
  starts_steady : (least : ℕ) → T (starts least) → leb least n ≡ leb least (suc n)
  starts_steady least t =
      let off : least ≡ suc n → ⊥ = apart t f in
      same_test {a = least} {b = n} {c = least} {d = suc n} (λ h. omega arith) (λ h. omega arith)

  stops_off : (greatest : ℕ) → T (stops greatest) → greatest ≡ n → ⊥
  stops_off greatest t e =
      or_cases (has (suc greatest) bounds) (leb 4095 greatest) (λ u. apart u f (ap suc e))
      (λ u. let last : 4095 ≤ greatest = leb→le 4095 greatest u in omega arith)
      t

  stops_steady : (greatest : ℕ) → T (stops greatest) → leb n greatest ≡ leb (suc n) greatest
  stops_steady greatest t =
      let off : greatest ≡ n → ⊥ = stops_off greatest t in
      same_test {a = n} {b = greatest} {c = suc n} {d = greatest} (λ h. omega arith) (λ h. omega arith)

  find_steady : (rows : List Range) (s : ℕ) → T (cut rows) → find rows s n ≡ find rows s (suc n)
  unfolding find
  find_steady [] s t = refl
  find_steady (row ds least greatest I ∷ rows) s t =
      let row_cut = and_right (starts least) (stops greatest && cut rows) t in
      rw (
        starts_steady least (and_left (starts least) (stops greatest && cut rows) t),
        stops_steady greatest (and_left (stops greatest) (cut rows) row_cut),
        find_steady rows s (and_right (stops greatest) (cut rows) row_cut),
      )

  -- Tables 8 to 11 and Tables 17 to 20 are cut at the bounds
  pub quan_steady : {w : ℕ} → Width w → (s : ℕ) → QUAN w n s ≡ QUAN w (suc n) s
  unfolding QUAN decisions bounds leasts table8 table9 table10 table11
  quan_steady {w} h s = find_steady (decisions w) s (at_width (λ w. cut (decisions w)) tt h)

  pub id_steady : {w : ℕ} → Width w → (s : ℕ) → ID w n s ≡ ID w (suc n) s
  unfolding ID places bounds leasts table11 table17 table18 table19 table20
  id_steady {w} h s = find_steady (places w) s (at_width (λ w. cut (places w)) tt h)

-- what passes from n to n + 1 wherever no row begins, and holds where one does, holds of every value
pub at_bounds : (p : ℕ → Bool) → T (all p bounds) →
    ((n : ℕ) → Free n → T (p n) → T (p (suc n))) → (n : ℕ) → n < 4096 → T (p n)
unfolding bounds leasts table11
at_bounds p t keeps zero h = all_at p 0 bounds t tt
at_bounds p t keeps (suc n) h =
    test_cases (has (suc n) bounds) (λ u. all_at p (suc n) bounds t u)
    (λ u. keeps n (h, u) (at_bounds p t keeps n (omega arith)))
