-- The numbers of a state say all of it: two states with the same numbers are equal. That there are six B and six DQ is said by the types of the
-- code; here it is asked for.
use mathlib.Core.Bool.{true}
use mathlib.Core.List.{List}
use mathlib.Core.Path.{◌≡◌, sym, ap, ◌∙◌}
use Prim.Native.Nat.{ℕ, zero, suc, ◌<◌}
use native.Mathlib.Omega.{arith}
use lib.ListN.{length, get_or}
use lib.Seq.{ext_get_or}
use Rattle.std.specs.Cmp.Lexicographic.{same_text}
use Rattle.state.specs.declared.State.{State}
use Rattle.state.specs.Words.{Words}
use Rattle.state.specs.Numbers.{numbers_of, same_numbers}

module _ (f g : ℕ → ℕ) where
  below_six : f 0 ≡ g 0 → f 1 ≡ g 1 → f 2 ≡ g 2 → f 3 ≡ g 3 → f 4 ≡ g 4 → f 5 ≡ g 5 → (k : ℕ) → k < 6 → f k ≡ g k
  below_six a b c d e h zero l = a
  below_six a b c d e h (suc zero) l = b
  below_six a b c d e h (suc (suc zero)) l = c
  below_six a b c d e h (suc (suc (suc zero))) l = d
  below_six a b c d e h (suc (suc (suc (suc zero)))) l = e
  below_six a b c d e h (suc (suc (suc (suc (suc zero))))) l = h
  below_six a b c d e h (suc (suc (suc (suc (suc (suc k)))))) l = absurd (omega arith)

six : (xs ys : List ℕ) → length xs ≡ 6 → length ys ≡ 6 → ((k : ℕ) → k < 6 → get_or xs k 0 ≡ get_or ys k 0) → xs ≡ ys
six xs ys m n same = ext_get_or 0 xs ys (m ∙ sym n) (λ k h. same k (rw m at h))

module _ (s t : State) (ws : Words s.memory) (wt : Words t.memory) (e : numbers_of s ≡ numbers_of t) where
  number : (k : ℕ) → get_or (numbers_of s) k 0 ≡ get_or (numbers_of t) k 0
  number k = ap (λ (l : List ℕ). get_or l k 0) e

  pub numbers_fix : s ≡ t
  unfolding numbers_of
  numbers_fix =
      let b = six s.memory.b t.memory.b ws.six_zeros wt.six_zeros
      (below_six (λ k. get_or s.memory.b k 0) (λ k. get_or t.memory.b k 0) (number 7) (number 8) (number 9) (number 10) (number 11) (number 12)) in
      let dq = six s.memory.dq t.memory.dq ws.six_differences wt.six_differences
      (below_six (λ k. get_or s.memory.dq k 0) (λ k. get_or t.memory.dq k 0) (number 13) (number 14) (number 15) (number 16) (number 17) (number 18)) in
      λ i. record {
        memory =
            record {
              yu = number 0 i;
              yl = number 1 i;
              dms = number 2 i;
              dml = number 3 i;
              ap = number 4 i;
              a1 = number 5 i;
              a2 = number 6 i;
              b = b i;
              dq = dq i;
              sr1 = number 19 i;
              sr2 = number 20 i;
              pk1 = number 21 i;
              pk2 = number 22 i;
              td = number 23 i;
            };
        core = number 24 i;
        number = number 25 i;
      }

-- `same_state` answers true of equal states alone
pub same_state_says : (s t : State) → Words s.memory → Words t.memory → same_numbers (numbers_of s) (numbers_of t) ≡ true → s ≡ t
unfolding same_numbers
same_state_says s t ws wt e = numbers_fix s t ws wt (same_text (numbers_of s) (numbers_of t) (sym e))
