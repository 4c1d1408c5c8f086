-- Answers put together: what a refusal leaves, and what a success gives.
use mathlib.Core.Bool.{Bool, true, false, not}
use mathlib.Core.Path.{◌≡◌, sym, ◌∙◌}
use Prim.Native.Nat.{ℕ, ◌≤◌}
use native.Mathlib.Omega.{arith}
use lib.Dec.{eqb}
use borrow.Author.Tests.{eqb-true, eqb-false, eq-eqb, ne_eqb, not-true, not-false}
use Rattle.words.specs.Notation.{pick}
use Rattle.words.proofs.Pick.{by_pick}
use Rattle.replies.specs.declared.Refusal.{Refusal}
use Rattle.replies.specs.declared.Refusal.TheVariants.{Pair, Count, Room, Range, Header, Length, Core, Target, Law, Number, Sample}
use Rattle.replies.specs.Reply.{refusal_number}

module _ {A : Type 0} (n : ℕ) (a b : A) where
  pub refusal : (n ≡ 0 → ⊥) → b ≡ pick (eqb n 0) a b
  refusal ne = simp (ne_eqb n 0 ne)

  pub success : n ≡ 0 → a ≡ pick (eqb n 0) a b
  success e = simp (eq-eqb n 0 e)

-- what a test of 0 decides of a reply whose number is m, either way
module _ {done : Bool} {n m : ℕ} (is : done ≡ eqb n 0) (number : n ≡ m) where
  pub is_refusal : not done ≡ true → m ≡ 0 → ⊥
  is_refusal t e = eqb-false n 0 (sym is ∙ not-true done t) (number ∙ e)

  pub is_success : not done ≡ false → m ≡ 0
  is_success t = sym number ∙ eqb-true n 0 (sym is ∙ not-false done t)

-- no refusal has the number of what is done
pub refuses : (r : Refusal) → refusal_number r ≡ 0 → ⊥
refuses Pair e = omega (arith, e)
refuses Count e = omega (arith, e)
refuses Room e = omega (arith, e)
refuses Range e = omega (arith, e)
refuses Header e = omega (arith, e)
refuses Length e = omega (arith, e)
refuses Core e = omega (arith, e)
refuses Target e = omega (arith, e)
refuses Law e = omega (arith, e)
refuses Number e = omega (arith, e)
refuses Sample e = omega (arith, e)

-- a count that is reported with a 0 only
pub counted : (n count room : ℕ) → (n ≡ 0 → count ≤ room) → pick (eqb n 0) count 0 ≤ room
counted n count room fits =
    by_pick (λ m. m ≤ room) (eqb n 0) count 0 (λ t. fits (eqb-true n 0 t)) (λ t. omega arith)
