-- The contract of reset leaves no choice: two answers that conform to it are equal.
use mathlib.Core.Path.{◌≡◌, sym, ◌∙◌}
use Prim.Native.Nat.{ℕ}
use Rattle.replies.proofs.Equal.{reply_equal}
use Rattle.state.specs.declared.answer.Answer.{Answer}
use Rattle.reset.specs.Reset.{Resets}

pub reset_equal : (core : ℕ) (a b : Answer ℕ) → Resets core a → Resets core b → a ≡ b
reset_equal core a b p q =
    let done = reply_equal a.done b.done (p.number ∙ sym q.number) (λ x y e f. rw e at p.octets ∙ sym (rw f at q.octets)) in
    λ i. record { state = (p.state ∙ sym q.state) i; done = done i }
