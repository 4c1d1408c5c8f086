-- What holds of every answer of drop: what it reports as written fits, and the contract leaves no choice.
use mathlib.Core.List.{List}
use mathlib.Core.Path.{◌≡◌, sym, ◌∙◌}
use Prim.Native.Nat.{ℕ, ◌≤◌}
use lib.ListN.{length}
use Rattle.std.specs.declared.result.Result.{Result}
use Rattle.frame.specs.Header.{header_of}
use Rattle.replies.specs.declared.Refusal.{Refusal}
use Rattle.replies.proofs.Answers.{counted}
use Rattle.replies.proofs.Equal.{reply_equal}
use Rattle.drop_planes.specs.Drop.{drop_reply, drop_octets, Drops}
use Rattle.drop_planes.proofs.Fitness.{drop_says}

module _ (frame : List ℕ) (w : ℕ) (before : List ℕ) where
  -- what is reported as written fits the buffer that was lent
  pub drop_room : drop_octets frame w before ≤ length before
  unfolding drop_octets drop_reply
  drop_room = counted _ _ _ (λ e. (drop_says (header_of frame) (length frame) w (length before) e).space)

  -- two conforming answers are equal, and so are the exit buffers
  pub drop_equal : (after after' : List ℕ) (a b : Result ℕ Refusal) → Drops frame w before after a → Drops frame w before after' b → (a ≡ b) × (after ≡ after')
  drop_equal after after' a b p q =
      (reply_equal a b (p.number ∙ sym q.number) (λ x y e f. rw e at p.octets ∙ sym (rw f at q.octets)), p.out ∙ sym q.out)
