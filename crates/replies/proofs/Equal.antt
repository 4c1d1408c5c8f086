-- Replies with the same number are the same: refusals, and answers whose successes report the same.
use mathlib.Core.Path.{◌≡◌, refl, sym, ap, ◌∙◌}
use Prim.Native.Nat.{ℕ}
use lib.Dec.{eqb}
use Rattle.std.specs.declared.result.Result.{Result}
use Rattle.std.specs.declared.result.Result.TheVariants.{Ok, Err}
use Rattle.words.specs.Notation.{pick}
use Rattle.replies.specs.declared.Refusal.{Refusal}
use Rattle.replies.specs.declared.Refusal.TheVariants.{Pair, Count, Room, Range, Header, Length, Core, Target, Law, Number, Sample}
use Rattle.replies.specs.Reply.{refusal_number, number_of}
use Rattle.replies.proofs.Answers.{refuses}

-- the refusal that bears a number
refusal_of : ℕ → Refusal
refusal_of n =
    pick (eqb n 1) Pair
    (pick (eqb n 2) Count
    (pick (eqb n 3) Room
    (pick (eqb n 4) Range
    (pick (eqb n 5) Header (pick (eqb n 6) Length (pick (eqb n 7) Core (pick (eqb n 8) Target (pick (eqb n 9) Law (pick (eqb n 10) Number Sample)))))))))

back : (r : Refusal) → refusal_of (refusal_number r) ≡ r
unfolding refusal_of
back Pair = refl
back Count = refl
back Room = refl
back Range = refl
back Header = refl
back Length = refl
back Core = refl
back Target = refl
back Law = refl
back Number = refl
back Sample = refl

pub refusal_equal : (a b : Refusal) → refusal_number a ≡ refusal_number b → a ≡ b
refusal_equal a b e = sym (back a) ∙ ap refusal_of e ∙ back b

-- where the counts that a success reports fix the success
pub reply_equal : {A : Type 0} (a b : Result A Refusal) → number_of a ≡ number_of b → ((x y : A) → a ≡ Ok x → b ≡ Ok y → x ≡ y) → a ≡ b
reply_equal (Ok x) (Ok y) e same = ap Ok (same x y refl refl)
reply_equal (Ok x) (Err r) e same = absurd (refuses r (sym e))
reply_equal (Err r) (Ok y) e same = absurd (refuses r e)
reply_equal (Err r) (Err q) e same = ap Err (refusal_equal r q e)
