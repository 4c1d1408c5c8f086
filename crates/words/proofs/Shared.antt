-- Braces whose rows share a test, which code makes once.
use Rattle.std.proofs.Common.{◌≡◌, Bool, true, false, not, ◌&&◌, refl}
use Rattle.std.proofs.Math.Bool.{and-false}
use Rattle.words.specs.Notation.{pick, ◌when◌∣◌}
use Rattle.words.proofs.Pick.{by_pick}

pick_same : {A : Type 0} (t : Bool) (a : A) → pick t a a ≡ a
pick_same true a = refl
pick_same false a = refl

-- the first two of three rows share the test s, or its contrary
pub shared : {A : Type 0} (t u s : Bool) (a b c : A) → pick s (pick t a (pick u b c)) c ≡ (a when t && s ∣ b when u && s ∣ c)
shared true u true a b c = refl
shared true true false a b c = refl
shared true false false a b c = refl
shared false true true a b c = refl
shared false true false a b c = refl
shared false false s a b c = pick_same s c

pub shared_not : {A : Type 0} (t u s : Bool) (a b c : A) → pick s c (pick t a (pick u b c)) ≡ (a when t && not s ∣ b when u && not s ∣ c)
shared_not t u true a b c = shared t u false a b c
shared_not t u false a b c = shared t u true a b c

-- one test the less, where u holds wherever t does not
pub shared_else : {A : Type 0} (t u s : Bool) (a b c : A) → (t ≡ false → u ≡ true) → pick s (pick t a b) c ≡ (a when t && s ∣ b when u && s ∣ c)
shared_else true u s a b c h = by_pick (λ x. pick s a c ≡ x) s a (b when u && s ∣ c) (λ e. rw e) (λ e. rw (e, and-false u))
shared_else false u s a b c h = rw (h refl)
