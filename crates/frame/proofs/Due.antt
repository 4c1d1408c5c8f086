-- Which numbers are due: what the test of a number says, either way.
use mathlib.Core.Bool.{Bool, true, false, not, ◌||◌}
use mathlib.Core.Path.{◌≡◌, refl}
use Prim.Native.Nat.{ℕ}
use lib.Dec.{eqb}
use borrow.Author.Tests.{eqb-true, eq-eqb}
use Rattle.words.specs.Notation.{pick}
use Rattle.frame.specs.declared.header.Header.{Header}
use Rattle.frame.specs.Header.{is_numbered, borne, is_due}

-- the number that a frame bears is due where it was written
due_again : (t : Bool) (n : ℕ) → not t || eqb (pick t n 0) n ≡ true
due_again true n = eq-eqb n n refl
due_again false n = refl

pub due_of_borne : (e n : ℕ) → not (is_numbered e) || eqb (borne e n) n ≡ true
due_of_borne e n = due_again (is_numbered e) n

-- in edition 2 the due number is the frame's, and no other
pub due_says : (h : Header) (n : ℕ) → is_numbered h.edition ≡ true → is_due h n ≡ true → h.number ≡ n
due_says h n numbered due = eqb-true h.number n (rw numbered at due)
