-- What follows x, y and g in a header, a number or nothing, by a test t: its length, and how it is read and stored.
use mathlib.Core.Bool.{Bool, true, false}
use mathlib.Core.Path.{◌≡◌, refl}
use mathlib.Core.List.{List, [], ◌∷◌, ◌++◌}
use Prim.Native.Nat.{ℕ, ◌≤◌}
use native.Mathlib.Omega.{arith}
use lib.ListN.{length, get_or, drop, set}
use Rattle.words.specs.Notation.{pick}

abbrev pub follows : Bool → ℕ → List ℕ
follows t n = pick t (n ∷ []) []

pub again : (t : Bool) (n : ℕ) → pick t (pick t n 0) 0 ≡ pick t n 0
again true n = refl
again false n = refl

pub sized : (t : Bool) (a g n : ℕ) → length (a ∷ g ∷ follows t n) ≡ pick t 3 2
sized true a g n = refl
sized false a g n = refl

-- read back from what was written
pub read_back : (t : Bool) (n : ℕ) (octets : List ℕ) → pick t (get_or (follows t n ++ octets) 0 0) 0 ≡ pick t n 0
read_back true n octets = refl
read_back false n octets = refl

-- written again from what was read
pub whole_again : (t : Bool) (a b : ℕ) (octets : List ℕ) → pick t 3 2 ≤ length (a ∷ b ∷ octets)
    → follows t (pick t (get_or octets 0 0) 0) ++ drop (pick t 3 2) (a ∷ b ∷ octets) ≡ octets
whole_again true a b [] long = absurd (omega arith)
whole_again true a b (c ∷ octets) long = refl
whole_again false a b octets long = refl

-- stored over the first octets of a buffer
pub stored : (t : Bool) (a g n : ℕ) (d : List ℕ) → pick t 3 2 ≤ length d
    → pick t (set (set (set d 0 a) 1 g) 2 n) (set (set d 0 a) 1 g) ≡ (a ∷ g ∷ follows t n) ++ drop (pick t 3 2) d
stored true a g n [] long = absurd (omega arith)
stored true a g n (x ∷ []) long = absurd (omega arith)
stored true a g n (x ∷ y ∷ []) long = absurd (omega arith)
stored true a g n (x ∷ y ∷ z ∷ d) long = refl
stored false a g n [] long = absurd (omega arith)
stored false a g n (x ∷ []) long = absurd (omega arith)
stored false a g n (x ∷ y ∷ d) long = refl
