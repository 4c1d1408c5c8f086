-- The laws of every table of refusals: a 0 says that no row applies, and where none applies it is 0; two tables, one behind the other.
use Rattle.std.proofs.Common.{◌≡◌, Bool, true, false, ◌&&◌, T, ltb, List, [], ◌∷◌, ◌++◌, refl, arith, ltb→lt}
use Rattle.words.specs.First.{Row, first}
use Rattle.words.proofs.Tests.{and_left, and_right}

-- no row applies
abbrev pub NoneApplies : List Row → Type 0
NoneApplies [] = Unit
NoneApplies ((number, test) ∷ rows) = (test ≡ false) × NoneApplies rows

-- no row bears the number 0
abbrev pub refusals : List Row → Bool
refusals [] = true
refusals ((number, test) ∷ rows) = ltb 0 number && refusals rows

pub first_says : (rows : List Row) → T (refusals rows) → first rows ≡ 0 → NoneApplies rows
unfolding first
first_says [] r e = tt
first_says ((number, true) ∷ rows) r e = absurd (omega (arith, ltb→lt 0 number (and_left (ltb 0 number) (refusals rows) r)))
first_says ((number, false) ∷ rows) r e = (refl, first_says rows (and_right (ltb 0 number) (refusals rows) r) e)

pub first_of : (rows : List Row) → NoneApplies rows → first rows ≡ 0
unfolding first
first_of [] none = refl
first_of ((number, test) ∷ rows) none = rw none.0 (first_of rows none.1)

-- two tables, one behind the other: no row of the whole applies exactly where none of either does
pub none_apart : (rows more : List Row) → NoneApplies (rows ++ more) → NoneApplies rows × NoneApplies more
none_apart [] more none = (tt, none)
none_apart ((number, test) ∷ rows) more none =
    let apart = none_apart rows more none.1 in
    ((none.0, apart.0), apart.1)

pub none_joined : (rows more : List Row) → NoneApplies rows → NoneApplies more → NoneApplies (rows ++ more)
none_joined [] more none none' = none'
none_joined ((number, test) ∷ rows) more none none' = (none.0, none_joined rows more none.1 none')

-- where a row of the first table applies the second is not looked at, and where none does it is the second's
pub first_front : (rows more : List Row) → (first rows ≡ 0 → ⊥) → first (rows ++ more) ≡ first rows
unfolding first
first_front [] more ne = absurd (ne refl)
first_front ((number, true) ∷ rows) more ne = refl
first_front ((number, false) ∷ rows) more ne = first_front rows more ne

pub first_behind : (rows more : List Row) → NoneApplies rows → first (rows ++ more) ≡ first more
unfolding first
first_behind [] more none = refl
first_behind ((number, test) ∷ rows) more none = rw none.0 (first_behind rows more none.1)
