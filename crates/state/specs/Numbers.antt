-- The numbers of a state, in the order of the rules' table (docs/RULES.md, "The state"), a row's variables as it names them; and whether two
-- states have the same ones.
use Rattle.std.specs.Prelude.{Bool, List, [], ◌∷◌, ℕ, eqb, get_or}
use Rattle.std.specs.Cmp.Lexicographic.{pointwise}
use Rattle.state.specs.declared.State.{State}

-- how many there are
abbrev pub count : ℕ
count = 26

unfoldable pub numbers_of : State → List ℕ
numbers_of s =
    let m = s.memory in
    m.yu ∷ m.yl ∷ m.dms ∷ m.dml ∷ m.ap ∷
    m.a1 ∷ m.a2 ∷
    get_or m.b 0 0 ∷ get_or m.b 1 0 ∷ get_or m.b 2 0 ∷ get_or m.b 3 0 ∷ get_or m.b 4 0 ∷ get_or m.b 5 0 ∷
    get_or m.dq 0 0 ∷ get_or m.dq 1 0 ∷ get_or m.dq 2 0 ∷ get_or m.dq 3 0 ∷ get_or m.dq 4 0 ∷ get_or m.dq 5 0 ∷
    m.sr1 ∷ m.sr2 ∷ m.pk1 ∷ m.pk2 ∷ m.td ∷
    s.core ∷ s.number ∷ []

unfoldable pub same_numbers : List ℕ → List ℕ → Bool
same_numbers = pointwise eqb
