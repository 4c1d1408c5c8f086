-- Every row of a table of tests holds exactly where their join does, in whichever order they are joined.
use Rattle.std.proofs.Common.{◌≡◌, Bool, true, false, ◌&&◌, T, List, [], ◌∷◌, refl, sym}
use Rattle.std.proofs.Math.Bool.{and-true}
use Rattle.words.specs.Every.{every}
use Rattle.words.proofs.Tests.{and_left, and_right, is_true}

-- the rows one by one
abbrev pub Each : List Bool → Type 0
Each [] = Unit
Each (t ∷ ts) = (t ≡ true) × Each ts

pub both : (a b : Bool) → a && b ≡ true → (a ≡ true) × (b ≡ true)
both a b e =
    let t : T (a && b) = rw e tt in
    (is_true a (and_left a b t), is_true b (and_right a b t))

pub every_says : (ts : List Bool) → every ts ≡ true → Each ts
unfolding every
every_says [] e = tt
every_says (t ∷ ts) e =
    let rows = both t (every ts) e in
    (rows.0, every_says ts rows.1)

pub every_of : (ts : List Bool) → Each ts → every ts ≡ true
unfolding every
every_of [] rows = refl
every_of (t ∷ ts) rows = rw (rows.0, every_of ts rows.1)

-- the tests joined from the first on, as code joins them with `&`
unfoldable pub joined : Bool → List Bool → Bool
joined t [] = t
joined t (u ∷ us) = joined (t && u) us

joined_false : (ts : List Bool) → joined false ts ≡ false
unfolding joined
joined_false [] = refl
joined_false (t ∷ ts) = joined_false ts

pub joined_every : (t : Bool) (ts : List Bool) → joined t ts ≡ every (t ∷ ts)
unfolding joined every
joined_every t [] = sym (and-true t)
joined_every true (u ∷ us) = joined_every u us
joined_every false (u ∷ us) = joined_false us
