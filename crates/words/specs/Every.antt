-- A table of tests, of which every row has to hold.
use Rattle.std.specs.Prelude.{Bool, true, ◌&&◌, List, [], ◌∷◌}

unfoldable pub every : List Bool → Bool
every [] = true
every (t ∷ ts) = t && every ts
