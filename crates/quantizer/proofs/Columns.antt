-- The code's arrays, read off the tables: the thresholds of Tables 8 to 11 and the output levels of Tables 12 to 15,
-- each of the sign 0 and in rising order.
use mathlib.Core.Bool.{◌&&◌}
use mathlib.Core.List.{List, [], ◌∷◌}
use Prim.Native.Nat.{ℕ, ◌-◌, ◌^◌}
use lib.Dec.{eqb}
use Rattle.words.specs.Notation.{pick}
use Rattle.lists.specs.Tabulate.{entries, tabulate}
use Rattle.quantizer.specs.Table.{Range, row, output}
use Rattle.quantizer.specs.Decision.{decisions}
use Rattle.quantizer.specs.Output.{outputs}

-- where the codeword I begins: the tables go downwards, so this is the least DLN of its last row of the sign 0
unfoldable pub begins : List Range → ℕ → ℕ → ℕ
begins [] I found = found
begins (row ds least greatest i ∷ rows) I found = begins rows I (pick (eqb ds 0 && eqb i I) least found)

unfoldable pub levels : ℕ → List ℕ
levels w = entries (λ I. begins (decisions w) I 0) 1 (2 ^ (w - 1) - 1)

unfoldable pub column : ℕ → List ℕ
column w = tabulate (2 ^ (w - 1)) (output (outputs w))
