-- The rows of the Recommendation's tables, and how a table is read.
use Rattle.std.specs.Prelude.{◌&&◌, List, [], ◌∷◌, ℕ, eqb, leb}
use Rattle.words.specs.Notation.{◌when◌∣◌}

-- a row of Tables 8 to 11 and 17 to 20: DS, the least and the greatest DLN of the row, and what the row gives
pub data Range : Type 0 where
  row : ℕ → ℕ → ℕ → ℕ → Range

-- what the row that holds DS and DLN gives; a table has one for each sign and each of the 4,096 values, so the first clause is never met
unfoldable pub find : List Range → ℕ → ℕ → ℕ
find [] DS DLN = 0
find (row ds least greatest I ∷ rows) DS DLN =
    I when eqb DS ds && leb least DLN && leb DLN greatest ∣ find rows DS DLN

-- a row of Tables 12 to 15: I, DQS, DQLN
pub data Level : Type 0 where
  level : ℕ → ℕ → ℕ → Level

-- the DQLN of codeword I
unfoldable pub output : List Level → ℕ → ℕ
output [] I = 0
output (level i DQS DQLN ∷ rows) I = DQLN when eqb I i ∣ output rows I
