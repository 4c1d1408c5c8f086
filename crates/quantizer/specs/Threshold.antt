-- The form in which the code holds Tables 8 to 11: the thresholds of the sign 0 alone, from I = 1 upwards. The public promise
-- is QUAN of Decision.antt; that this form is QUAN is proved.
use Rattle.std.specs.Prelude.{List, ℕ, ◌+◌, ◌-◌, ◌*◌, ◌%◌, eqb, leb, length, count_by}
use Rattle.words.specs.Notation.{◌when◌∣◌}

-- DLN is a 12-bit word in two's complement: from 2,048 on it is negative, and stands below the others
abbrev pub offset : ℕ → ℕ
offset DLN = (DLN + 2048) % 4096

-- how many of the levels DLN has reached
abbrev pub reached : List ℕ → ℕ → ℕ
reached levels DLN = count_by (λ level. leb (offset level) (offset DLN)) levels

-- that number where the sign is 0, and its complement where it is 1: n levels part n + 1 codewords of either sign
unfoldable pub coded : List ℕ → ℕ → ℕ → ℕ
coded levels DLN DS = reached levels DLN when eqb DS 0 ∣ 2 * length levels + 1 - reached levels DLN
