-- The table of the state's ranges (docs/RULES.md, "The state"), row by row, as a test. A1, A2 and B1 to B6 may be any 16-bit word and the number any octet, so they have no
-- test: Words.antt says that A1, A2 and B1 to B6 are words, and engine/proofs/Words.antt shows it of every state that a step gives.
use Rattle.std.specs.Prelude.{Bool, List, [], ◌∷◌, ℕ, ◌%◌, leb, ltb, get_or}
use Rattle.words.specs.Every.{every}
use Rattle.words.specs.Notation.{◌>>◌}
use Rattle.words.specs.Within.{within}
use Rattle.state.specs.declared.memory.Memory.{Memory}
use Rattle.state.specs.declared.State.{State}

-- an 11-bit word: sign bit, exponent 0 to `most`, mantissa 32 to 63
unfoldable pub is_float_word : ℕ → ℕ → Bool
is_float_word most w = every (ltb w 2048 ∷ leb ((w >> 6) % 16) most ∷ leb 32 (w % 64) ∷ [])

-- DQ1 to DQ6
unfoldable pub float_words : List ℕ → Bool
float_words dq =
    every
    (is_float_word 14 (get_or dq 0 0)
    ∷ is_float_word 14 (get_or dq 1 0)
    ∷ is_float_word 14 (get_or dq 2 0)
    ∷ is_float_word 14 (get_or dq 3 0)
    ∷ is_float_word 14 (get_or dq 4 0)
    ∷ is_float_word 14 (get_or dq 5 0)
    ∷ [])

-- rows YU to AP
unfoldable pub adaptation_in_range : Memory → Bool
adaptation_in_range m =
    every
    (within 544 5120 m.yu
    ∷ within 34816 327680 m.yl
    ∷ within 0 3584 m.dms
    ∷ within 0 14336 m.dml
    ∷ within 0 512 m.ap
    ∷ [])

-- rows DQ1 to TD
unfoldable pub signals_in_range : Memory → Bool
signals_in_range m =
    every
    (float_words m.dq
    ∷ is_float_word 15 m.sr1
    ∷ is_float_word 15 m.sr2
    ∷ within 0 1 m.pk1
    ∷ within 0 1 m.pk2
    ∷ within 0 1 m.td
    ∷ [])

unfoldable pub memory_in_range : Memory → Bool
memory_in_range m = every (adaptation_in_range m ∷ signals_in_range m ∷ [])

unfoldable pub in_range : State → Bool
in_range s = every (memory_in_range s.memory ∷ within 2 4 s.core ∷ [])
