-- One level encoded (Figures 4 and 5 of G.727): SUBTA, LOG, SUBTB and QUAN at the width, from the estimate that the memory gives; the core bits of
-- the codeword move the memory on. SL is the level that EXPAND gave, or any other end.
use Rattle.std.specs.Prelude.{ℕ}
use Rattle.logarithm.specs.Difference.{SUBTA}
use Rattle.quantizer.specs.Adaptive.{codeword}
use Rattle.state.specs.declared.memory.Memory.{Memory}
use Rattle.engine.specs.Estimate.{Y, SE}
use Rattle.sample.specs.declared.level.Encoded.{Encoded}
use Rattle.sample.specs.Core.{Ic, step_of}

unfoldable pub D : Memory → ℕ → ℕ
D m SL = SUBTA SL (SE m)

unfoldable pub I : ℕ → Memory → ℕ → ℕ
I width m SL = codeword width (Y m) (D m SL)

module _ (core width : ℕ) where
  unfoldable pub encode_of : Memory → ℕ → Encoded
  encode_of m SL = record { codeword = I width m SL; memory = step_of core m (Ic core width (I width m SL)) }

  -- as a step of a run: the next memory, and what is put out
  abbrev pub encoder_next : Memory → ℕ → Memory
  encoder_next m SL = (encode_of m SL).memory

  abbrev pub codeword_of : Memory → ℕ → ℕ
  codeword_of m SL = (encode_of m SL).codeword
