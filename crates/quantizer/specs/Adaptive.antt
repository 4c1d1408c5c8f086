-- The two ways through the quantizer at scale factor Y. Figure 5/G.727, the adaptive quantizer: LOG, SUBTB and QUAN. Figure 7/G.727, the inverse
-- adaptive quantizer: RECONST, ADDA and ANTILOG; the feedback path has it at the core's width for the core codeword, the output path at the received
-- width for the received codeword.
use Rattle.std.specs.Prelude.{ℕ}
use Rattle.logarithm.specs.Logarithm.{LOG, SUBTB, ADDA, ANTILOG}
use Rattle.quantizer.specs.Decision.{QUAN}
use Rattle.quantizer.specs.Output.{RECONST}

module _ (width Y : ℕ) where
  -- the codeword I of a difference D
  unfoldable pub codeword : ℕ → ℕ
  codeword D = QUAN width (SUBTB (LOG D).dl Y) (LOG D).ds

  -- the quantized difference DQ of a codeword I
  unfoldable pub difference : ℕ → ℕ
  difference I = ANTILOG 14 (ADDA (RECONST width I).dqln Y) (RECONST width I).dqs
