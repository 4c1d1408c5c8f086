-- One codeword decoded (Figures 7 and 11 of G.727). The core bits move the memory on; the whole received codeword I feeds the output path alone:
-- RECONST, ADDA, ANTILOG and ADDB at the received width. What the end makes of the signal is in the end's own file.
use Rattle.std.specs.Prelude.{ℕ}
use Rattle.predictor.specs.Sums.{ADDB}
use Rattle.quantizer.specs.Adaptive.{difference}
use Rattle.state.specs.declared.memory.Memory.{Memory}
use Rattle.engine.specs.Estimate.{Y, SE}
use Rattle.sample.specs.declared.level.Decoded.{Decoded}
use Rattle.sample.specs.Core.{Ic, step_of}

-- the reconstructed signal of the feed-forward path, of a codeword at a width, Y and SE
unfoldable pub SR_FF : ℕ → ℕ → ℕ → ℕ → ℕ
SR_FF width Y SE I = ADDB 14 (difference width Y I) SE

module _ (core width : ℕ) where
  -- the signal, and Y and SE that it was made with, which an end that quantizes again needs
  unfoldable pub decode_of : Memory → ℕ → Decoded
  decode_of m I = record { y = Y m; se = SE m; sr = SR_FF width (Y m) (SE m) I; memory = step_of core m (Ic core width I) }

  -- as a step of a run
  abbrev pub decoder_next : Memory → ℕ → Memory
  decoder_next m I = (decode_of m I).memory
