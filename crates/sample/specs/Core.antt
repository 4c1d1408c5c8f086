-- The core bits decide: what of a codeword moves the memory on. The masking of G.727, section 6.2.3 (Figure 6), leaves the core codeword Ic; the
-- inverse quantizer at the core's width, FUNCTW and FUNCTF read DQ, WI and FI off it, and the step takes these three and nothing else.
use Rattle.std.specs.Prelude.{ℕ, ◌-◌}
use Rattle.words.specs.Notation.{◌>>◌}
use Rattle.quantizer.specs.Adaptive.{difference}
use Rattle.quantizer.specs.Multiplier.{FUNCTW, FUNCTF}
use Rattle.state.specs.declared.memory.Memory.{Memory}
use Rattle.engine.specs.Estimate.{Y}
use Rattle.engine.specs.Advance.{advance_of}

-- "Masking of quantized difference signal to extract the core bits": Ic = I >> E, E = enhancement bits
unfoldable pub Ic : ℕ → ℕ → ℕ → ℕ
Ic core width I = I >> (width - core)

unfoldable pub step_of : ℕ → Memory → ℕ → Memory
step_of core m Ic = advance_of m (difference core (Y m) Ic) (FUNCTW core Ic) (FUNCTF core Ic)
