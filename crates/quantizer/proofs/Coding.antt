-- Codewords of differences: in range, one inside the other over the widths, and in the order of Tables 17 to 20.
use mathlib.Core.Path.{◌≡◌}
use Prim.Native.Nat.{ℕ, ◌-◌, ◌≤◌, ◌<◌}
use Rattle.words.specs.Notation.{◌>>◌}
use Rattle.logarithm.specs.Logarithm.{LOG, SUBTB}
use Rattle.logarithm.proofs.Range.{log_sign, normalized_word}
use Rattle.quantizer.specs.Codeword.{Width, Codeword}
use Rattle.quantizer.specs.Sync.{IM, ID}
use Rattle.quantizer.specs.Adaptive.{codeword}
use Rattle.quantizer.proofs.Nesting.{coding, nesting, quan_codeword}

module _ (Y : ℕ) {D : ℕ} (word : D < 65536) where
  -- a codeword of width x is below 2 ^ x
  pub codeword_range : {width : ℕ} → Width width → Codeword width (codeword width Y D)
  unfolding codeword
  codeword_range w = quan_codeword w (normalized_word (LOG D).dl Y) (log_sign D word)

  -- at a narrower width it is the thinned codeword
  pub codeword_thinned : {v w : ℕ} → Width v → Width w → v ≤ w → codeword v Y D ≡ codeword w Y D >> (w - v)
  unfolding codeword
  codeword_thinned hv hw h = nesting hv hw h (normalized_word (LOG D).dl Y) (log_sign D word)

  -- SYNC's ID is the place of the codeword that the difference is quantized to
  pub codeword_place : {width : ℕ} → Width width → ID width (SUBTB (LOG D).dl Y) (LOG D).ds ≡ IM width (codeword width Y D)
  unfolding codeword
  codeword_place w = (coding w (normalized_word (LOG D).dl Y) (log_sign D word)).ordered
