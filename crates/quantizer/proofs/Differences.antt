-- A codeword's difference is a sign and a magnitude of 14 bits, on the feedback path and on the output path alike.
use mathlib.Core.Path.{◌≡◌}
use Prim.Native.Nat.{ℕ, ◌+◌, ◌*◌, ◌%◌, ◌≤◌, ◌<◌}
use Rattle.words.specs.Within.{Within}
use Rattle.logarithm.specs.Logarithm.{ADDA}
use Rattle.logarithm.proofs.Range.{scaled_word, scaled_range, antilog_range}
use Rattle.quantizer.specs.Codeword.{Codeword}
use Rattle.quantizer.specs.Output.{RECONST}
use Rattle.quantizer.proofs.Ranges.{reconst_near}
use Rattle.quantizer.specs.Adaptive.{difference}

module _ {width I Y : ℕ} (code : Codeword width I) (y : Within 544 5120 Y) where
  pub difference_scaled : (ADDA (RECONST width I).dqln Y + 128) % 4096 ≤ 1864
  difference_scaled =
      let near = reconst_near code in
      scaled_range (RECONST width I).dqln Y near.word near.near y.low y.high

  pub difference_range : (m : ℕ) × (m < 16384) × (difference width Y I ≡ (RECONST width I).dqs * 16384 + m)
  unfolding difference
  difference_range = antilog_range (ADDA (RECONST width I).dqln Y) (RECONST width I).dqs (scaled_word (RECONST width I).dqln Y) difference_scaled
