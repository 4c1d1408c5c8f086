-- The linear end of a decoder: the reconstructed signal of the output path, read as signed and held to the levels.
-- No byte is made of it, and none is adjusted.
use Rattle.std.specs.Prelude.{ℕ, ℤ}
use Rattle.linear.specs.Linear.{signed, held}
use Rattle.state.specs.declared.memory.Memory.{Memory}
use Rattle.sample.specs.declared.end.Heard.{Heard}
use Rattle.sample.specs.Decode.{decode_of}

module _ (core width : ℕ) where
  unfoldable pub sampled_of : Memory → ℕ → Heard ℤ
  sampled_of m I =
      let d = decode_of core width m I in
      record { sample = held (signed 16 d.sr); disagreement = 0; memory = d.memory }

  -- as a step of a run: what is put out
  abbrev pub signal_of : Memory → ℕ → ℤ
  signal_of m I = (sampled_of m I).sample
