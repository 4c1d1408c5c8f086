-- The core bits decide: the laws of one sample, each stated once over the widths, for every level and every codeword.
use mathlib.Core.Path.{◌≡◌, ap, ◌∙◌}
use Prim.Native.Nat.{ℕ, ◌-◌, ◌^◌, ◌≤◌, ◌<◌}
use Rattle.words.specs.Notation.{◌>>◌}
use Rattle.logarithm.proofs.Range.{subta_word}
use Rattle.quantizer.specs.Codeword.{Codeword, CoreCodeword}
use Rattle.quantizer.specs.Pair.{Pair}
use Rattle.quantizer.proofs.Halves.{codeword_of_core}
use Rattle.quantizer.proofs.Ranges.{functf_small, reconst_signed}
use Rattle.quantizer.proofs.Coding.{codeword_range, codeword_thinned}
use Rattle.quantizer.proofs.Differences.{difference_range}
use Rattle.quantizer.proofs.Pairs.{pair_width}
use Rattle.state.specs.declared.memory.Memory.{Memory}
use Rattle.state.specs.InRange.{MemoryInRange}
use Rattle.engine.specs.Estimate.{Y, SE}
use Rattle.engine.proofs.Estimates.{y_range}
use Rattle.engine.proofs.Keeps.{advance_in_range}
use Rattle.sample.specs.Core.{Ic, step_of}
use Rattle.sample.specs.Encode.{D, I, encode_of}
use Rattle.sample.specs.Decode.{decode_of}
use Rattle.sample.specs.Pcm.{play_of}
use Rattle.sample.proofs.Cores.{core_codeword, core_of_thinned}

-- a step by a core codeword from a memory in range ends in range
pub step_in_range : (core : ℕ) (m : Memory) {J : ℕ} → MemoryInRange m → CoreCodeword core J → MemoryInRange (step_of core m J)
unfolding step_of
step_in_range core m i code =
    let whole = codeword_of_core code in
    let parts = difference_range whole (y_range m i) in
    advance_in_range m i _ _ _ (record { sign = _; magnitude = parts.0; bit = reconst_signed whole; short = parts.1; is = parts.2 }) (functf_small code)

-- the memory after a sample depends on the codeword through its core bits alone, at any width
pub decode_by_core : (core : ℕ) (m : Memory) (w v J K : ℕ) → Ic core w J ≡ Ic core v K → (decode_of core w m J).memory ≡ (decode_of core v m K).memory
unfolding decode_of
decode_by_core core m w v J K e = ap (step_of core m) e

d_word : (m : Memory) (SL : ℕ) → D m SL < 65536
unfolding D
d_word m SL = subta_word SL (SE m)

module _ (core : ℕ) (m : Memory) (v w SL : ℕ) (pv : Pair v core) (pw : Pair w core) (narrow : v ≤ w) where
  -- encoding at a narrower width gives the thinned codeword
  pub encode_thinned : (encode_of core v m SL).codeword ≡ (encode_of core w m SL).codeword >> (w - v)
  unfolding encode_of I
  encode_thinned = codeword_thinned (Y m) (d_word m SL) (pair_width pv) (pair_width pw) narrow

  -- and the same next memory
  pub encode_same_memory : (encode_of core v m SL).memory ≡ (encode_of core w m SL).memory
  unfolding encode_of
  encode_same_memory = ap (step_of core m) (ap (Ic core v) encode_thinned ∙ core_of_thinned core v w (I w m SL) pv.widths.low narrow)

  -- a decoder given the thinned codeword moves to the encoder's next memory
  pub decode_tracks : (decode_of core v m ((encode_of core w m SL).codeword >> (w - v))).memory ≡ (encode_of core w m SL).memory
  unfolding decode_of encode_of
  decode_tracks = ap (step_of core m) (core_of_thinned core v w (I w m SL) pv.widths.low narrow)

module _ {core w : ℕ} (m : Memory) (p : Pair w core) where
  -- a codeword of width x is below 2 ^ x
  pub encode_codeword : (SL : ℕ) → Codeword w (encode_of core w m SL).codeword
  unfolding encode_of I
  encode_codeword SL = codeword_range (Y m) (d_word m SL) (pair_width p)

  -- a step from a memory in range ends in range
  pub decode_in_range : MemoryInRange m → (J : ℕ) → J < 2 ^ w → MemoryInRange (decode_of core w m J).memory
  unfolding decode_of
  decode_in_range i J h = step_in_range core m i (core_codeword p h)

  pub play_in_range : MemoryInRange m → (LAW : ℕ) {J : ℕ} → Codeword w J → MemoryInRange (play_of LAW core w m J).memory
  unfolding play_of
  play_in_range i LAW {J} code = decode_in_range i J code.short

  pub encode_in_range : MemoryInRange m → (SL : ℕ) → MemoryInRange (encode_of core w m SL).memory
  unfolding encode_of I
  encode_in_range i SL = step_in_range core m i (core_codeword p (codeword_range (Y m) (d_word m SL) (pair_width p)).short)
