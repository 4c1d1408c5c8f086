-- Whole runs of levels: encoding at a narrower width gives the thinned codewords and the same memory, and a decoder that is given the thinned
-- codewords ends in the encoder's memory.
use mathlib.Core.List.{List, [], ◌∷◌, map}
use mathlib.Core.Path.{◌≡◌, refl, ap, ◌∙◌}
use Prim.Native.Nat.{ℕ, zero, suc, ◌-◌, ◌^◌, ◌≤◌, ◌<◌}
use native.Mathlib.Omega.{arith}
use lib.ListN.{length, get_or}
use Rattle.words.specs.Notation.{◌>>◌}
use Rattle.lists.specs.Run.{last, outs}
use Rattle.lists.proofs.Runs.{last_keeps}
use Rattle.quantizer.specs.Pair.{Pair}
use Rattle.state.specs.declared.memory.Memory.{Memory}
use Rattle.state.specs.InRange.{MemoryInRange}
use Rattle.sample.specs.Encode.{encoder_next, codeword_of}
use Rattle.sample.specs.Decode.{decoder_next}
use Rattle.sample.proofs.Tracks.{encode_thinned, encode_same_memory, decode_tracks, encode_codeword, encode_in_range, decode_in_range}

-- a codeword of w bits without its w - v lowest
abbrev pub thin : ℕ → ℕ → ℕ → ℕ
thin w v I = I >> (w - v)

module _ (core v w : ℕ) (pv : Pair v core) (pw : Pair w core) (narrow : v ≤ w) where
  pub codewords_thinned : (m : Memory) (xs : List ℕ)
      → outs (encoder_next core v) (codeword_of core v) m xs ≡ map (thin w v) (outs (encoder_next core w) (codeword_of core w) m xs)
  unfolding outs
  codewords_thinned m [] = refl
  codewords_thinned m (x ∷ xs) =
      rw (encode_thinned core m v w x pv pw narrow, encode_same_memory core m v w x pv pw narrow, codewords_thinned (encoder_next core w m x) xs)

  pub memories_same : (m : Memory) (xs : List ℕ) → last (encoder_next core v) m xs ≡ last (encoder_next core w) m xs
  unfolding last
  memories_same m [] = refl
  memories_same m (x ∷ xs) = rw (encode_same_memory core m v w x pv pw narrow) (memories_same (encoder_next core w m x) xs)

  pub memories_track : (m : Memory) (xs : List ℕ)
      → last (decoder_next core v) m (map (thin w v) (outs (encoder_next core w) (codeword_of core w) m xs)) ≡ last (encoder_next core w) m xs
  unfolding last outs
  memories_track m [] = refl
  memories_track m (x ∷ xs) =
      ap (λ (t : Memory). last (decoder_next core v) t (map (thin w v) (outs (encoder_next core w) (codeword_of core w) (encoder_next core w m x) xs))) (decode_tracks core m v w x pv pw narrow)
      ∙ memories_track (encoder_next core w m x) xs

module _ {core w : ℕ} (p : Pair w core) where
  -- every codeword of a run is one of the run's width
  pub codewords_short : (m : Memory) (xs : List ℕ) (k : ℕ) → k < length (outs (encoder_next core w) (codeword_of core w) m xs)
      → get_or (outs (encoder_next core w) (codeword_of core w) m xs) k 0 < 2 ^ w
  unfolding outs
  codewords_short m [] k h = absurd (omega arith)
  codewords_short m (x ∷ xs) zero h = (encode_codeword m p x).short
  codewords_short m (x ∷ xs) (suc k) h = codewords_short (encoder_next core w m x) xs k (omega arith)

  -- encoding keeps a memory in range
  pub run_in_range : (m : Memory) → MemoryInRange m → (xs : List ℕ) → MemoryInRange (last (encoder_next core w) m xs)
  run_in_range m i xs = last_keeps (encoder_next core w) MemoryInRange (λ t x j. encode_in_range t p j x) m i xs

  -- and so does decoding codewords of the width
  pub heard_in_range : (m : Memory) → MemoryInRange m → (cws : List ℕ) → ((k : ℕ) → k < length cws → get_or cws k 0 < 2 ^ w) → MemoryInRange (last (decoder_next core w) m cws)
  unfolding last
  heard_in_range m i [] short = i
  heard_in_range m i (c ∷ cws) short =
      heard_in_range (decoder_next core w m c) (decode_in_range m p i c (short 0 (omega arith))) cws (λ k h. short (suc k) (omega arith))
