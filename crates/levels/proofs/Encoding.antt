-- The loop that encodes all levels: the memory so far is in range, the run of the rest is the whole run, and the codewords so far stand in the
-- buffer.
use mathlib.Core.Path.{◌≡◌}
use mathlib.Core.List.{List}
use Prim.Native.Nat.{ℕ, ◌+◌, ◌≤◌, ◌<◌}
use lib.ListN.{length, get_or, set, take, drop}
use lib.Seq.{take_at}
use Rattle.lists.specs.Run.{outs}
use Rattle.lists.proofs.Filled.{Filled, filled_none, filled_more, filled_all}
use Rattle.lists.proofs.Runs.{outs_length}
use Rattle.lists.proofs.Running.{Running, running_none, running_more, running_done, Putting, putting_none, putting_at, putting_more}
use Rattle.quantizer.specs.Pair.{Pair}
use Rattle.state.specs.declared.memory.Memory.{Memory}
use Rattle.state.specs.InRange.{MemoryInRange}
use Rattle.sample.specs.declared.level.Encoded.{Encoded}
use Rattle.sample.specs.Encode.{encode_of, encoder_next, codeword_of}
use Rattle.sample.proofs.Tracks.{encode_in_range}
use Rattle.levels.specs.Levels.{encoded_memory, encoded_codewords}
use Rattle.levels.specs.Inner.{EncodesAll}

module _ (core width : ℕ) (m : Memory) (levels before : List ℕ) where
  pub record Encoding (i : ℕ) (t : Memory) (out : List ℕ) : Type 0 where
    pub range : MemoryInRange t
    pub run : Running (encoder_next core width) m levels i t
    pub put : Putting (encoder_next core width) m levels (codeword_of core width) i t
    pub filled : Filled before (encoded_codewords core width m levels) (length levels) i out

  pub encoding_none : MemoryInRange m → length levels ≤ length before → Encoding 0 m before
  unfolding encoded_codewords
  encoding_none range room =
      record {
        range = range;
        run = running_none (encoder_next core width) m levels;
        put = putting_none (encoder_next core width) m levels (codeword_of core width);
        filled = filled_none before (outs (encoder_next core width) (codeword_of core width) m levels) (length levels) (outs_length (encoder_next core width) (codeword_of core width) m levels) room;
      }

  pub encoding_more : {i : ℕ} {t : Memory} {out : List ℕ} {e : Encoded} → Encoding i t out → i < length levels → Pair width core
      → e ≡ encode_of core width t (get_or levels i 0) → Encoding (i + 1) e.memory (set out i e.codeword)
  unfolding encoded_codewords
  encoding_more {i} {t} {out} {e} c more pair is =
      rw is
      (record {
        range = encode_in_range t pair c.range (get_or levels i 0);
        run = running_more (encoder_next core width) m levels 0 c.run more;
        put = putting_more (encoder_next core width) m levels (codeword_of core width) 0 0 c.put more;
        filled = filled_more before (outs (encoder_next core width) (codeword_of core width) m levels) (length levels) 0 c.filled more (putting_at (encoder_next core width) m levels (codeword_of core width) 0 0 c.put more);
      })

  pub encoding_done : {i : ℕ} {t : Memory} {out : List ℕ} → Encoding i t out → length levels ≤ i → EncodesAll core width m levels before out t
  unfolding encoded_memory
  encoding_done c all =
      record {
        memory = running_done (encoder_next core width) m levels c.run all;
        out = filled_all before (encoded_codewords core width m levels) (length levels) c.filled all;
      }

-- the codewords that were encoded are the first of the buffer that they were put into
module _ (core width : ℕ) (m : Memory) (levels : List ℕ) where
  pub codewords_length : length (encoded_codewords core width m levels) ≡ length levels
  unfolding encoded_codewords
  codewords_length = outs_length (encoder_next core width) (codeword_of core width) m levels

  pub codewords_taken : {before after : List ℕ} {r : Memory} → EncodesAll core width m levels before after r
      → take (length levels) after ≡ encoded_codewords core width m levels
  codewords_taken {before} c =
      rw c.out (take_at (encoded_codewords core width m levels) (drop (length levels) before) (length levels) codewords_length)
