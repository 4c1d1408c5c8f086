-- The loop that decodes a run of codewords, whichever end hears them: the memory so far is in range, the run of the rest is the whole run, what the
-- end puts out so far stands in the buffer, and what it counts is summed.
use mathlib.Core.Path.{◌≡◌, ◌∙◌}
use mathlib.Core.List.{List, [], append-nil}
use Prim.Native.Nat.{ℕ, ◌+◌, ◌^◌, ◌≤◌, ◌<◌}
use native.Mathlib.Omega.{arith}
use lib.ListN.{length, get_or, set, drop, drop_of_length-le}
use Rattle.lists.specs.Run.{outs}
use Rattle.lists.proofs.Filled.{Filled, filled_none, filled_more, filled_all}
use Rattle.lists.proofs.Runs.{outs_length}
use Rattle.lists.proofs.Running.{Running, running_none, running_more, running_done, Putting, putting_none, putting_at, putting_more, Summing, summing_none, summing_more, summing_done}
use Rattle.quantizer.specs.Pair.{Pair}
use Rattle.state.specs.declared.memory.Memory.{Memory}
use Rattle.state.specs.InRange.{MemoryInRange}
use Rattle.sample.specs.Decode.{decoder_next}
use Rattle.sample.proofs.Tracks.{decode_in_range}
use Rattle.codewords.specs.Codewords.{decoded_memory}
use Rattle.codewords.specs.Inner.{HearsAll}

module _ (core width : ℕ) {B : Type 0} (put : Memory → ℕ → B) (count : Memory → ℕ → ℕ) (m : Memory) (cws : List ℕ) (before : List B) where
  pub record Decoding (k : ℕ) (t : Memory) (sum : ℕ) (out : List B) : Type 0 where
    pub range : MemoryInRange t
    pub few : sum ≤ k
    pub run : Running (decoder_next core width) m cws k t
    pub rest : Putting (decoder_next core width) m cws put k t
    pub summed : Summing (decoder_next core width) m cws count k t sum
    pub filled : Filled before (outs (decoder_next core width) put m cws) (length cws) k out

  pub decoding_none : MemoryInRange m → length cws ≤ length before → Decoding 0 m 0 before
  decoding_none range room =
      record {
        range = range;
        few = omega arith;
        run = running_none (decoder_next core width) m cws;
        rest = putting_none (decoder_next core width) m cws put;
        summed = summing_none (decoder_next core width) m cws count;
        filled = filled_none before (outs (decoder_next core width) put m cws) (length cws) (outs_length (decoder_next core width) put m cws) room;
      }

  -- one codeword more, I, which counts for one at most; b is any value of what is put out
  module _ {k : ℕ} {t : Memory} {sum : ℕ} {out : List B} (b : B) (c : Decoding k t sum out) (more : k < length cws) where
    abbrev I : ℕ
    I = get_or cws k 0

    decoding_more : Pair width core → I < 2 ^ width → count t I ≤ 1 → Decoding (k + 1) (decoder_next core width t I) (sum + count t I) (set out k (put t I))
    decoding_more pair short one =
        record {
          range = decode_in_range t pair c.range I short;
          few = omega (arith, c.few, one);
          run = running_more (decoder_next core width) m cws 0 c.run more;
          rest = putting_more (decoder_next core width) m cws put 0 b c.rest more;
          summed = summing_more (decoder_next core width) m cws count 0 c.summed more;
          filled = filled_more before (outs (decoder_next core width) put m cws) (length cws) b c.filled more (putting_at (decoder_next core width) m cws put 0 b c.rest more);
        }

    -- by what an end answers for it: the sample b, the count d and the memory u
    pub decoding_heard : {J d : ℕ} {u : Memory} → J ≡ I → Pair width core → J < 2 ^ width → b ≡ put t J → d ≡ count t J → d ≤ 1 → u ≡ decoder_next core width t J
        → Decoding (k + 1) u (sum + d) (set out k b)
    decoding_heard read pair short heard counted few moved =
        rw (moved, counted, heard, read)
        (decoding_more pair (rw read at short) (rw (counted, read) at few))

  pub decoding_done : {k : ℕ} {t : Memory} {sum : ℕ} {out : List B} → Decoding k t sum out → length before ≡ k → length cws ≡ k → HearsAll put count core width m cws out sum t
  unfolding decoded_memory
  decoding_done c whole all =
      record {
        memory = running_done (decoder_next core width) m cws c.run (omega arith);
        disagreements_are = summing_done (decoder_next core width) m cws count c.summed (omega arith);
        out =
            let none : drop (length cws) before ≡ [] = drop_of_length-le before (omega arith) in
            filled_all before (outs (decoder_next core width) put m cws) (length cws) c.filled (omega arith) ∙ rw none (append-nil (outs (decoder_next core width) put m cws));
      }
