-- The rules' table as a test and as facts: each follows from the other. The reset state is in range, its words are words, and its core and number are
-- those that it was made with.
use mathlib.Core.Bool.{true}
use mathlib.Core.List.{List, [], ◌∷◌}
use mathlib.Core.Path.{◌≡◌, refl}
use Prim.Native.Nat.{ℕ, ◌/◌, ◌%◌, zero-le, ◌≤◌}
use native.Mathlib.Omega.{arith}
use lib.ListN.{length, get_or}
use Rattle.std.specs.List.{list_all}
use Rattle.words.specs.Every.{every}
use borrow.Author.Tests.{leb-true, ltb-true, le-leb, lt-ltb}
use Rattle.words.specs.Within.{Within, within}
use Rattle.words.proofs.Rows.{every_says, every_of}
use Rattle.words.proofs.Within.{within_says, within_of}
use Rattle.predictor.specs.Float.{FloatWord}
use Rattle.state.specs.declared.memory.Memory.{Memory}
use Rattle.state.specs.declared.State.{State}
use Rattle.state.specs.Reset.{reset_memory, reset_of}
use Rattle.state.specs.Range.{is_float_word, float_words, adaptation_in_range, signals_in_range, memory_in_range, in_range}
use Rattle.state.specs.InRange.{FloatWords, MemoryInRange, InRange}
use Rattle.state.specs.Words.{Words}

float_says : (most w : ℕ) → is_float_word most w ≡ true → FloatWord most w
unfolding is_float_word
float_says most w t =
    let r = every_says _ t in
    record { word = ltb-true w 2048 r.0; exponent = leb-true (w / 64 % 16) most r.1.0; mantissa = leb-true 32 (w % 64) r.1.1.0 }

float_words_of : {most w : ℕ} → FloatWord most w → is_float_word most w ≡ true
unfolding is_float_word
float_words_of f = every_of _ (lt-ltb _ _ f.word, (le-leb _ _ f.exponent, (le-leb _ _ f.mantissa, tt)))

words_say : (dq : List ℕ) → float_words dq ≡ true → FloatWords dq
unfolding float_words
words_say dq t =
    let r = every_says _ t in
    record {
      dq1 = float_says 14 (get_or dq 0 0) r.0;
      dq2 = float_says 14 (get_or dq 1 0) r.1.0;
      dq3 = float_says 14 (get_or dq 2 0) r.1.1.0;
      dq4 = float_says 14 (get_or dq 3 0) r.1.1.1.0;
      dq5 = float_says 14 (get_or dq 4 0) r.1.1.1.1.0;
      dq6 = float_says 14 (get_or dq 5 0) r.1.1.1.1.1.0;
    }

-- six words are tested one after the other
pub six_float_words : (dq : List ℕ) → length dq ≡ 6 → float_words dq ≡ list_all (λ w. is_float_word 14 w) dq
unfolding float_words every
six_float_words (a ∷ b ∷ c ∷ d ∷ e ∷ f ∷ []) h = refl
six_float_words [] h = absurd (omega arith)
six_float_words (a ∷ []) h = absurd (omega arith)
six_float_words (a ∷ b ∷ []) h = absurd (omega arith)
six_float_words (a ∷ b ∷ c ∷ []) h = absurd (omega arith)
six_float_words (a ∷ b ∷ c ∷ d ∷ []) h = absurd (omega arith)
six_float_words (a ∷ b ∷ c ∷ d ∷ e ∷ []) h = absurd (omega arith)
six_float_words (a ∷ b ∷ c ∷ d ∷ e ∷ f ∷ x ∷ xs) h = absurd (omega arith)

words_of : {dq : List ℕ} → FloatWords dq → float_words dq ≡ true
unfolding float_words
words_of f =
    every_of _ (float_words_of f.dq1, (float_words_of f.dq2, (float_words_of f.dq3, (float_words_of f.dq4, (float_words_of f.dq5, (float_words_of f.dq6, tt))))))

memory_says : (m : Memory) → memory_in_range m ≡ true → MemoryInRange m
unfolding memory_in_range adaptation_in_range signals_in_range
memory_says m t =
    let r = every_says _ t in
    let a = every_says _ r.0 in
    let g = every_says _ r.1.0 in
    record {
      fast = within_says 544 5120 m.yu a.0;
      slow = within_says 34816 327680 m.yl a.1.0;
      short = (within_says 0 3584 m.dms a.1.1.0).high;
      long = (within_says 0 14336 m.dml a.1.1.1.0).high;
      speed = (within_says 0 512 m.ap a.1.1.1.1.0).high;
      differences = words_say m.dq g.0;
      signal1 = float_says 15 m.sr1 g.1.0;
      signal2 = float_says 15 m.sr2 g.1.1.0;
      sign1 = (within_says 0 1 m.pk1 g.1.1.1.0).high;
      sign2 = (within_says 0 1 m.pk2 g.1.1.1.1.0).high;
      tone = (within_says 0 1 m.td g.1.1.1.1.1.0).high;
    }

pub range_says : (s : State) → in_range s ≡ true → InRange s
unfolding in_range
range_says s t =
    let r = every_says _ t in
    record { memory = memory_says s.memory r.0; cores = within_says 2 4 s.core r.1.0 }

upto : {greatest n : ℕ} → n ≤ greatest → within 0 greatest n ≡ true
upto h = within_of (record { low = zero-le; high = h })

memory_of : (m : Memory) → MemoryInRange m → memory_in_range m ≡ true
unfolding memory_in_range adaptation_in_range signals_in_range
memory_of m i =
    every_of _ (
      every_of _ (within_of i.fast, (within_of i.slow, (upto i.short, (upto i.long, (upto i.speed, tt))))),
      (
        every_of _ (words_of i.differences, (float_words_of i.signal1, (float_words_of i.signal2, (upto i.sign1, (upto i.sign2, (upto i.tone, tt)))))),
        tt,
      ),
    )

pub range_of : (s : State) → InRange s → in_range s ≡ true
unfolding in_range
range_of s i = every_of _ (memory_of s.memory i.memory, (within_of i.cores, tt))

pub reset_memory_in_range : MemoryInRange reset_memory
unfolding reset_memory
reset_memory_in_range =
    let word14 : FloatWord 14 32 = omega arith in
    let word15 : FloatWord 15 32 = omega arith in
    record {
      fast = omega arith;
      slow = omega arith;
      short = omega arith;
      long = omega arith;
      speed = omega arith;
      differences = record { dq1 = word14; dq2 = word14; dq3 = word14; dq4 = word14; dq5 = word14; dq6 = word14 };
      signal1 = word15;
      signal2 = word15;
      sign1 = omega arith;
      sign2 = omega arith;
      tone = omega arith;
    }

pub reset_in_range : (core : ℕ) → Within 2 4 core → InRange (reset_of core)
unfolding reset_of
reset_in_range core w = record { memory = reset_memory_in_range; cores = w }

pub reset_core : (core : ℕ) → (reset_of core).core ≡ core
unfolding reset_of
reset_core core = refl

pub reset_numbered : (core : ℕ) → (reset_of core).number ≡ 0
unfolding reset_of
reset_numbered core = refl

pub reset_words : Words reset_memory
unfolding reset_memory
reset_words = record { pole1 = omega arith; pole2 = omega arith; zeros = omega arith; six_zeros = refl; six_differences = refl }
