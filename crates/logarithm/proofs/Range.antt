-- The ranges of LOG, SUBTB, ADDA and ANTILOG, for scale factors from 544 to 5,120.
use mathlib.Core.Path.{◌≡◌}
use mathlib.Core.Logic.{◌⊎◌, inl, inr}
use Prim.Native.Nat.{ℕ, ◌+◌, ◌-◌, ◌*◌, ◌/◌, ◌%◌, ◌≤◌, ◌<◌}
use native.Mathlib.Omega.{arith}
use native.Mathlib.Decide.{dec_le, dec_lt}
use lib.Dec.{eqb}
use borrow.Author.Tests.{eqb-true}
use Rattle.words.specs.Notation.{pick}
use Rattle.words.specs.Length.{bit_length}
use Rattle.words.proofs.Length.{length_le}
use Rattle.words.proofs.Pick.{by_pick}
use Rattle.logarithm.specs.Difference.{SUBTA}
use Rattle.logarithm.specs.Logarithm.{LOG, SUBTB, ADDA, ANTILOG}
use Rattle.logarithm.proofs.Magnitude.{DQMAG, antilog_negative, antilog_positive, magnitude_small}

pub subta_word : (SL SE : ℕ) → SUBTA SL SE < 65536
unfolding SUBTA
subta_word SL SE = omega arith

-- DL has 4 exponent bits, 14 at most, and 7 mantissa bits
pub log_range : (D : ℕ) → D < 65536 → (LOG D).dl ≤ 1919
unfolding LOG
log_range D h =
    let DQM = pick (eqb (D / 32768) 0) D ((65536 - D) % 32768) in
    let low : DQM < 32768 = by_pick (λ (m : ℕ). m < 32768) (eqb (D / 32768) 0) D ((65536 - D) % 32768) (λ e. omega (arith, eqb-true (D / 32768) 0 e)) (λ e. omega arith) in
    let few : bit_length (DQM / 2) ≤ 14 = length_le 14 (DQM / 2) (omega arith) (omega arith) in
    omega arith

pub log_sign : (D : ℕ) → D < 65536 → (LOG D).ds < 2
unfolding LOG
log_sign D h = omega arith

pub normalized_word : (DL Y : ℕ) → SUBTB DL Y < 4096
normalized_word DL Y = omega arith

sides : (DL Y : ℕ) → DL ≤ 1919 → 544 ≤ Y → Y ≤ 5120 → Dec (Y / 4 ≤ DL) → (SUBTB DL Y ≤ 1783) ⊎ (2816 ≤ SUBTB DL Y)
sides DL Y reach low high (yes d) = inl (omega arith)
sides DL Y reach low high (no d) = inr (omega arith)

-- the two halves never meet: the normalized value is 0 to 1,783 or 2,816 to 4,095
pub normalized_range : (D Y : ℕ) → D < 65536 → 544 ≤ Y → Y ≤ 5120
    → (SUBTB (LOG D).dl Y ≤ 1783) ⊎ (2816 ≤ SUBTB (LOG D).dl Y)
normalized_range D Y h low high =
    let DL = (LOG D).dl in
    let reach : DL ≤ 1919 = log_range D h in
    sides DL Y reach low high (dec_le (Y / 4) DL)

pub scaled_word : (DQLN Y : ℕ) → ADDA DQLN Y < 4096
scaled_word DQLN Y = omega arith

-- what a codeword's normalized output, from -264 to 456, becomes: -128 to 1,736
pub scaled_range : (DQLN Y : ℕ) → DQLN < 4096 → (DQLN + 264) % 4096 ≤ 720 → 544 ≤ Y → Y ≤ 5120
    → (ADDA DQLN Y + 128) % 4096 ≤ 1864
scaled_range DQLN Y word near low high = omega arith

-- so ANTILOG's exponent is 13 at most on either path wherever it is used, and DQ has a sign and 14 bits
pub exponent_range : (DQL : ℕ) → (DQL + 128) % 4096 ≤ 1864 → DQL < 2048 → DQL / 128 ≤ 13
exponent_range DQL near high = omega arith

signs : (DQL DQS : ℕ) → DQL < 4096 → (DQL + 128) % 4096 ≤ 1864 → Dec (DQL < 2048)
    → (m : ℕ) × (m < 16384) × (ANTILOG 14 DQL DQS ≡ DQS * 16384 + m)
signs DQL DQS word near (yes d) = (DQMAG DQL, magnitude_small DQL (exponent_range DQL near d), antilog_positive 14 DQL DQS d)
signs DQL DQS word near (no d) = (0, omega arith, omega (arith, antilog_negative 14 DQL DQS (omega arith) word))

pub antilog_range : (DQL DQS : ℕ) → DQL < 4096 → (DQL + 128) % 4096 ≤ 1864
    → (m : ℕ) × (m < 16384) × (ANTILOG 14 DQL DQS ≡ DQS * 16384 + m)
antilog_range DQL DQS word near = signs DQL DQS word near (dec_lt DQL 2048)
