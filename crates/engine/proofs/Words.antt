-- What a step gives is words, whatever it starts from: A1, A2 and B1 to B6 have 16 bits, and there are six B and six DQ.
use mathlib.Core.Path.{refl}
use Prim.Native.Nat.{ℕ, ◌<◌}
use Rattle.predictor.proofs.Range.{limc_range, limd_range, trigb_range, upa1_range, upa2_range, upb_range}
use Rattle.state.specs.declared.memory.Memory.{Memory}
use Rattle.state.specs.Words.{Words}
use Rattle.engine.specs.Prediction.{poles_of, zero_of, zeros_of}
use Rattle.engine.specs.Advance.{advance_of}

module _ (m : Memory) (PK0 SIGPK TR : ℕ) where
  a1r_word : (poles_of m PK0 SIGPK TR).a1r < 65536
  unfolding poles_of
  a1r_word = trigb_range TR _ 65536 (limd_range _ _ (upa1_range _ _ _ _))

  a2r_word : (poles_of m PK0 SIGPK TR).a2r < 65536
  unfolding poles_of
  a2r_word = trigb_range TR _ 65536 (limc_range _ (upa2_range _ _ _ _ _ _))

bnr_word : (TR DQ Bn DQn : ℕ) → zero_of TR DQ Bn DQn < 65536
unfolding zero_of
bnr_word TR DQ Bn DQn = trigb_range TR _ 65536 (upb_range 14 _ _ _)

pub advance_words : (m : Memory) (DQ WI FI : ℕ) → Words (advance_of m DQ WI FI)
unfolding advance_of zeros_of
advance_words m DQ WI FI =
    let word = bnr_word _ DQ in
    record {
      pole1 = a1r_word m _ _ _;
      pole2 = a2r_word m _ _ _;
      zeros = record { b1 = word _ _; b2 = word _ _; b3 = word _ _; b4 = word _ _; b5 = word _ _; b6 = word _ _ };
      six_zeros = refl;
      six_differences = refl;
    }
