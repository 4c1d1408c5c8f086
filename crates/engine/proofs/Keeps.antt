-- A step from a memory in range ends in range: all of the rules' table, float words included, for every DQ of a sign and 14 bits.
use mathlib.Core.Path.{◌≡◌}
use Prim.Native.Nat.{ℕ, ◌+◌, ◌*◌, ◌≤◌, ◌<◌}
use native.Mathlib.Omega.{arith}
use Rattle.words.specs.Within.{Within}
use Rattle.predictor.specs.Sums.{ADDC}
use Rattle.predictor.specs.Coefficient.{LIMC, UPA2}
use Rattle.predictor.specs.Tone.{TRANS}
use Rattle.predictor.specs.Float.{FLOATA, FloatWord}
use Rattle.predictor.proofs.Range.{addb_range, pk0_range, floata_range, floatb_range, tone_range, trigb_range}
use Rattle.scale.proofs.Range.{filtd_word, limb_range, filte_range}
use Rattle.speed.proofs.Range.{filta_range, filtb_range, filtc_range, subtc_range, triga_range}
use Rattle.state.specs.declared.memory.Memory.{Memory}
use Rattle.state.specs.InRange.{MemoryInRange}
use Rattle.engine.specs.Estimate.{SE, SEZ}
use Rattle.engine.specs.Adaptation.{scales_of, speeds_of}
use Rattle.engine.specs.Prediction.{poles_of}
use Rattle.engine.specs.Advance.{advance_of}

-- what the inverse quantizer gives: a sign and a magnitude of 14 bits
pub record SignedMagnitude (DQ : ℕ) : Type 0 where
  pub sign : ℕ
  pub magnitude : ℕ
  pub bit : sign < 2
  pub short : magnitude < 16384
  pub is : DQ ≡ sign * 16384 + magnitude

module _ (m : Memory) (i : MemoryInRange m) where
  yup_range : (WI Y : ℕ) → Within 544 5120 (scales_of m WI Y).yup
  unfolding scales_of
  yup_range WI Y = limb_range _ (filtd_word WI Y)

  ylp_range : (WI Y : ℕ) → Within 34816 327680 (scales_of m WI Y).ylp
  unfolding scales_of
  ylp_range WI Y = filte_range _ m.yl (yup_range WI Y) i.slow

  module _ (FI TDP TR Y : ℕ) (f : FI ≤ 7) where
    dmsp_range : (speeds_of m FI TDP TR Y).dmsp ≤ 3584
    unfolding speeds_of
    dmsp_range = filta_range _ _ f i.short

    dmlp_range : (speeds_of m FI TDP TR Y).dmlp ≤ 14336
    unfolding speeds_of
    dmlp_range = filtb_range _ _ f i.long

    apr_range : (speeds_of m FI TDP TR Y).apr ≤ 512
    unfolding speeds_of
    apr_range = triga_range TR _ (filtc_range _ _ (subtc_range _ _ _ _) i.speed)

  tdp_bit : (PK0 SIGPK TR : ℕ) → (poles_of m PK0 SIGPK TR).tdp < 2
  unfolding poles_of
  tdp_bit PK0 SIGPK TR = tone_range (LIMC (UPA2 PK0 m.pk1 m.pk2 m.a1 m.a2 SIGPK))

  module _ (DQ WI FI : ℕ) (d : SignedMagnitude DQ) (f : FI ≤ 7) where
    dq0_range : FloatWord 14 (FLOATA 14 DQ)
    dq0_range = rw d.is (floata_range _ d.magnitude d.bit d.short)

    pub advance_in_range : MemoryInRange (advance_of m DQ WI FI)
    unfolding advance_of
    advance_in_range =
        let TR = TRANS m.td m.yl DQ in
        let sign = ADDC 14 DQ (SEZ m) in
        record {
          fast = yup_range WI _;
          slow = ylp_range WI _;
          short = dmsp_range FI _ _ _ f;
          long = dmlp_range FI _ _ _ f;
          speed = apr_range FI _ _ _ f;
          differences =
              record {
                dq1 = dq0_range;
                dq2 = i.differences.dq1;
                dq3 = i.differences.dq2;
                dq4 = i.differences.dq3;
                dq5 = i.differences.dq4;
                dq6 = i.differences.dq5;
              };
          signal1 = floatb_range _ (addb_range 14 DQ (SE m));
          signal2 = i.signal1;
          sign1 = omega (arith, pk0_range 14 DQ (SEZ m));
          sign2 = i.sign1;
          tone = omega (arith, trigb_range TR _ 2 (tdp_bit sign.pk0 sign.sigpk TR));
        }
