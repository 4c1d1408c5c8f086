-- Demand 3's premise can be met, whichever the ends. Three frames in a row, of eight samples each, at width 5 and core 2, the later ones with a number: the encoder speaks
-- mu-law, linear samples and mu-law again, one base station drops to 3 and the next to 2, the decoder hears A-law, A-law and linear samples, and every buffer is exactly
-- long enough. The linear samples reach both ends of the levels.
use mathlib.Core.Bool.{true}
use mathlib.Core.List.{List, [], ◌∷◌}
use mathlib.Core.Path.{◌≡◌, refl}
use Prim.Native.Nat.{ℕ, ◌+◌}
use native.Mathlib.Omega.{arith}
use lib.IntN.{pos, neg_ℤ}
use lib.ListN.{length, replicate, length-replicate}
use Rattle.words.specs.Within.{Within}
use Rattle.words.proofs.Within.{within_says}
use Rattle.linear.specs.Linear.{is_level}
use Rattle.quantizer.proofs.Pairs.{pair_says}
use Rattle.state.specs.Reset.{reset_of}
use Rattle.sample.specs.End.{End, pcm, linear, Sample, is_end}
use Rattle.frame.specs.Header.{plain, numbered, header_length, most_groups}
use Rattle.levels.specs.Encode.{are_taken}
use Rattle.tracking.specs.Stream.{Transfer, AllUnrefused, EqualThroughout, Fit, AllFit}
use Rattle.tracking.proofs.Fit.{demand_3_fit}

abbrev pub mu_law : End
mu_law = pcm 0

abbrev pub A_law : End
A_law = pcm 1

-- what a buffer of the end holds before the call
abbrev blank : (end : End) → Sample end
blank (pcm LAW) = 0
blank linear = pos 0

-- the transfer of a frame's samples from one end to another, in an edition whose header has n octets; the frames have n + 5, n + 3 and n + 2
abbrev pub transfer : (from to : End) → ℕ → ℕ → List (Sample from) → Transfer
transfer from to e n samples =
    record {
      sent = record { end = from; edition = e; width = 5; samples = samples; buffer = replicate (n + 5) 0 };
      stations = record { width = 3; buffer = replicate (n + 3) 0 } ∷ record { width = 2; buffer = replicate (n + 2) 0 } ∷ [];
      end = to;
      buffer = replicate 8 (blank to);
    }

abbrev pub stream : List Transfer
stream =
    transfer mu_law A_law plain 2 (0xFF ∷ 0x7F ∷ 0xFE ∷ 0x7E ∷ 0xFD ∷ 0xFC ∷ 0x80 ∷ 0x00 ∷ [])
    ∷ transfer linear A_law numbered 3 (pos 0 ∷ neg_ℤ (pos 1) ∷ pos 1 ∷ pos 8191 ∷ neg_ℤ (pos 8192) ∷ pos 4000 ∷ neg_ℤ (pos 4000) ∷ pos 7 ∷ [])
    ∷ transfer mu_law linear numbered 3 (0x9A ∷ 0x1A ∷ 0xB3 ∷ 0x40 ∷ 0xC7 ∷ 0x2E ∷ 0x00 ∷ 0xFF ∷ [])
    ∷ []

-- nothing is asked of the samples but that they are eight, and that the end takes them
pub fit : (from to : End) (e n : ℕ) → Within plain numbered e → header_length e ≡ n → (samples : List (Sample from)) → length samples ≡ 8 → are_taken from samples ≡ true
    → is_end from ≡ true → is_end to ≡ true → Fit 2 (transfer from to e n samples)
unfolding most_groups
fit from to e n known long samples eight taken from_is to_is =
    record {
      sending =
          record {
            known = from_is;
            taken = taken;
            header = record { known = known; pair = pair_says 5 2 refl; count = record { low = omega arith; high = omega arith } };
            whole = omega arith;
            room = rw (length-replicate {A = ℕ} (n + 5) 0) (omega arith);
          };
      stations = (within_says 2 5 3 refl, rw (length-replicate {A = ℕ} (n + 3) 0) (omega arith), (within_says 2 3 2 refl, rw (length-replicate {A = ℕ} (n + 2) 0) (omega arith), tt));
      known = to_is;
      room = rw (length-replicate {A = Sample to} 8 (blank to)) (omega arith);
    }

pub all_fit : AllFit 2 stream
unfolding header_length is_level
all_fit =
    (fit _ _ _ _ (omega arith) refl _ refl refl refl refl, (fit _ _ _ _ (omega arith) refl _ refl refl refl refl, (fit _ _ _ _ (omega arith) refl _ refl refl refl refl, tt)))

-- from one reset to core 2 on: none of the twelve calls is refused, and the decoder's state is the encoder's after every frame
pub witness : AllUnrefused (reset_of 2) (reset_of 2) stream × EqualThroughout (reset_of 2) (reset_of 2) stream
witness = demand_3_fit 2 (within_says 2 4 2 refl) stream all_fit
