-- From a memory in range, Y is in range and the estimates are 15-bit words.
use mathlib.Core.Path.{◌≡◌, ap}
use Prim.Native.Nat.{◌<◌}
use Rattle.words.specs.Within.{Within}
use Rattle.speed.specs.Speed.{LIMA}
use Rattle.speed.proofs.Range.{lima_range}
use Rattle.scale.proofs.Range.{mix_range}
use Rattle.predictor.proofs.Range.{se_range, sez_range}
use Rattle.state.specs.declared.memory.Memory.{Memory}
use Rattle.state.specs.InRange.{MemoryInRange}
use Rattle.engine.specs.declared.Estimated.{Estimated}
use Rattle.engine.specs.Estimate.{Y, predicted, SE, SEZ, estimate_of}

module _ (m : Memory) where
  pub y_range : MemoryInRange m → Within 544 5120 (Y m)
  unfolding Y
  y_range i = mix_range (LIMA m.ap) m.yu m.yl (lima_range m.ap) i.fast i.slow

  pub se_word : SE m < 32768
  unfolding SE predicted
  se_word = se_range _ _ _ _ _ _ _ _

  pub sez_word : SEZ m < 32768
  unfolding SEZ predicted
  sez_word = sez_range _ _ _ _ _ _ _ _

  -- the parts of what `estimate` answered
  module _ {e : Estimated} (is : e ≡ estimate_of m) where
    pub y_is : e.y ≡ Y m
    unfolding estimate_of
    y_is = ap (λ (x : Estimated). x.y) is

    pub se_is : e.se ≡ SE m
    unfolding estimate_of
    se_is = ap (λ (x : Estimated). x.se) is

    pub sez_is : e.sez ≡ SEZ m
    unfolding estimate_of
    sez_is = ap (λ (x : Estimated). x.sez) is

    -- and their ranges
    pub y_answered : MemoryInRange m → Within 544 5120 e.y
    y_answered i = rw y_is (y_range i)

    pub se_answered : e.se < 32768
    se_answered = rw se_is se_word

    pub sez_answered : e.sez < 32768
    sez_answered = rw sez_is sez_word
