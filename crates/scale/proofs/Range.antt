-- The scale factors stay in the rules' ranges: YU and Y from 544 to 5,120, YL from 34,816 to 327,680.
use mathlib.Core.Bool.{true, false}
use mathlib.Core.Path.{◌≡◌}
use Prim.Native.Nat.{ℕ, ◌+◌, ◌-◌, ◌*◌, ◌/◌, ◌%◌, ◌≤◌, ◌<◌}
use native.Mathlib.Nat.{mul-le-mul_left}
use native.Mathlib.Omega.{arith}
use lib.Dec.{eqb}
use borrow.Author.Tests.{eqb-true, eqb-false}
use Rattle.words.specs.Notation.{pick}
use Rattle.words.proofs.Pick.{by_pick, cases}
use Rattle.words.specs.Within.{Within}
use Rattle.scale.specs.Scale.{FILTD, FILTE, LIMB, MIX}

pub filtd_word : (WI Y : ℕ) → FILTD WI Y < 8192
unfolding FILTD
filtd_word WI Y = omega arith

pub limb_range : (YUT : ℕ) → YUT < 8192 → Within 544 5120 (LIMB YUT)
unfolding LIMB
limb_range YUT h =
    let gell = (YUT + 15840) % 16384 / 8192 in
    let geul = (YUT + 11264) % 16384 / 8192 in
    by_pick (Within 544 5120) (eqb gell 1) 544 (pick (eqb geul 0) 5120 YUT)
    (λ e. omega arith)
    (λ e. by_pick (Within 544 5120) (eqb geul 0) 5120 YUT (λ g. omega arith) (λ g. omega (arith, eqb-false gell 1 e, eqb-false geul 0 g)))

module _ (YUP YL : ℕ) (u : Within 544 5120 YUP) (l : Within 34816 327680 YL) where
  abbrev part : ℕ
  part = (1048576 - YL) / 64

  rise : (YUP + part) % 16384 / 8192 ≡ 0 → Within 34816 327680 ((YL + (YUP + part) % 16384) % 524288)
  rise e =
      let DIF : (YUP + part) % 16384 + 16384 ≡ YUP + part = omega arith in
      let sum : (YL + (YUP + part) % 16384) % 524288 ≡ YL + (YUP + part) % 16384 = omega arith in
      rw sum (omega arith)

  fall : ((YUP + part) % 16384 / 8192 ≡ 0 → ⊥) → Within 34816 327680 ((YL + ((YUP + part) % 16384 + 507904)) % 524288)
  fall e =
      let DIF : (YUP + part) % 16384 ≡ YUP + part = omega arith in
      let sum : (YL + ((YUP + part) % 16384 + 507904)) % 524288 + 16384 ≡ YL + (YUP + part) = omega arith in
      omega arith

  pub filte_range : Within 34816 327680 (FILTE YUP YL)
  unfolding FILTE
  filte_range =
      let DIF = (YUP + part) % 16384 in
      cases (eqb (DIF / 8192) 0)
      (λ e. rw e (rise (eqb-true (DIF / 8192) 0 e)))
      (λ e. rw e (fall (eqb-false (DIF / 8192) 0 e)))

-- a share of 64 parts is no more than the whole
share : (d a : ℕ) → a ≤ 64 → d * a / 64 ≤ d
share d a h = omega (arith, mul-le-mul_left d h)

-- Y lies between the two scale factors that it mixes
module _ (AL YU YL : ℕ) (al : AL ≤ 64) (u : Within 544 5120 YU) (l : Within 34816 327680 YL) where
  abbrev DIF : ℕ
  DIF = (YU + 16384 - YL / 64) % 16384

  rising : eqb (DIF / 8192) 0 ≡ true → Within 544 5120 (MIX AL YU YL)
  unfolding MIX
  rising e = rw e (omega (arith, eqb-true (DIF / 8192) 0 e, share DIF AL al))

  falling : eqb (DIF / 8192) 0 ≡ false → Within 544 5120 (MIX AL YU YL)
  unfolding MIX
  falling e = rw e (omega (arith, eqb-false (DIF / 8192) 0 e, share ((16384 - DIF) % 8192) AL al))

  pub mix_range : Within 544 5120 (MIX AL YU YL)
  mix_range = cases (eqb (DIF / 8192) 0) rising falling
