-- The values at decoder output (Tables 1 and 2/G.711, column 7) as the code computes them, and EXPAND made of them.
use mathlib.Core.Path.{◌≡◌}
use mathlib.Core.List.{List}
use Prim.Native.Nat.{ℕ, ◌+◌, ◌-◌, ◌*◌, ◌/◌, ◌%◌, ◌^◌, ◌≤◌, ◌<◌}
use lib.Dec.{eqb, ltb, eqb-suc-zero}
use lib.ListN.{get_or}
use Rattle.words.specs.Notation.{pick, ◌**◌}
use Rattle.g711.specs.G711.{outputs_mu, outputs_A}
use Rattle.g711.specs.Expand.{SS_mu, SS_A, EXPAND}
use Rattle.g711.proofs.Computed.{agree, bounded}

-- both ends of the n-th interval of `chord_of`, added
abbrev pub middle_of : ℕ → ℕ
middle_of n = (n % 16 * 2 + 33) * 2 ^ (n / 16)

abbrev pub outputs : ℕ → List ℕ
outputs LAW = pick (eqb LAW 0) outputs_mu outputs_A

abbrev output_of : ℕ → ℕ → ℕ
output_of n LAW = pick (eqb LAW 0) (middle_of n - 33) (pick (ltb n 16) (n * 2 + 1) (middle_of n / 2))

output_is : (n LAW : ℕ) → n < 128 → get_or (outputs LAW) n 0 ≡ output_of n LAW
unfolding outputs_mu outputs_A
output_is = agree (λ i l. get_or (outputs l) i 0) output_of (λ i l. simp eqb-suc-zero) 128 tt tt

pub output_mu_is : (n : ℕ) → n < 128 → get_or outputs_mu n 0 ≡ middle_of n - 33
output_mu_is n h = output_is n 0 h

pub output_A_is : (n : ℕ) → n < 128 → get_or outputs_A n 0 ≡ pick (ltb n 16) (n * 2 + 1) (middle_of n / 2)
output_A_is n h = output_is n 1 h

output_high : (n LAW : ℕ) → n < 128 → get_or (outputs LAW) n 0 ≤ 8031
unfolding outputs_mu outputs_A
output_high = bounded (λ i l. get_or (outputs l) i 0) (λ i l. 8031) (λ i l. simp eqb-suc-zero) 128 tt tt

pub output_mu_high : (n : ℕ) → n < 128 → get_or outputs_mu n 0 ≤ 8031
output_mu_high n h = output_high n 0 h

pub output_A_high : (n : ℕ) → n < 128 → get_or outputs_A n 0 ≤ 8031
output_A_high n h = output_high n 1 h

-- EXPAND as the code takes its steps
abbrev expanded : ℕ → ℕ → ℕ
expanded S LAW =
    let T = pick (eqb LAW 0) S (S ** 85) in
    let n = pick (eqb LAW 0) ((255 - S) % 128) (T % 128) in
    let SSQ = pick (eqb LAW 0) (get_or outputs_mu n 0) (get_or outputs_A n 0 * 2) in
    pick (ltb T 128) ((16384 - SSQ) % 16384) SSQ

pub expand_is : (S LAW : ℕ) → S < 256 → EXPAND S LAW ≡ expanded S LAW
unfolding EXPAND SS_mu SS_A outputs_mu outputs_A
expand_is = agree EXPAND expanded (λ i l. simp eqb-suc-zero) 256 tt tt
