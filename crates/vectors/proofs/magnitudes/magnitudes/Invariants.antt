-- What was pushed is below eight, and so is every row's magnitude; the rows that are left are as long as what is missing.
use Rattle.std.proofs.Common.{◌≡◌, ◌+◌, ◌-◌, ◌<◌, All, length, drop, sum_by}
use Rattle.vectors.proofs.magnitudes.magnitudes.Given as goal

abbrev pub invariant-loop-one : goal.invariant-loop-one
invariant-loop-one l =
    All (λ m. m < 8) l.magnitudes.items × All (λ r. (r.0 < 8) × (r.1 < 8)) l.one-items × (length l.magnitudes.items + sum_by (λ r. r.2) (drop l.one-index l.one-items) ≡ 16384)

abbrev pub invariant-loop-place : goal.invariant-loop-place
invariant-loop-place l =
    All (λ m. m < 8) l.magnitudes.items × (l.one < 8) × (l.other < 8)
    × (length l.magnitudes.items + (l.place-end - l.place) + sum_by (λ r. r.2) (drop (l.one-index + 1) l.one-items) ≡ 16384)
