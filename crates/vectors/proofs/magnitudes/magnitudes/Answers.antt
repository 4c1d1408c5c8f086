use Rattle.std.proofs.Common.{◌≡◌, ℕ, ◌+◌, ◌-◌, ◌<◌, ◌&&◌, true, nat_lt, List, All, length, drop, sum_by, slice_index_or, arith, rules}
use Rattle.std.specs.List.{list_all}
use Rattle.std.proofs.lemmas.List.Sums.{AllPass-from_list_all, sum_by-drop_more}
use Rattle.std.proofs.lemmas.Bool.Decides.{nat_tests}
use Rattle.std.proofs.lemmas.Grind.{common_steps}
use Rattle.vectors.proofs.magnitudes.magnitudes.Goals as goal

-- of rows that all pass the test the magnitudes are below eight
small-rows : (rows : List (ℕ × ℕ × ℕ)) → list_all (λ r. nat_lt r.0 8 && nat_lt r.1 8) rows ≡ true → All (λ r. (r.0 < 8) × (r.1 < 8)) rows
small-rows rows e k d within =
    let passed = AllPass-from_list_all (λ (r : ℕ × ℕ × ℕ). nat_lt r.0 8 && nat_lt r.1 8) rows e k d within in
    (grind (arith, nat_tests), grind (arith, nat_tests))

pub loop-one-init : goal.loop-one-init
loop-one-init c = (grind (arith, common_steps), search (rules, small-rows), search rules)

-- a row's length, and what is left behind it
next-row : (rows : List (ℕ × ℕ × ℕ)) (i n : ℕ) → i < length rows → n + sum_by (λ r. r.2) (drop i rows) ≡ 16384 → n + ((slice_index_or rows i (0, 0, 0)).2 - 0) + sum_by (λ r. r.2) (drop (i + 1) rows) ≡ 16384
next-row rows i n inside all = omega (arith, all, sum_by-drop_more (λ r. r.2) rows i (0, 0, 0) inside)

pub loop-place-init : goal.loop-place-init
loop-place-init c =
    let inside : c.loop-one.one-index < 27 = omega arith in
    let row = c.loop-one.invariant.1 c.loop-one.one-index (0, 0, 0) inside in
    (c.loop-one.invariant.0, row.0, row.1, next-row _ _ _ inside c.loop-one.invariant.2)

pub returns-clause-count : goal.returns-clause-count
returns-clause-count c =
    let at_end : c.loop-one.one-index ≡ 27 = omega arith in
    let whole : length c.loop-one.magnitudes.items + 0 ≡ 16384 = rw at_end at c.loop-one.invariant.2 in
    omega (arith, whole)
