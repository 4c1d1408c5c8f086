-- All R, then all H: 90 runs each, 36 of each input that is coded and 18 of the I-inputs; then two for each jump, and one for each held codeword.
use Rattle.std.proofs.Common.{◌≡◌, ◌+◌, ◌-◌, ◌*◌, length}
use Rattle.vectors.proofs.runs.all_runs.Given as goal

abbrev pub invariant-loop-homed : goal.invariant-loop-homed
invariant-loop-homed l = length l.runs.items ≡ 90 * l.homed-index

abbrev pub invariant-loop-kind : goal.invariant-loop-kind
invariant-loop-kind l = length l.runs.items ≡ 90 * l.homed-index + 36 * l.kind-index - 18 * (l.kind-index - 2)

abbrev pub invariant-loop-core : goal.invariant-loop-core
invariant-loop-core l = length l.runs.items + 4 ≡ 180 + 2 * l.core

abbrev pub invariant-loop-core-2 : goal.invariant-loop-core-2
invariant-loop-core-2 l = length l.runs.items + 2 ≡ 186 + l.core
