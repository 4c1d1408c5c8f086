use Rattle.std.proofs.Common.{◌≡◌, ◌*◌, ◌/◌, ◌<◌, ℕ, length, map, get_or, arith, rules, ap, ◌∙◌, sym}
use Rattle.std.proofs.lemmas.Grind.{common_steps}
use Rattle.std.specs.List.{flat_map}
use Rattle.answers.specs.Forms.{sample_octets, sample_of}
use Rattle.answers.proofs.Chunks.{samples_joined}
use Rattle.answers.proofs.forms.samples_in.Goals as goal

pub returns-clause-samples : goal.returns-clause-samples
returns-clause-samples c =
    let octets = c.args.octets.now in
    let read : c.samples_of.new.list.items ≡ map sample_of c.as_chunks.result.0.now = search rules in
    let even : length octets ≡ 2 * (length octets / 2) = grind (arith, common_steps) in
    let small : (i : ℕ) → get_or octets i 0 < 256 = λ i. omega (arith, c.type_inv.octets i) in
    sym (ap (flat_map sample_octets) (read ∙ ap (map sample_of) c.as_chunks.ensures.front) ∙ samples_joined (length octets / 2) octets even small)
