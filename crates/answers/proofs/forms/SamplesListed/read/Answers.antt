use Rattle.std.proofs.Common.{◌≡◌, ◌%◌, length, Option, Some, None, IfNone, rules}
use Rattle.std.proofs.lemmas.Result.{IfOk-weaker}
use Rattle.answers.specs.Forms.{octets_text, IsNoSamplesText}
use Rattle.answers.proofs.Chunks.{odd_written}
use Rattle.answers.proofs.forms.SamplesListed.read.Goals as goal

none_then : {X P Q : Type 0} (read : Option X) → (P → Q) → IfNone read P → IfNone read Q
none_then None f p = f p
none_then (Some x) f p = p

pub returns-in-Some-clause-none : goal.returns-in-Some-clause-none
returns-in-Some-clause-none c =
    let octets = c.read.new.list.items in
    let same : c.args.text.now ≡ octets_text octets = search rules in
    let unread : length octets % 2 ≡ 1 → IsNoSamplesText c.args.text.now = λ odd others small even also. odd_written octets others c.args.text.now same odd even also in
    IfOk-weaker c.samples_in.result _ _ (λ read. none_then read unread) (search rules)
