-- The octets of an input under a law: those of its file of that law.
use Rattle.std.specs.Prelude.{ℕ, List}
use Rattle.text.specs.declared.law.Law.{Law}
use Rattle.text.specs.declared.law.Law.TheVariants.{Mu, A}
use Rattle.vectors.specs.declared.inputs.Input.{Input}

abbrev pub octets_under : {N : ℕ} → Law → Input N → List ℕ
octets_under Mu input = input.mu
octets_under A input = input.a
