-- The number of a law of G.711, as the calls take it (docs/RULES.md): 0 for mu-law, 1 for A-law.
use Rattle.std.specs.Prelude.{ℕ}
use Rattle.text.specs.declared.law.Law.{Law}
use Rattle.text.specs.declared.law.Law.TheVariants.{Mu, A}

abbrev pub law_number : Law → ℕ
law_number Mu = 0
law_number A = 1
