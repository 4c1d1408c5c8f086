-- The laws of a run's two ends, by the letter in a sequence's name: "C mu-law in and A-law out, X A-law in and mu-law out" (docs/SEQUENCES.md).
use Rattle.text.specs.declared.law.Law.{Law}
use Rattle.text.specs.declared.law.Law.TheVariants as law
use Rattle.vectors.specs.declared.laws.Laws.{Laws}
use Rattle.vectors.specs.declared.laws.Laws.TheVariants.{Mu, A, MuToA, AToMu}

-- the encoder's, and that of the homing sequence
abbrev pub law_sent : Laws → Law
law_sent Mu = law.Mu
law_sent A = law.A
law_sent MuToA = law.Mu
law_sent AToMu = law.A

-- the decoder's
abbrev pub law_heard : Laws → Law
law_heard Mu = law.Mu
law_heard A = law.A
law_heard MuToA = law.A
law_heard AToMu = law.Mu
