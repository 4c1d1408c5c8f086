-- How many laws the sequences of a kind have at each pair (docs/SEQUENCES.md, "The runs").
use Rattle.std.specs.Prelude.{ℕ}
use Rattle.vectors.specs.declared.runs.Kind.{Kind}
use Rattle.vectors.specs.declared.runs.Kind.TheVariants.{Normal, Overload, Codewords, Jump, Held}

abbrev pub laws_count : Kind → ℕ
laws_count Normal = 4
laws_count Overload = 4
laws_count Codewords = 2
laws_count Jump = 2
laws_count Held = 1
