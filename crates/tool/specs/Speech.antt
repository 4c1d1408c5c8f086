-- Speech where it is no frame: the octets of a sample, and the octet of no sound.
use Rattle.std.specs.Prelude.{ℕ}
use Rattle.text.specs.declared.law.Law.TheVariants.{Mu, A}
use Rattle.command_line.specs.declared.law.Speech.{Speech}
use Rattle.command_line.specs.declared.law.Speech.TheVariants.{Companded, Linear}

-- one by a law of G.711, two of a linear sample
abbrev pub octets_of_sample : Speech → ℕ
octets_of_sample (Companded law) = 1
octets_of_sample Linear = 2

-- FF in mu-law, D5 in A-law, 0 in linear samples (docs/TOOL.md)
abbrev pub silent : Speech → ℕ
silent (Companded Mu) = 255
silent (Companded A) = 213
silent Linear = 0
