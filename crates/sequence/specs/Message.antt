-- What `{}` prints of a refusal.
use Rattle.std.specs.Prelude.{ℕ, List, codes}
use Rattle.sequence.specs.declared.reader.Refusal.{Refusal}
use Rattle.sequence.specs.declared.reader.Refusal.TheVariants.{BadCharacter, LineTooLong, WrongRemainder, MissingRemainder}

abbrev pub message : Refusal → List ℕ
message BadCharacter = codes "bad character"
message LineTooLong = codes "line too long"
message WrongRemainder = codes "wrong remainder"
message MissingRemainder = codes "missing remainder"
