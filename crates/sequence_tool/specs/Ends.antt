-- What an end makes of a value, by the law and the pair, and its next memory.
use Rattle.std.specs.Prelude.{ℕ}
use Rattle.g711.specs.Expand.{EXPAND}
use Rattle.state.specs.declared.memory.Memory.{Memory}
use Rattle.sample.specs.declared.level.Encoded.{Encoded}
use Rattle.sample.specs.declared.end.Heard.{Heard}
use Rattle.sample.specs.Encode.{encode_of}
use Rattle.sample.specs.Pcm.{play_of}
use Rattle.text.specs.declared.law.Law.{Law}
use Rattle.text.specs.Law.{law_number}
use Rattle.command_line.specs.declared.coding.Pair.{Pair}

-- of an octet
abbrev pub encoded : Law → Pair → Memory → ℕ → Encoded
encoded law pair m octet = encode_of pair.core pair.width m (EXPAND octet (law_number law))

-- of a codeword
abbrev pub heard : Law → Pair → Memory → ℕ → Heard ℕ
heard law pair m codeword = play_of (law_number law) pair.core pair.width m codeword
