-- Why the tool stops.
use Rattle.std.specs.Prelude.{Bool, true, false}
use Rattle.streams.specs.declared.failure.Failure.TheVariants.{Unwritten}
use Rattle.tool.specs.declared.stop.Stop.{Stop}
use Rattle.tool.specs.declared.stop.Stop.TheVariants.{Stream}

-- whether what was made could not be written
abbrev pub is_unwritten : Stop → Bool
is_unwritten (Stream (Unwritten name error)) = true
is_unwritten _ = false
