-- The status that a program ends with (docs/TOOL.md, "Status").
use Rattle.std.specs.Prelude.{ℕ}
use Rattle.command_line.specs.declared.status.Status.{Status}
use Rattle.command_line.specs.declared.status.Status.TheVariants.{Done, Failed, WrongWords}

abbrev pub status_number : Status → ℕ
status_number Done = 0
status_number Failed = 1
status_number WrongWords = 2

-- of two things that were to be done
abbrev pub joined : Status → Status → Status
joined Done second = second
joined Failed _ = Failed
joined WrongWords _ = WrongWords
