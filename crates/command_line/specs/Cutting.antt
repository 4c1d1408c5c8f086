-- What drop may be asked for (docs/TOOL.md).
use Rattle.std.specs.Prelude.{IsTrue, ⊤}
use Rattle.quantizer.specs.Pair.{is_pair}
use Rattle.command_line.specs.declared.cutting.Widths.{Widths}
use Rattle.command_line.specs.declared.cutting.Widths.TheVariants.{One, Listed}

-- one width is a pair's beside the core 2; those of a list are not read yet
abbrev pub AreWidths : Widths → Type 0
AreWidths (One width) = IsTrue (is_pair width 2)
AreWidths (Listed place) = ⊤
