-- The widths of drop (docs/TOOL.md): which there are, and which a frame gets.
use Rattle.std.specs.Prelude.{Bool, List, ℕ, ◌%◌, ◌≤◌, get_or, length, max, min, if◌then◌else◌}
use Rattle.std.specs.List.{All}
use Rattle.frame.specs.declared.header.Header.{Header}
use Rattle.frame.specs.Header.{header_of}

abbrev pub IsWidth : ℕ → Type 0
IsWidth width = (2 ≤ width) × (width ≤ 5)

abbrev pub AreWidths : List ℕ → Type 0
AreWidths widths = All IsWidth widths

-- behind the last comes the first
abbrev pub width_at : List ℕ → ℕ → ℕ
width_at widths frame = get_or widths (frame % length widths) 0

-- never above the frame's own width, and never below its core
abbrev pub at_most : ℕ → Header → ℕ
at_most asked header = max (min asked header.width) header.core

-- the next of those that are asked for, as it is or at most
abbrev pub width_of : Bool → List ℕ → ℕ → List ℕ → ℕ
width_of most widths frame octets =
    let asked = width_at widths frame in if most then at_most asked (header_of octets) else asked
