-- A writer, which makes the text of values character by character (docs/RULES.md, "The text of a sequence"): its next character and what becomes of it, a
-- call on a piece of the values, and the values' end. Any writer may be handed in.
use Rattle.std.specs.Prelude.{ℕ, zero, suc, ◌+◌, ◌/◌, ◌%◌, Bool, true, false, not, ◌&&◌, ◌||◌, List, [], ◌∷◌, length, drop, ◌==◌, nat_eq, nat_le, nat_lt, slice_index, Option, None, Some, is_some, unwrap_or}
use Rattle.words.specs.Notation.{◌when◌∣◌}
use Rattle.sequence.specs.Limits.{line_feed, longest, modulus, added}
use Rattle.sequence_writer.specs.Layout.{capital}
use Rattle.sequence.specs.Piece.{Piece, stop, further, Fills}
use Rattle.sequence_writer.specs.declared.Stage.{Stage}
use Rattle.sequence_writer.specs.declared.Stage.TheVariants.{Values, Closing, Remainder, Done}
use Rattle.sequence_writer.specs.declared.Writer.{Writer}
use Rattle.sequence_writer.specs.declared.Written.{Written}
use Rattle.sequence.specs.declared.progress.Progress.{Progress}

abbrev pub is_values : Stage → Bool
is_values Values = true
is_values Closing = false
is_values Remainder = false
is_values Done = false

abbrev pub is_closing : Stage → Bool
is_closing Values = false
is_closing Closing = true
is_closing Remainder = false
is_closing Done = false

abbrev pub is_remainder : Stage → Bool
is_remainder Values = false
is_remainder Closing = false
is_remainder Remainder = true
is_remainder Done = false

abbrev pub is_done : Stage → Bool
is_done Values = false
is_done Closing = false
is_done Remainder = false
is_done Done = true

-- before the first value
abbrev pub blank : Writer
blank = record { stage = Values; column = 0; value = 0; sum = 0 }

-- behind the last value
abbrev pub closed : Stage → Stage
closed Values = Closing
closed Closing = Closing
closed Remainder = Remainder
closed Done = Done

abbrev pub closing : Writer → Writer
closing w = record w { stage = closed w.stage }

-- behind a line feed: that of the remainder's line is the last character
abbrev pub behind_line : Stage → Stage
behind_line Values = Values
behind_line Closing = Closing
behind_line Remainder = Done
behind_line Done = Done

-- whether the next character is the first of a value that is still to be handed in
abbrev pub awaits : Writer → Bool
awaits w = (is_values w.stage && w.column % 2 == 0) && nat_lt w.column longest

-- whether a line feed is due, the column being even
abbrev pub ends_line : Writer → Bool
ends_line w = (is_remainder w.stage || nat_le longest w.column) || (is_closing w.stage && not (w.column == 0))

abbrev pub second_digit_of : Writer → Written
second_digit_of w = record { character = capital (w.value % 16); writer = record w { column = (w.column + 1) % 256 } }

abbrev pub fed_of : Writer → Written
fed_of w = record { character = line_feed; writer = record w { stage = behind_line w.stage; column = 0 } }

abbrev pub first_digit_of : Writer → ℕ → Written
first_digit_of w v = record { character = capital (v / 16); writer = record w { column = (w.column + 1) % 256; value = v; sum = added w.sum v } }

abbrev pub remainder_of : Writer → Written
remainder_of w = record { character = capital (w.sum % modulus / 16); writer = record w { stage = Remainder; column = 1; value = w.sum % modulus } }

-- the next character, and the writer behind it; where the writer awaits a value it is v
unfoldable pub next_of : Writer → ℕ → Written
next_of w v = second_digit_of w when nat_eq (w.column % 2) 1 ∣ fed_of w when ends_line w ∣ first_digit_of w v when awaits w ∣ remainder_of w

-- it, where one is due: the writer is not done, and does not await a value where none is handed in
abbrev pub due_of : Writer → Option ℕ → Option Written
due_of w v = None when is_done w.stage || (awaits w && not (is_some v)) ∣ Some (next_of w (unwrap_or v 0))

abbrev pub taken_by : Writer → ℕ
taken_by w = 1 when awaits w ∣ 0

-- a call: characters are written until there is no room, or none is due
unfoldable pub writing : ℕ → Writer → List ℕ → Piece Writer
writing zero w vs = stop w
writing (suc room) w vs =
    stop w when is_done w.stage || (awaits w && length vs == 0)
    ∣ further (taken_by w) ((next_of w (slice_index vs 0)).character ∷ []) (writing room (next_of w (slice_index vs 0)).writer (drop (taken_by w) vs))

abbrev pub Writes : Writer → List ℕ → List ℕ → List ℕ → Progress Writer → Type 0
Writes w values before after a = Fills (writing (length before) w values) before after a.state a.taken a.written
