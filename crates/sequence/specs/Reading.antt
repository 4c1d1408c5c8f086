-- A reader, which is given a text character by character (docs/RULES.md, "The text of a sequence"): what a character makes of it and the value that it
-- hands out, what a run of characters gives, a call on a piece of the text, and the text's end. Any reader may be handed in.
use Rattle.std.specs.Prelude.{ℕ, ◌+◌, ◌-◌, ◌*◌, ◌/◌, ◌%◌, ◌^◌, Bool, true, false, not, ◌&&◌, ◌||◌, leb, List, [], ◌∷◌, ◌++◌, length, nat_eq, nat_le, nat_lt, None, Some, Ok, Err, is_err}
use Rattle.std.specs.Option.{option_to_list}
use Rattle.words.specs.Notation.{◌when◌∣◌}
use Rattle.sequence.specs.Piece.{Piece, stop, further, Fills}
use Rattle.sequence.specs.Limits.{line_feed, longest, modulus, added, is_whole}
use Rattle.sequence.specs.Digits.{digit_of, is_digit}
use Rattle.sequence.specs.Text.{Verdict}
use Rattle.sequence.specs.declared.reader.Refusal.{Refusal}
use Rattle.sequence.specs.declared.reader.Refusal.TheVariants.{BadCharacter, LineTooLong, WrongRemainder, MissingRemainder}
use Rattle.sequence.specs.declared.reader.Reader.{Reader}
use Rattle.sequence.specs.declared.progress.Progress.{Progress}
use Rattle.sequence.specs.declared.step.Stepped.{Stepped}

abbrev pub is_refused : Verdict → Bool
is_refused verdict = is_err verdict

abbrev pub fault : Refusal → ℕ → Verdict
fault why at = Err (record { why = why; place = at })

-- before the first character
abbrev pub beginning : Reader
beginning = record { verdict = Ok tt; line = 0; column = 0; high = 0; holds = false; held = 0; sum = 0 }

-- where the next character stands
abbrev pub place : Reader → ℕ
place r = (r.line + r.column) % 2 ^ 64

abbrev pub refused : Reader → Refusal → Reader
refused r why = record r { verdict = fault why (place r) }

abbrev pub line_ended : Reader → Reader
line_ended r = record r { line = (place r + 1) % 2 ^ 64; column = 0 }

-- nothing is handed out
abbrev pub kept : Reader → Stepped
kept r = record { reader = r; value = None }

-- a value is handed out, and summed
abbrev pub handed : Reader → ℕ → Stepped
handed r v = record { reader = record r { sum = added r.sum v }; value = Some v }

-- the first digit of a value: what is held back is no remainder, since something follows it
abbrev pub begun : Reader → ℕ → Reader
begun r d = record r { column = r.column + 1; high = d; holds = false }

unfoldable pub first_digit : Reader → ℕ → Stepped
first_digit r d = handed (begun r d) r.held when r.holds ∣ kept (begun r d)

-- the second digit, with the value that it completes: the first value of a line is held back, every other one is handed out
abbrev pub held_back : Reader → ℕ → Reader
held_back r v = record r { column = 2; holds = true; held = v }

abbrev pub completed : Reader → Reader
completed r = record r { column = r.column + 1 }

unfoldable pub second_digit : Reader → ℕ → Stepped
second_digit r v = kept (held_back r v) when nat_eq r.column 1 ∣ handed (completed r) v

abbrev pub joined : ℕ → ℕ → ℕ
joined high low = (high * 16 + low) % 256

unfoldable pub with_digit : Reader → ℕ → Stepped
with_digit r d = first_digit r d when nat_eq (r.column % 2) 0 ∣ second_digit r (joined r.high d)

-- one character
unfoldable pub step_of : Reader → ℕ → Stepped
step_of r c =
    kept r when is_refused r.verdict
    ∣ kept (line_ended r) when nat_eq c line_feed && is_whole r.column
    ∣ kept (refused r BadCharacter) when not (is_digit c)
    ∣ kept (refused r LineTooLong) when leb longest r.column
    ∣ with_digit r (digit_of c)

abbrev pub next : Reader → ℕ → Reader
next r c = (step_of r c).reader

-- none or one
abbrev pub given_of : Stepped → List ℕ
given_of s = option_to_list s.value

abbrev pub given : Reader → ℕ → List ℕ
given r c = given_of (step_of r c)

-- all that a text's characters hand out
unfoldable pub handed_out : Reader → List ℕ → List ℕ
handed_out r [] = []
handed_out r (c ∷ cs) = given r c ++ handed_out (next r c) cs

-- a call: characters are taken until they end, one is refused, or one hands out a value for which there is no room
unfoldable pub reading : ℕ → Reader → List ℕ → Piece Reader
reading room r [] = stop r
reading room r (c ∷ cs) =
    stop (next r c) when is_refused (next r c).verdict
    ∣ stop r when nat_lt room (length (given r c))
    ∣ further 1 (given r c) (reading (room - length (given r c)) (next r c) cs)

-- a caller's calls are through with a text where all of it is taken, or the reader is refused
abbrev pub is_through : Piece Reader → List ℕ → Bool
is_through p text = is_refused p.state.verdict || nat_le (length text) p.taken

abbrev pub Reads : Reader → List ℕ → List ℕ → List ℕ → Progress Reader → Type 0
Reads r text before after a = Fills (reading (length before) r text) before after a.state a.taken a.written

-- a place so many characters before another
abbrev pub back : ℕ → ℕ → ℕ
back n at = (at + 2 ^ 64 - n) % 2 ^ 64

-- what is held alone in the last line is the remainder. That line, two digits and a line feed, is behind
abbrev pub remainder_verdict : Reader → Verdict
remainder_verdict r = Ok tt when nat_eq r.held (r.sum % modulus) ∣ fault WrongRemainder (back 3 r.line)

-- the text's end
unfoldable pub end_of : Reader → Verdict
end_of r =
    r.verdict when is_refused r.verdict
    ∣ remainder_verdict r when nat_eq r.column 0 && r.holds
    ∣ fault MissingRemainder r.line

-- where the value stands that was handed out last: in its line, or as the last of the line before, where one that is held back may stand between
unfoldable pub last_place : Reader → ℕ
last_place r =
    (r.line + (2 * (r.column / 2) - 2)) % 2 ^ 64 when leb 3 r.column
    ∣ back 6 r.line when nat_eq r.column 0 && r.holds
    ∣ back 3 r.line
