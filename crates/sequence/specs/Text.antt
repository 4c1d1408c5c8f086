-- What reading a whole text gives (docs/RULES.md, "The text of a sequence"): its values, or the first thing that is wrong with it and where.
use Rattle.std.specs.Prelude.{ℕ, suc, ◌+◌, ◌*◌, ◌%◌, ◌<◌, not, ◌&&◌, List, [], ◌∷◌, ◌++◌, length, ◌==◌, nat_eq, nat_le, slice_index, Result, Ok, Err}
use Rattle.words.specs.Notation.{◌when◌∣◌}
use Rattle.sequence.specs.Limits.{line_feed, longest, modulus, is_whole}
use Rattle.sequence.specs.Digits.{digit_of, is_digit}
use Rattle.sequence.specs.declared.reader.Refusal.{Refusal}
use Rattle.sequence.specs.declared.reader.Refusal.TheVariants.{BadCharacter, LineTooLong, WrongRemainder, MissingRemainder}
use Rattle.sequence.specs.declared.reader.Fault.{Fault}

-- nothing is wrong with a text, or what is and where
abbrev pub Verdict : Type 0
Verdict = Result (Unit {0}) Fault

pub data Outcome : Type 0 where
  Values : List ℕ → Outcome
  Wrong : Refusal → ℕ → Outcome

-- "two hexadecimal characters a value"
unfoldable pub values_of : List ℕ → List ℕ
values_of [] = []
values_of (c ∷ []) = []
values_of (c ∷ d ∷ cs) = (digit_of c * 16 + digit_of d) ∷ values_of cs

-- "the sum of all values modulo 255"
unfoldable pub sum_of : List ℕ → ℕ
sum_of [] = 0
sum_of (v ∷ vs) = v + sum_of vs

unfoldable pub remainder : List ℕ → ℕ
remainder vs = sum_of vs % modulus

-- the first character that is wrong where it stands, at place p behind n others of its line: a line feed ends whole values, a digit has room in its line,
-- nothing else is read. Where none is wrong, the rest decides
unfoldable pub characters : ℕ → ℕ → List ℕ → Outcome → Outcome
characters p n [] rest = rest
characters p n (c ∷ cs) rest =
    characters (suc p) 0 cs rest when nat_eq c line_feed && is_whole n
    ∣ Wrong BadCharacter p when not (is_digit c)
    ∣ Wrong LineTooLong p when nat_le longest n
    ∣ characters (suc p) (suc n) cs rest

-- the lines without their line feeds; the last is what stands behind the last line feed
unfoldable pub onto : ℕ → List (List ℕ) → List (List ℕ)
onto c [] = []
onto c (line ∷ lines) = (c ∷ line) ∷ lines

unfoldable pub lines_of : List ℕ → List (List ℕ)
lines_of [] = [] ∷ []
lines_of (c ∷ cs) = [] ∷ lines_of cs when nat_eq c line_feed ∣ onto c (lines_of cs)

-- lines of whole values from place p on, behind the values vs: the last one holds the remainder alone, and nothing stands behind it. What stands behind the
-- last line feed, and starts at p, is the end of the text or a line that lacks its own
unfoldable pub lines : ℕ → List ℕ → List (List ℕ) → Outcome
lines p vs [] = Wrong MissingRemainder p
lines p vs (line ∷ []) = Wrong MissingRemainder p
lines p vs (line ∷ behind ∷ more) =
    (Values vs when nat_eq (sum_of (values_of line)) (remainder vs) ∣ Wrong WrongRemainder p) when nat_eq (length line) 2 && length behind + length more == 0
    ∣ lines (p + suc (length line)) (vs ++ values_of line) (behind ∷ more)

unfoldable pub read_of : List ℕ → Outcome
read_of text = characters 0 0 text (lines 0 [] (lines_of text))

-- what was handed out, and the verdict at the text's end, as an outcome
abbrev pub outcome_of : List ℕ → Verdict → Outcome
outcome_of vs (Ok _) = Values vs
outcome_of vs (Err fault) = Wrong fault.why fault.place

-- values that two digits hold
pub record Octets (vs : List ℕ) : Type 0 where
  pub short : (i : ℕ) → i < length vs → slice_index vs i < 256
