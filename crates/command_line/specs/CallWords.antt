-- How the words that a program is called with are gone through, and when a word is a number or a file's name (docs/TOOL.md).
use Rattle.std.specs.Prelude.{Bool, true, false, ◌&&◌, ℕ, ◌+◌, ◌-◌, ◌*◌, ◌%◌, ◌^◌, ◌<◌, ◌≢◌, min, nat_le, List, fold, length, slice_index}
use Rattle.std.specs.List.{AllPass}

-- the place behind this one, as a number of 64 bits
abbrev pub place_behind : ℕ → ℕ
place_behind place = (place + 1) % 2 ^ 64

-- where a reader stands that took the word there, or did not
abbrev pub place_after : Bool → ℕ → ℕ
place_after true place = place_behind place
place_after false place = place

abbrev pub is_digit : ℕ → Bool
is_digit letter = nat_le 48 letter && nat_le letter 57

-- a number with one more digit, as far as 16 bits go
abbrev pub with_digit : ℕ → ℕ → ℕ
with_digit number letter = min (number * 10 + (letter - 48)) 65535

-- the number that decimal digits write, as far as 16 bits go
abbrev pub value_of : List ℕ → ℕ
value_of letters = fold with_digit 0 letters

-- decimal digits only, and one at least
pub record IsNumber (letters : List ℕ) : Type 0 where
  pub not_empty : 0 < length letters
  pub digits : AllPass is_digit letters

-- not empty, no option and no number
pub record IsFileName (letters : List ℕ) : Type 0 where
  pub not_empty : 0 < length letters
  pub no_option : slice_index letters 0 ≢ 45
  pub no_number : ¬ IsNumber letters
