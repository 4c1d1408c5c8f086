-- The numbered replies (docs/RULES.md, "The replies"): the number of each refusal that the calls answer with, and of an answer as a whole.
use Rattle.std.specs.Prelude.{Bool, ℕ, leb}
use Rattle.std.specs.declared.result.Result.{Result}
use Rattle.std.specs.declared.result.Result.TheVariants.{Ok, Err}
use Rattle.replies.specs.declared.Refusal.{Refusal}
use Rattle.replies.specs.declared.Refusal.TheVariants.{Pair, Count, Room, Range, Header, Length, Core, Target, Law, Number, Sample}

-- 1 width or core not one of the nine pairs; 2 sample count not a multiple of 8 from 8 to 320, or g not 1 to 40; 3 out buffer
-- shorter than the result; 4 a state variable outside its range; 5 fewer than 2 octets, or edition neither 01 nor 10; 6 length not
-- 2 + x times g in edition 1, 3 + x times g in edition 2; 7 frame's core differs from the state's; 8 target width below y or above x; 9 law not 0
-- (mu) or 1 (A); 10 frame's number is not the next one of the state; 11 a linear sample not from -8,192 to 8,191
abbrev pub refusal_number : Refusal → ℕ
refusal_number Pair = 1
refusal_number Count = 2
refusal_number Room = 3
refusal_number Range = 4
refusal_number Header = 5
refusal_number Length = 6
refusal_number Core = 7
refusal_number Target = 8
refusal_number Law = 9
refusal_number Number = 10
refusal_number Sample = 11

module _ {A : Type 0} where
  -- 0 done
  abbrev pub number_of : Result A Refusal → ℕ
  number_of (Ok done) = 0
  number_of (Err refusal) = refusal_number refusal

  -- a count of what was done; of a refusal it is 0
  abbrev pub reported : (A → ℕ) → Result A Refusal → ℕ
  reported count (Ok done) = count done
  reported count (Err refusal) = 0

-- law 0 (mu) or 1 (A)
abbrev pub is_law : ℕ → Bool
is_law LAW = leb LAW 1
