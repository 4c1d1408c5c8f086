-- What drop's 0 says of its inputs, and that fit inputs get no other number.
use mathlib.Core.Path.{◌≡◌}
use Prim.Native.Nat.{ℕ}
use borrow.Author.Tests.{ltb-false, le-ltb, not-false}
use Rattle.words.specs.First.{first}
use Rattle.words.proofs.First.{NoneApplies, first_says, first_of, none_apart, none_joined, first_front, first_behind}
use Rattle.words.proofs.Within.{within_says, within_of}
use Rattle.frame.specs.declared.header.Header.{Header}
use Rattle.frame.specs.Header.{due_length}
use Rattle.frame.specs.Read.{narrowed}
use Rattle.frame.specs.Rows.{frame_rows}
use Rattle.frame.proofs.Sounds.{sound_says, sound_none}
use Rattle.drop_planes.specs.Drop.{drop_rows, drop_number}
use Rattle.drop_planes.specs.Inner.{Droppable}

module _ (h : Header) (n w room : ℕ) where
  pub drop_says : drop_number h n w room ≡ 0 → Droppable h n w room
  unfolding drop_number
  drop_says e =
      let apart = none_apart (frame_rows h n) (drop_rows h w room) (first_says _ tt e) in
      record {
        sound = sound_says h n apart.0;
        target = within_says h.core h.width w (not-false _ apart.1.0);
        space = ltb-false room (due_length (narrowed w h)) apart.1.1.0;
      }

  pub drop_of : Droppable h n w room → drop_number h n w room ≡ 0
  unfolding drop_number
  drop_of k = first_of _ (none_joined (frame_rows h n) (drop_rows h w room) (sound_none h n k.sound) (rw (within_of k.target), (le-ltb _ _ k.space, tt)))

  -- it is the frame's number, and past the frame's own rows that of the rows behind them
  pub drop_front : (first (frame_rows h n) ≡ 0 → ⊥) → drop_number h n w room ≡ first (frame_rows h n)
  unfolding drop_number
  drop_front wrong = first_front (frame_rows h n) (drop_rows h w room) wrong

  pub drop_behind : NoneApplies (frame_rows h n) → drop_number h n w room ≡ first (drop_rows h w room)
  unfolding drop_number
  drop_behind none = first_behind (frame_rows h n) (drop_rows h w room) none

  pub drop_past : first (frame_rows h n) ≡ 0 → drop_number h n w room ≡ first (drop_rows h w room)
  drop_past e = drop_behind (first_says (frame_rows h n) tt e)
