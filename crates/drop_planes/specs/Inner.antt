-- What drop's 0 says of a frame of n octets with the header h, a width and a room. A reader of the public contract does not need it.
use Rattle.std.specs.Prelude.{ℕ, ◌≤◌}
use Rattle.words.specs.Within.{Within}
use Rattle.frame.specs.declared.header.Header.{Header}
use Rattle.frame.specs.Header.{due_length}
use Rattle.frame.specs.Read.{narrowed}
use Rattle.frame.specs.Sound.{Sound}

pub record Droppable (h : Header) (n w room : ℕ) : Type 0 where
  pub sound : Sound h n
  pub target : Within h.core h.width w
  pub space : due_length (narrowed w h) ≤ room
