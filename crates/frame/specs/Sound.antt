-- What it says of a header, and of a frame of n octets with it, that no row applies, as facts that a proof can use; proofs/Sounds.antt shows
-- that the two are the same.
use Rattle.std.specs.Prelude.{◌≡◌, ℕ, ◌≤◌}
use Rattle.words.specs.Within.{Within}
use Rattle.quantizer.specs.Pair.{Pair}
use Rattle.frame.specs.declared.header.Header.{Header}
use Rattle.frame.specs.Header.{plain, numbered, fewest, most_groups, due_length}

pub record SoundHeader (h : Header) : Type 0 where
  pub known : Within plain numbered h.edition
  pub pair : Pair h.width h.core
  pub count : Within 1 (most_groups h.edition) h.groups

pub record Sound (h : Header) (n : ℕ) : Type 0 where
  pub long : fewest ≤ n
  pub header : SoundHeader h
  pub whole : n ≡ due_length h
