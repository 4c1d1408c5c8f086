-- A call of the reader, character by character: it stops, or takes the character and goes on with the room that is left.
use Rattle.std.proofs.Common.{◌≡◌, ℕ, ◌-◌, ◌<◌, ◌≤◌, true, false, List, ◌∷◌, length, le-ltb, lt-ltb}
use Rattle.sequence.specs.Piece.{stop, further}
use Rattle.sequence.specs.Reading.{is_refused, next, given, reading}
use Rattle.sequence.specs.declared.reader.Reader.{Reader}

module _ (room : ℕ) (r : Reader) (c : ℕ) (cs : List ℕ) where
  pub reading_refused : is_refused (next r c).verdict ≡ true → reading room r (c ∷ cs) ≡ stop (next r c)
  unfolding reading
  reading_refused e = rw e

  module _ (sound : is_refused (next r c).verdict ≡ false) where
    pub reading_full : room < length (given r c) → reading room r (c ∷ cs) ≡ stop r
    unfolding reading
    reading_full h = rw (sound, lt-ltb _ _ h)

    pub reading_more : length (given r c) ≤ room → reading room r (c ∷ cs) ≡ further 1 (given r c) (reading (room - length (given r c)) (next r c) cs)
    unfolding reading
    reading_more h = rw (sound, le-ltb _ _ h)
