-- What a call makes of a piece that it is lent, for whoever reads or writes: how much of the piece it takes, what it puts into the other buffer from the
-- first octet on, and the state behind that. Reader and writer promise it in the same words.
use Rattle.std.specs.Prelude.{◌≡◌, ℕ, ◌+◌, List, [], ◌∷◌, ◌++◌, length, take, drop}

pub record Piece (S : Type 0) : Type 0 where
  pub taken : ℕ
  pub made : List ℕ
  pub state : S

module _ {S : Type 0} where
  -- nothing more is taken or made
  unfoldable pub stop : S → Piece S
  stop s = record { taken = 0; made = []; state = s }

  -- so much is taken and that is made, and then the rest
  unfoldable pub further : ℕ → List ℕ → Piece S → Piece S
  further n xs p = record { taken = n + p.taken; made = xs ++ p.made; state = p.state }

  -- the answer, and the buffer before and after: behind what is made it stays
  pub record Fills (p : Piece S) (before after : List ℕ) (state : S) (taken written : ℕ) : Type 0 where
    pub state_is : state ≡ p.state
    pub taken_is : taken ≡ p.taken
    pub written_is : written ≡ length p.made
    pub out : after ≡ p.made ++ drop (length p.made) before

-- a caller's calls, one behind the other: each is offered so many of what is left, and lends so much room
pub record Offer : Type 0 where
  pub offered : ℕ
  pub room : ℕ

-- what comes of all of them together
unfoldable pub session : {S : Type 0} → (ℕ → S → List ℕ → Piece S) → S → List ℕ → List Offer → Piece S
session call s xs [] = stop s
session call s xs (o ∷ os) =
    let p = call o.room s (take o.offered xs) in
    further p.taken p.made (session call p.state (drop p.taken xs) os)
