-- A loop that makes a piece: so much is taken, so much stands in the buffer, and what is left to do makes the rest of the piece.
use Rattle.std.proofs.Common.{◌≡◌, ℕ, ◌+◌, ◌-◌, ◌<◌, ◌≤◌, List, [], ◌∷◌, length, take, drop, set, sym, ap, ◌∙◌, append-nil, add-zero, add_assoc, add-one, arith, length-set, length-take-le, drop-drop, take-suc-set, drop-set-lt}
use lib.Seq.{append_snoc}
use Rattle.lists.proofs.Front.{Front, front_done}
use Rattle.sequence.specs.Piece.{Piece, stop, further, Fills}

module _ {S : Type 0} (p : Piece S) (before : List ℕ) where
  pub record Underway (i w : ℕ) (rest : Piece S) (out : List ℕ) : Type 0 where
    pub taken : i + rest.taken ≡ p.taken
    pub state : rest.state ≡ p.state
    pub within : w ≤ length before
    pub front : Front before p.made w rest.made out

  module _ {i w : ℕ} {rest : Piece S} {out : List ℕ} (u : Underway i w rest out) where
    pub underway_size : length out ≡ length before
    underway_size = u.front.size

    pub underway_stopped : (s : S) → rest ≡ stop s → Fills p before out s i w
    unfolding stop
    underway_stopped s e =
        let none : Front before p.made w [] out = rw e at u.front in
        let within = u.within in
        let size : length out ≡ length before = none.size in
        let front : length (take w out) ≡ w = length-take-le w out (omega arith) in
        let whole : take w out ≡ p.made = sym (append-nil (take w out)) ∙ none.held in
        let written : w ≡ length p.made = sym front ∙ ap length whole in
        record {
          state_is = sym (ap (λ q. q.state) e) ∙ u.state;
          taken_is = sym (add-zero i) ∙ (rw e at u.taken);
          written_is = written;
          out = front_done before p.made w out none written;
        }

    module _ (n : ℕ) (next : Piece S) where
      -- nothing is put out
      pub underway_nothing : rest ≡ further n [] next → Underway (i + n) w next out
      unfolding further
      underway_nothing e =
          record {
            taken = add_assoc i n next.taken ∙ (rw e at u.taken);
            state = rw e at u.state;
            within = u.within;
            front = rw e at u.front;
          }

      -- one octet is
      pub underway_one : (v : ℕ) → rest ≡ further n (v ∷ []) next → w < length before → Underway (i + n) (w + 1) next (set out w v)
      unfolding further
      underway_one v e room =
          let old : Front before p.made w (v ∷ next.made) out = rw e at u.front in
          let size : length out ≡ length before = old.size in
          record {
            taken = add_assoc i n next.taken ∙ (rw e at u.taken);
            state = rw e at u.state;
            within = omega arith;
            front =
                record {
                  held = rw (add-one, take-suc-set out w v (omega arith), append_snoc (take w out) v next.made) old.held;
                  kept = drop-set-lt (w + 1) out w v (omega arith) ∙ sym (drop-drop 1 w out) ∙ ap (λ (l : List ℕ). drop 1 l) old.kept ∙ drop-drop 1 w before;
                  size = length-set out w v ∙ size;
                };
          }

-- the loop of a call, behind i of what it was lent and n octets of its buffer: the same call on what is left makes the rest
module _ {S : Type 0} (call : ℕ → S → List ℕ → Piece S) (s₀ : S) (xs before : List ℕ) where
  pub record Midway (s : S) (i n : ℕ) (out : List ℕ) : Type 0 where
    pub within : i ≤ length xs
    pub under : Underway (call (length before) s₀ xs) before i n (call (length before - n) s (drop i xs)) out
