-- However a list is cut and however long the buffers are: what is made by a caller's calls, and what is left to be made, is what was to be made; and whatever a
-- single call does not change, the calls together do not.
use Rattle.std.proofs.Common.{◌≡◌, ℕ, List, [], ◌∷◌, ◌++◌, take, drop, sym, refl, ap, ◌∙◌, append_assoc, drop-drop}
use Rattle.sequence.specs.Piece.{Piece, stop, further, Offer, session}

module _ {S : Type 0} (call : ℕ → S → List ℕ → Piece S) where
  -- what is to be made from a state, of the list that is left
  pub session_makes : (all : S → List ℕ → List ℕ)
      → ((room n : ℕ) (s : S) (xs : List ℕ) → all s xs ≡ (call room s (take n xs)).made ++ all (call room s (take n xs)).state (drop (call room s (take n xs)).taken xs))
      → (s : S) (xs : List ℕ) (offers : List Offer) → all s xs ≡ (session call s xs offers).made ++ all (session call s xs offers).state (drop (session call s xs offers).taken xs)
  unfolding session stop further
  session_makes all onward s xs [] = refl
  session_makes all onward s xs (o ∷ os) =
      let p = call o.room s (take o.offered xs) in
      let q = session call p.state (drop p.taken xs) os in
      onward o.room o.offered s xs
      ∙ ap (λ (l : List ℕ). p.made ++ l) (session_makes all onward p.state (drop p.taken xs) os)
      ∙ sym (append_assoc p.made q.made (all q.state (drop q.taken (drop p.taken xs))))
      ∙ ap (λ (l : List ℕ). (p.made ++ q.made) ++ all q.state l) (drop-drop q.taken p.taken xs)

  pub session_keeps : {X : Type 0} (f : S → List ℕ → X)
      → ((room n : ℕ) (s : S) (xs : List ℕ) → f s xs ≡ f (call room s (take n xs)).state (drop (call room s (take n xs)).taken xs))
      → (s : S) (xs : List ℕ) (offers : List Offer) → f s xs ≡ f (session call s xs offers).state (drop (session call s xs offers).taken xs)
  unfolding session stop further
  session_keeps f onward s xs [] = refl
  session_keeps f onward s xs (o ∷ os) =
      let p = call o.room s (take o.offered xs) in
      let q = session call p.state (drop p.taken xs) os in
      onward o.room o.offered s xs
      ∙ session_keeps f onward p.state (drop p.taken xs) os
      ∙ ap (λ (l : List ℕ). f q.state l) (drop-drop q.taken p.taken xs)
