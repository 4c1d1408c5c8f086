-- The octets of a list's parts.
use Rattle.std.proofs.Common.{ℕ, zero, suc, ◌+◌, ◌<◌, List, [], ◌∷◌, length, get_or, take, drop, arith, length-drop, length-take, get_or-drop, get_or-take}
use Rattle.sequence.specs.Text.{Octets}

pub octets_one : {v : ℕ} → v < 256 → Octets (v ∷ [])
octets_one {v} h = record { short = one }
  where
    one : (i : ℕ) → i < length (v ∷ []) → get_or (v ∷ []) i 0 < 256
    one zero l = h
    one (suc i) l = omega arith

module _ {v : ℕ} {vs : List ℕ} (o : Octets (v ∷ vs)) where
  pub octets_head : v < 256
  octets_head = o.short 0 (omega arith)

  pub octets_tail : Octets vs
  octets_tail = record { short = λ i l. o.short (suc i) (omega arith) }

module _ (n : ℕ) {vs : List ℕ} (o : Octets vs) where
  pub octets_take : Octets (take n vs)
  octets_take =
      record {
        short =
            λ i l.
            let inside : (i < n) × (i < length vs) = let s = length-take n vs in omega arith in
            rw (get_or-take n vs i 0 inside.0) (o.short i inside.1);
      }

  pub octets_drop : Octets (drop n vs)
  octets_drop =
      record {
        short =
            λ i l.
            let inside : n + i < length vs = let s = length-drop n vs in omega arith in
            rw (get_or-drop n vs i 0) (o.short (n + i) inside);
      }
