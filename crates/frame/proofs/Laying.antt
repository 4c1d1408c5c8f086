-- The loop that lays the planes one behind the other: `b` planes are left, and the next one goes behind the others.
use mathlib.Core.Path.{◌≡◌}
use mathlib.Core.List.{List, ◌++◌}
use Prim.Native.Nat.{ℕ, suc, ◌+◌, ◌-◌, ◌*◌, ◌≤◌, ◌<◌}
use native.Mathlib.Nat.{mul-le-mul_right}
use native.Mathlib.Omega.{arith}
use borrow.Rule.Slice.PartMut.{put_mid}
use lib.ListN.{length, drop}
use Rattle.lists.proofs.Front.{Front, front_more, front_done}
use Rattle.frame.specs.Planes.{plane, planes}
use Rattle.frame.proofs.Sizes.{plane_length, planes_length}

module _ (d codewords : List ℕ) (x g : ℕ) where
  pub record Laying (b : ℕ) (out : List ℕ) : Type 0 where
    pub few : b ≤ x
    pub fits : x * g ≤ length d
    pub front : Front d (planes g x codewords) ((x - b) * g) (planes g b codewords) out

  module _ {b place : ℕ} {out : List ℕ} (q : Laying b out) (more : 0 < b) (here : place ≡ x - b) where
    -- the next plane has its octets left in the buffer
    pub laying_fits : place * g + g ≤ length d
    laying_fits =
        let fits = q.fits in
        let few = q.few in
        let within : (place + 1) * g ≤ x * g = mul-le-mul_right g (omega arith) in
        omega arith

    pub laying_more : {part : List ℕ} → part ≡ plane g (b - 1) codewords → Laying (b - 1) (put_mid (place * g) (place * g + g - place * g) out part)
    unfolding planes
    laying_more e =
        let few = q.few in
        let up : b ≡ suc (b - 1) = omega arith in
        let whole : place * g + g - place * g ≡ g = omega arith in
        let after : x - (b - 1) ≡ place + 1 = omega arith in
        let further : (place + 1) * g ≡ place * g + g = omega arith in
        let front = rw (← here, up) at q.front in
        record {
          few = omega arith;
          fits = q.fits;
          front =
              rw (whole, after, further, e)
              (front_more d (planes g x codewords) (place * g) g (plane g (b - 1) codewords) (planes g (b - 1) codewords) out front (plane_length g (b - 1) codewords) laying_fits);
        }

  pub laying_done : {b : ℕ} {out : List ℕ} → Laying b out → b ≤ 0 → out ≡ planes g x codewords ++ drop (x * g) d
  unfolding planes
  laying_done {b} {out} q h =
      let none : b ≡ 0 = omega arith in
      let all : x - 0 ≡ x = omega arith in
      let whole : length (planes g x codewords) ≡ x * g = planes_length g x codewords in
      rw whole at (front_done d (planes g x codewords) (x * g) out (rw (none, all) at q.front) (rw whole))
