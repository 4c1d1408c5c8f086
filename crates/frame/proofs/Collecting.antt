-- The loop that collects a sample's bits from the planes, by what is left to collect.
use mathlib.Core.Path.{◌≡◌}
use mathlib.Core.List.{List}
use Prim.Native.Nat.{ℕ, suc, ◌+◌, ◌-◌, ◌*◌, ◌/◌, ◌%◌, ◌^◌, ◌≤◌, ◌<◌}
use native.Mathlib.Nat.{zero-mul, pow-suc}
use native.Mathlib.Omega.{arith}
use lib.ListN.{get_or, drop}
use lib.Pow.{pow_mono}
use lib.Seq.{drop-drop, get_or-drop}
use Rattle.frame.specs.Header.{group}
use Rattle.frame.specs.Planes.{bit}
use Rattle.frame.specs.Read.{collect, codeword_at}

collect_next : (n g k : ℕ) (body : List ℕ) (m there : ℕ)
    → collect (suc n) g k (drop m body) there ≡ collect n g k (drop (m + g) body) (there * 2 + bit (7 - k % group) (get_or body (m + k / group) 0))
unfolding collect
collect_next n g k body m there = rw (drop-drop g m body, get_or-drop m body (k / group) 0)

module _ (body : List ℕ) (x g k : ℕ) where
  -- the bits of `plane` planes are there
  pub record Collecting (plane there : ℕ) : Type 0 where
    pub few : plane ≤ x
    pub rest : collect (x - plane) g k (drop (plane * g) body) there ≡ codeword_at x g body k
    pub short : there < 2 ^ plane

  pub collecting_none : Collecting 0 0
  unfolding codeword_at
  collecting_none =
      let all : x - 0 ≡ x = omega arith in
      record { few = omega arith; rest = rw (all, zero-mul g); short = omega arith }

  pub collecting_more : {plane there r : ℕ} → Collecting plane there → plane < x → x ≤ 8 → r ≡ (there * 2 + bit (7 - k % group) (get_or body (plane * g + k / group) 0)) % 256 → Collecting (plane + 1) r
  unfolding bit
  collecting_more {plane} {there} {r} q more few e =
      let b : ℕ = bit (7 - k % group) (get_or body (plane * g + k / group) 0) in
      let one : b < 2 = omega arith in
      let short = q.short in
      let narrow : 2 ^ plane ≤ 2 ^ 7 = pow_mono {i = plane} {j = 7} (omega arith) in
      let is : r ≡ there * 2 + b = omega arith in
      let left : x - plane ≡ suc (x - (plane + 1)) = omega arith in
      let further : plane * g + g ≡ (plane + 1) * g = omega arith in
      let up : plane + 1 ≡ suc plane = omega arith in
      let step = rw (left, collect_next (x - (plane + 1)) g k body (plane * g) there, further, ← is) at q.rest in
      record { few = omega arith; rest = step; short = rw up (omega (arith, pow-suc 2 plane)) }

  pub collecting_done : {plane there : ℕ} → Collecting plane there → x ≤ plane → there ≡ codeword_at x g body k
  unfolding collect
  collecting_done {plane} q h =
      let none : x - plane ≡ 0 = omega arith in
      rw none at q.rest
