-- Dropping planes is shifting codewords to the right: what is kept of a frame is the frame of the shorter codewords, in one step or in several,
-- and a frame thinned to its own width is itself (docs/RULES.md, "The frame").
use mathlib.Core.Path.{◌≡◌, refl, sym, ◌∙◌}
use mathlib.Core.List.{List, [], ◌∷◌, map}
use Prim.Native.Nat.{ℕ, zero, suc, ◌+◌, ◌-◌, ◌*◌, ◌/◌, ◌%◌, ◌^◌, ◌≤◌, ◌<◌}
use native.Mathlib.Nat.{zero-mul, suc-mul, add_comm, zero-add, suc-add, zero-div, mul-le-mul_right, lt_of_le_of_lt}
use native.Mathlib.Omega.{arith}
use lib.ListN.{length, get_or, take, drop, length-drop}
use lib.Pow.{shr-shr}
use lib.Seq.{take_all, take-take, take-append-add, get_or-take}
use Rattle.std.proofs.lemmas.List.{drop-take, drop-map}
use Rattle.words.specs.Notation.{◌>>◌}
use Rattle.lists.proofs.Tables.{tabulate_same, map_tabulate}
use Rattle.frame.specs.declared.header.Header.{Header}
use Rattle.frame.specs.Header.{group, header_of}
use Rattle.frame.specs.Planes.{bit, gather, octet_at, plane, planes, frame_of}
use Rattle.frame.specs.Read.{collect, codeword_at, codewords, body, received, narrowed, thinned}
use Rattle.frame.specs.Sound.{Sound}
use Rattle.frame.proofs.Bits.{bit_gone}
use Rattle.frame.proofs.Headers.{Fields, header_fields, frame_whole, written_header, written_body, thinned_header, thinned_body}
use Rattle.frame.proofs.Sizes.{plane_length}

-- the codewords with their d lowest bits left out
abbrev shorter : ℕ → List ℕ → List ℕ
shorter d cws = map (λ c. c >> d) cws

module _ (b d : ℕ) where
  bit_shorter : (cws : List ℕ) → bit b (get_or (shorter d cws) 0 0) ≡ bit (b + d) (get_or cws 0 0)
  unfolding bit
  bit_shorter [] = rw (zero-div (2 ^ b), zero-div (2 ^ (b + d)))
  bit_shorter (c ∷ cws) = rw (shr-shr c d b, add_comm d b)

  gather_shorter : (n : ℕ) (cws : List ℕ) (there : ℕ) → gather n b (shorter d cws) there ≡ gather n (b + d) cws there
  unfolding gather
  gather_shorter zero cws there = refl
  gather_shorter (suc n) cws there = rw (drop-map (λ c. c >> d) 1 cws, bit_shorter cws) (gather_shorter n (drop 1 cws) (there * 2 + bit (b + d) (get_or cws 0 0)))

  plane_shorter : (g : ℕ) (cws : List ℕ) → plane g b (shorter d cws) ≡ plane g (b + d) cws
  unfolding plane octet_at
  plane_shorter g cws = tabulate_same g (octet_at b (shorter d cws)) (octet_at (b + d) cws) (λ j h. rw (drop-map (λ c. c >> d) (group * j) cws) (gather_shorter group (drop (group * j) cws) 0))

planes_shorter : (g w d : ℕ) (cws : List ℕ) → planes g w (shorter d cws) ≡ take (w * g) (planes g (w + d) cws)
unfolding planes
planes_shorter g zero d cws = rw (zero-mul g)
planes_shorter g (suc w) d cws =
    let first : plane g w (shorter d cws) ≡ plane g (w + d) cws = plane_shorter w d g cws in
    let size : length (plane g (w + d) cws) ≡ g = plane_length g (w + d) cws in
    let places : suc w * g ≡ length (plane g (w + d) cws) + w * g = suc-mul w g ∙ add_comm (w * g) g ∙ rw size in
    rw (suc-add w d, places, take-append-add (plane g (w + d) cws) (planes g (w + d) cws) (w * g), first, planes_shorter g w d cws)

-- the first w of x planes are the planes of the codewords without their x - w lowest bits
pub planes_thinned : (g : ℕ) {w x : ℕ} → w ≤ x → (cws : List ℕ) → planes g w (map (λ c. c >> (x - w)) cws) ≡ take (w * g) (planes g x cws)
planes_thinned g {w} {x} narrow cws =
    let places : w + (x - w) ≡ x = omega arith in
    rw places at (planes_shorter g w (x - w) cws)

pub frame_thinned : {w : ℕ} {h : Header} → w ≤ h.width → Fields h → (cws : List ℕ)
    → thinned w (frame_of h cws) ≡ frame_of (narrowed w h) (map (λ c. c >> (h.width - w)) cws)
unfolding thinned frame_of
frame_thinned {w} {h} narrow f cws = rw (written_header f cws, written_body f cws, planes_thinned h.groups narrow cws)

-- thinning twice is thinning once
pub thinned_thinned : {v w : ℕ} → v ≤ w → w < 8 → (frame : List ℕ) → thinned v (thinned w frame) ≡ thinned v frame
unfolding thinned
thinned_thinned {v} {w} less narrow frame =
    let g = (header_of frame).groups in
    let fewer : v * g ≤ w * g = mul-le-mul_right g less in
    rw (thinned_header narrow frame, thinned_body narrow frame, take-take (v * g) (w * g) (body frame))

pub thinned_same : (frame : List ℕ) → Sound (header_of frame) (length frame) → thinned (header_of frame).width frame ≡ frame
unfolding thinned body
thinned_same frame s =
    let h = header_of frame in
    let whole = s.whole in
    let size : length (body frame) ≤ h.width * h.groups = simp length-drop (omega arith) in
    rw (take_all (h.width * h.groups) (body frame) size) (frame_whole frame (omega arith))

-- of x planes the last d give the d lowest bits
module _ (g k : ℕ) where
  collect_above : (d : ℕ) (octets : List ℕ) (there : ℕ) → collect d g k octets there >> d ≡ there
  unfolding collect
  collect_above zero octets there = omega arith
  collect_above (suc d) octets there =
      let b : ℕ = 7 - k % group in
      let c : ℕ = get_or octets (k / group) 0 in
      bit_gone d (collect (suc d) g k octets there) there b c (collect_above d (drop g octets) (there * 2 + bit b c))

  collect_shorter : (w d : ℕ) (octets : List ℕ) (there : ℕ) → collect (w + d) g k octets there >> d ≡ collect w g k octets there
  unfolding collect
  collect_shorter zero d octets there = rw (zero-add d) (collect_above d octets there)
  collect_shorter (suc w) d octets there = rw (suc-add w d) (collect_shorter w d (drop g octets) (there * 2 + bit (7 - k % group) (get_or octets (k / group) 0)))

  -- the planes behind the first w are not looked at
  collect_take : k < group * g → (w : ℕ) (octets : List ℕ) (there : ℕ) → collect w g k (take (w * g) octets) there ≡ collect w g k octets there
  unfolding collect
  collect_take within zero octets there = refl
  collect_take within (suc w) octets there =
      let places : suc w * g ≡ g + w * g = suc-mul w g ∙ add_comm (w * g) g in
      let here : k / group < g + w * g = omega arith in
      rw (places, drop-take g (w * g) octets, get_or-take (g + w * g) octets (k / group) 0 here)
      (collect_take within w (drop g octets) (there * 2 + bit (7 - k % group) (get_or octets (k / group) 0)))

  pub codeword_thinned : k < group * g → {w x : ℕ} → w ≤ x → (octets : List ℕ) → codeword_at w g (take (w * g) octets) k ≡ codeword_at x g octets k >> (x - w)
  unfolding codeword_at
  codeword_thinned within {w} {x} narrow octets =
      let places : w + (x - w) ≡ x = omega arith in
      collect_take within w octets 0 ∙ sym (rw places at (collect_shorter w (x - w) octets 0))

pub codewords_thinned : (g : ℕ) {w x : ℕ} → w ≤ x → (octets : List ℕ) → codewords w g (take (w * g) octets) ≡ map (λ c. c >> (x - w)) (codewords x g octets)
unfolding codewords
codewords_thinned g {w} {x} narrow octets =
    tabulate_same (group * g) (codeword_at w g (take (w * g) octets)) (λ k. codeword_at x g octets k >> (x - w)) (λ k within. codeword_thinned g k within narrow octets)
    ∙ sym (map_tabulate (λ c. c >> (x - w)) (group * g) (codeword_at x g octets))

pub received_thinned : {w : ℕ} (frame : List ℕ) → w ≤ (header_of frame).width
    → received (thinned w frame) ≡ map (λ c. c >> ((header_of frame).width - w)) (received frame)
unfolding received
received_thinned {w} frame narrow =
    let small = lt_of_le_of_lt narrow (header_fields frame).width in
    rw (thinned_header small frame, thinned_body small frame) (codewords_thinned (header_of frame).groups narrow (body frame))
