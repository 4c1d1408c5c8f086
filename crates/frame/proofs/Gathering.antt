-- A bit shifted in behind others; eight of them gathered into an octet; and the loop that writes a plane.
use mathlib.Core.Path.{◌≡◌, refl, sym, ◌∙◌}
use mathlib.Core.List.{List, [], ◌∷◌, append-nil}
use Prim.Native.Nat.{ℕ, zero, suc, ◌+◌, ◌*◌, ◌/◌, ◌%◌, ◌^◌, ◌≤◌, ◌<◌}
use native.Mathlib.Nat.{pow-suc, mul-le-mul_left, mul-le-mul_right}
use native.Mathlib.Omega.{arith}
use lib.Bits.{bit_and, bit_or, and_mask, or_shifted}
use lib.ListN.{length, get_or, take, drop, set, drop_of_length-le}
use lib.Pow.{pow_mono}
use lib.Seq.{drop-drop}
use Rattle.std.specs.List.{fold}
use Rattle.std.specs.Simd.{first_chunks}
use Rattle.lists.proofs.Filled.{Filled, filled_none, filled_more, filled_all}
use Rattle.frame.specs.Header.{group}
use Rattle.frame.specs.Planes.{bit, gather, plane}
use Rattle.frame.proofs.Sizes.{plane_length, plane_at}

-- a shift, a mask and an or are a sum where the bits do not meet
pub shifted : (there b c : ℕ) → bit_or (there * 2 % 256) (bit_and (c / 2 ^ b) 1) ≡ (there * 2 + bit b c) % 256
unfolding bit
shifted there b c =
    let kept : there * 2 % 256 ≡ there % 128 * 2 = omega arith in
    let one : c / 2 ^ b % 2 < 2 = omega arith in
    rw (kept, and_mask (c / 2 ^ b) 1, or_shifted (there % 128) 1 (c / 2 ^ b % 2) one) (omega arith)

-- where n bits more have room in an octet, none is lost
kept : (n there b c : ℕ) → (there + 1) * 2 ^ suc n ≤ 256 → ((there * 2 + bit b c) % 256 ≡ there * 2 + bit b c) × ((there * 2 + bit b c + 1) * 2 ^ n ≤ 256)
unfolding bit
kept n there b c h =
    let one : c / 2 ^ b % 2 < 2 = omega arith in
    let wide = rw (pow-suc 2 n) at h in
    let room : (there * 2 + 2) * 2 ^ n ≤ 256 = omega arith in
    let here : (there * 2 + 2) * 1 ≤ (there * 2 + 2) * 2 ^ n = mul-le-mul_left (there * 2 + 2) (pow_mono {i = 0} {j = n} (omega arith)) in
    let less : (there * 2 + c / 2 ^ b % 2 + 1) * 2 ^ n ≤ (there * 2 + 2) * 2 ^ n = mul-le-mul_right (2 ^ n) (omega arith) in
    (omega arith, omega arith)

gather_fold : (b : ℕ) (codewords : List ℕ) (there : ℕ) → (there + 1) * 2 ^ length codewords ≤ 256
    → fold (λ t c. (t * 2 + bit b c) % 256) there codewords ≡ gather (length codewords) b codewords there
unfolding gather
gather_fold b [] there h = refl
gather_fold b (c ∷ cs) there h =
    let k = kept (length cs) there b c h in
    rw k.0 (gather_fold b cs (there * 2 + bit b c) k.1)

pub gathered : (b : ℕ) (codewords : List ℕ) → length codewords ≡ group → fold (λ t c. (t * 2 + bit b c) % 256) 0 codewords ≡ gather group b codewords 0
gathered b codewords eight = rw eight at (gather_fold b codewords 0 (rw eight (omega arith)))

-- a chunk of eight is gathered as what begins there
gather_take : (n b : ℕ) (codewords : List ℕ) (there : ℕ) → gather n b (take n codewords) there ≡ gather n b codewords there
unfolding gather
gather_take zero b codewords there = refl
gather_take (suc n) b [] there = refl
gather_take (suc n) b (c ∷ cs) there = gather_take n b cs (there * 2 + bit b c)

chunk_at : (k j : ℕ) (codewords : List ℕ) → j < k → get_or (first_chunks group k codewords) j [] ≡ take group (drop (j * group) codewords)
chunk_at zero j codewords h = absurd (omega (arith, h))
chunk_at (suc k) zero codewords h = refl
chunk_at (suc k) (suc j) codewords h =
    let further : group + j * group ≡ suc j * group = omega arith in
    chunk_at k j (drop group codewords) (omega arith) ∙ rw (drop-drop (j * group) group codewords, further)

-- the loop over the groups: j octets stand in the buffer d
module _ (d codewords : List ℕ) (b : ℕ) where
  abbrev pub Filling : ℕ → List ℕ → Type 0
  Filling j out = Filled d (plane (length codewords / group) b codewords) (length codewords / group) j out

  pub filling_none : length d ≡ length codewords / group → Filling 0 d
  filling_none size = filled_none _ _ _ (plane_length (length codewords / group) b codewords) (omega arith)

  pub filling_more : {j v : ℕ} {out : List ℕ} → Filling j out → j < length codewords / group
      → v ≡ gather group b (get_or (first_chunks group (length codewords / group) codewords) j []) 0 → Filling (j + 1) (set out j v)
  filling_more {j} f more is =
      let here = chunk_at (length codewords / group) j codewords more in
      filled_more _ _ _ 0 f more
      (is ∙ rw here (gather_take group b (drop (j * group) codewords) 0) ∙ sym (plane_at (length codewords / group) b codewords j more))

  pub filling_done : {j : ℕ} {out : List ℕ} → length d ≡ length codewords / group → Filling j out → length codewords / group ≤ j → out ≡ plane (length codewords / group) b codewords
  filling_done e f all =
      let whole : drop (length codewords / group) d ≡ [] = drop_of_length-le d (omega arith) in
      filled_all _ _ _ f all ∙ rw (whole, append-nil)
