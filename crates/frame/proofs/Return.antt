-- What was written is read back: the codewords of a frame's planes are those that the planes were made of (docs/RULES.md, "The frame").
use mathlib.Core.Path.{◌≡◌, ◌∙◌}
use mathlib.Core.List.{List}
use Prim.Native.Nat.{ℕ, zero, suc, ◌+◌, ◌-◌, ◌*◌, ◌/◌, ◌%◌, ◌^◌, ◌<◌}
use native.Mathlib.Nat.{zero-mul, div-add-mod', mod-eq_of_lt}
use native.Mathlib.Omega.{arith}
use lib.ListN.{length, get_or, drop, get_or-append}
use lib.Seq.{drop_at, get_or-drop}
use Rattle.words.specs.Notation.{◌>>◌}
use Rattle.lists.proofs.Tables.{tabulate_same, tabulate_list}
use Rattle.frame.specs.declared.header.Header.{Header}
use Rattle.frame.specs.Header.{group, sample_count}
use Rattle.frame.specs.Planes.{bit, gather, plane, planes, frame_of}
use Rattle.frame.specs.Read.{collect, codeword_at, codewords, received}
use Rattle.frame.proofs.Bits.{bit_gone, bit_more}
use Rattle.frame.proofs.Headers.{Fields, written_header, written_body}
use Rattle.frame.proofs.Sizes.{plane_length, plane_at}

-- what is there stands above the n bits that are gathered behind it
gather_above : (n b : ℕ) (cws : List ℕ) (there : ℕ) → gather n b cws there >> n ≡ there
unfolding gather
gather_above zero b cws there = omega arith
gather_above (suc n) b cws there =
    let c : ℕ = get_or cws 0 0 in
    bit_gone n (gather (suc n) b cws there) there b c (gather_above n b (drop 1 cws) (there * 2 + bit b c))

-- of n bits that are gathered, the one with j behind it is that of the codeword with as many behind it
gather_bit : (n b : ℕ) (cws : List ℕ) (there i j : ℕ) → i + suc j ≡ n → bit j (gather n b cws there) ≡ bit b (get_or cws i 0)
unfolding gather bit
gather_bit zero b cws there i j h = absurd (omega arith)
gather_bit (suc n) b cws there zero j h =
    let last : j ≡ n = omega arith in
    let more : ℕ = there * 2 + bit b (get_or cws 0 0) in
    rw last (omega (arith, gather_above n b (drop 1 cws) more))
gather_bit (suc n) b cws there (suc i) j h =
    let more : ℕ = there * 2 + bit b (get_or cws 0 0) in
    let next : 1 + i ≡ suc i = omega arith in
    gather_bit n b (drop 1 cws) more i j (omega arith) ∙ rw (get_or-drop 1 cws i 0, next)

-- the octet of sample k in the plane of bit b has that bit in the sample's place
plane_bit : (g b : ℕ) (cws : List ℕ) (k : ℕ) → k < group * g → bit (7 - k % group) (get_or (plane g b cws) (k / group) 0) ≡ bit b (get_or cws k 0)
plane_bit g b cws k h =
    let here : bit (7 - k % group) (gather group b (drop (k / group * group) cws) 0) ≡ bit b (get_or (drop (k / group * group) cws) (k % group) 0) = gather_bit group b (drop (k / group * group) cws) 0 (k % group) (7 - k % group) (omega arith) in
    rw (plane_at g b cws (k / group) (omega arith)) (here ∙ rw (get_or-drop (k / group * group) cws (k % group) 0, div-add-mod' k group))

-- of each codeword x planes give back the x lowest bits
planes_collect : (x g k : ℕ) (cws : List ℕ) (there : ℕ) → k < group * g → collect x g k (planes g x cws) there ≡ there * 2 ^ x + get_or cws k 0 % 2 ^ x
unfolding collect planes
planes_collect zero g k cws there h = omega arith
planes_collect (suc x) g k cws there h =
    let place : k / group < length (plane g x cws) = rw (plane_length g x cws) (omega arith) in
    let more : ℕ = there * 2 + bit x (get_or cws k 0) in
    rw (drop_at (plane g x cws) (planes g x cws) g (plane_length g x cws), get_or-append (plane g x cws) (planes g x cws) 0 (k / group) place, plane_bit g x cws k h)
    (planes_collect x g k cws more h ∙ bit_more x (get_or cws k 0) there)

pub codeword_return : (x g : ℕ) (cws : List ℕ) (k : ℕ) → k < group * g → codeword_at x g (planes g x cws) k ≡ get_or cws k 0 % 2 ^ x
unfolding codeword_at
codeword_return x g cws k h = planes_collect x g k cws 0 h ∙ omega (arith, zero-mul (2 ^ x))

-- codewords of x bits are given back whole
pub codewords_return : (x g : ℕ) (cws : List ℕ) → length cws ≡ group * g → ((k : ℕ) → k < length cws → get_or cws k 0 < 2 ^ x) → codewords x g (planes g x cws) ≡ cws
unfolding codewords
codewords_return x g cws all short =
    tabulate_same (group * g) (codeword_at x g (planes g x cws)) (λ k. get_or cws k 0) (λ k h. codeword_return x g cws k h ∙ mod-eq_of_lt (short k (rw all h)))
    ∙ rw (← all) (tabulate_list cws 0)

pub received_return : {h : Header} → Fields h → (cws : List ℕ) → length cws ≡ sample_count h → ((k : ℕ) → k < length cws → get_or cws k 0 < 2 ^ h.width)
    → received (frame_of h cws) ≡ cws
unfolding received
received_return {h} f cws all short = rw (written_header f cws, written_body f cws) (codewords_return h.width h.groups cws all short)
