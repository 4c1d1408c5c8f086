-- The lengths of planes and frames, and the octets of a plane.
use mathlib.Core.Path.{◌≡◌, refl, sym, ◌∙◌}
use mathlib.Core.List.{List}
use Prim.Native.Nat.{ℕ, zero, suc, ◌*◌, ◌≤◌, ◌<◌}
use native.Mathlib.Nat.{zero-mul, suc-mul, add_comm, mul_comm, mul-le-mul}
use native.Mathlib.Omega.{arith}
use lib.ListN.{length, get_or, drop, length-append}
use Rattle.lists.proofs.Tables.{length_tabulate, get_or_tabulate}
use Rattle.frame.specs.declared.header.Header.{Header}
use Rattle.frame.specs.Header.{plain, numbered, group, header_length, most_groups, frame_length, due_length}
use Rattle.frame.specs.Planes.{gather, octet_at, plane, planes, frame_of}
use Rattle.frame.specs.Sound.{SoundHeader, Sound}
use Rattle.frame.proofs.Headers.{octets_length}

pub plane_length : (g b : ℕ) (codewords : List ℕ) → length (plane g b codewords) ≡ g
unfolding plane
plane_length g b codewords = length_tabulate g (octet_at b codewords)

pub plane_at : (g b : ℕ) (codewords : List ℕ) (j : ℕ) → j < g → get_or (plane g b codewords) j 0 ≡ gather group b (drop (j * group) codewords) 0
unfolding plane octet_at
plane_at g b codewords j h = get_or_tabulate g (octet_at b codewords) j 0 h ∙ rw (mul_comm group j)

pub planes_length : (g x : ℕ) (codewords : List ℕ) → length (planes g x codewords) ≡ x * g
unfolding planes
planes_length g zero codewords = sym (zero-mul g)
planes_length g (suc b) codewords =
    simp (length-append, plane_length, planes_length g b codewords) (add_comm g (b * g) ∙ sym (suc-mul b g))

pub written_length : (h : Header) (codewords : List ℕ) → length (frame_of h codewords) ≡ due_length h
unfolding frame_of
written_length h codewords = simp (length-append, planes_length, octets_length)

-- no edition has longer frames than the numbered one
pub groups_most : (e : ℕ) → most_groups e ≤ most_groups numbered
unfolding most_groups
groups_most e = omega arith

-- the octets that are room enough for any frame of an edition
abbrev pub most_octets : ℕ → ℕ
most_octets e = frame_length e 5 (most_groups e)

-- "202 at most" in edition 1, and one more in edition 2
pub most_plain : most_octets plain ≡ 202
unfolding header_length most_groups
most_plain = refl

pub most_numbered : most_octets numbered ≡ 203
unfolding header_length most_groups
most_numbered = refl

pub length_most : {h : Header} → SoundHeader h → due_length h ≤ most_octets h.edition
length_most s = omega (arith, mul-le-mul s.pair.widths.high s.count.high)

pub sound_most : {h : Header} {n : ℕ} → Sound h n → n ≤ most_octets h.edition
sound_most s = rw s.whole (length_most s.header)
