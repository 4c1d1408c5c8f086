-- The header written and read back: a frame begins with its header's octets, and the header and the planes that are read are those that were
-- put there (docs/RULES.md, "The frame").
use mathlib.Core.Bool.{true, false}
use mathlib.Core.Path.{◌≡◌, sym, ◌∙◌}
use mathlib.Core.List.{List, [], ◌∷◌, ◌++◌, append_assoc}
use Prim.Native.Nat.{ℕ, ◌+◌, ◌*◌, ◌≤◌, ◌<◌}
use native.Mathlib.Omega.{arith}
use lib.ListN.{length, get_or, take, drop, set}
use lib.Seq.{take_at, drop_at, drop-drop, drop-append-le, length-take-le}
use Rattle.std.proofs.lemmas.List.{drop-take}
use Rattle.words.proofs.Pick.{by_pick, pick_le}
use Rattle.frame.specs.declared.header.Header.{Header}
use Rattle.frame.specs.Header.{fewest, is_numbered, header_length, head, header_octets, borne, header_of}
use Rattle.frame.specs.Planes.{planes, frame_of}
use Rattle.frame.specs.Read.{body, narrowed, thinned}
use Rattle.frame.specs.Sound.{SoundHeader}
use Rattle.frame.proofs.Numbered.{again, sized, read_back, whole_again, stored}

-- the header of an edition without a number has none
abbrev pub Bears : Header → Type 0
Bears h = borne h.edition h.number ≡ h.number

-- three bits hold x, and three hold y; the number is one that can be read back
pub record Fields (h : Header) : Type 0 where
  pub width : h.width < 8
  pub core : h.core < 8
  pub number : Bears h

pub sound_fields : {h : Header} → SoundHeader h → Bears h → Fields h
sound_fields s number = record { width = omega (arith, s.pair.widths.high); core = omega (arith, s.pair.cores.high); number = number }

pub borne_again : (e n : ℕ) → borne e (borne e n) ≡ borne e n
borne_again e n = again (is_numbered e) n

pub header_fields : (frame : List ℕ) → Fields (header_of frame)
unfolding header_of
header_fields frame = record { width = omega arith; core = omega arith; number = borne_again (header_of frame).edition (get_or frame 2 0) }

pub narrowed_fields : {w : ℕ} {h : Header} → w < 8 → Fields h → Fields (narrowed w h)
narrowed_fields narrow f = record { width = narrow; core = f.core; number = f.number }

-- the fields stand before the planes, and a header is short
pub fields_there : (e : ℕ) → fewest ≤ header_length e
unfolding header_length
fields_there e = by_pick (λ (n : ℕ). fewest ≤ n) (is_numbered e) 3 2 (λ t. omega arith) (λ t. omega arith)

pub header_short : (e : ℕ) → header_length e ≤ 3
unfolding header_length
header_short e = pick_le (is_numbered e) (omega arith) (omega arith)

pub octets_length : (h : Header) → length (header_octets h) ≡ header_length h.edition
unfolding header_octets header_length
octets_length h = sized (is_numbered h.edition) (head h.edition h.width h.core) h.groups h.number

-- octets behind a header
module _ {h : Header} (f : Fields h) (octets : List ℕ) where
  pub header_back : header_of (header_octets h ++ octets) ≡ h
  unfolding header_of header_octets
  header_back =
      let width = f.width in
      let core = f.core in
      let e : (header_of (header_octets h ++ octets)).edition ≡ h.edition = omega arith in
      let x : (header_of (header_octets h ++ octets)).width ≡ h.width = omega arith in
      let y : (header_of (header_octets h ++ octets)).core ≡ h.core = omega arith in
      let n : (header_of (header_octets h ++ octets)).number ≡ h.number = rw e (read_back (is_numbered h.edition) h.number octets ∙ f.number) in
      λ i. record { edition = e i; width = x i; core = y i; groups = h.groups; number = n i }

  pub body_back : body (header_octets h ++ octets) ≡ octets
  unfolding body
  body_back = rw header_back (drop_at (header_octets h) octets (header_length h.edition) (octets_length h))

-- a frame is its header and its planes
pub frame_whole : (frame : List ℕ) → header_length (header_of frame).edition ≤ length frame → header_octets (header_of frame) ++ body frame ≡ frame
unfolding header_octets header_of header_length body
frame_whole [] h = absurd (omega arith)
frame_whole (a ∷ []) h = absurd (omega (arith, fields_there (header_of (a ∷ [])).edition))
frame_whole (a ∷ b ∷ frame) h =
    let back : head (header_of (a ∷ b ∷ frame)).edition (header_of (a ∷ b ∷ frame)).width (header_of (a ∷ b ∷ frame)).core ≡ a = omega arith in
    rw (back, whole_again _ a b frame h)

module _ {h : Header} (f : Fields h) (codewords : List ℕ) where
  pub written_header : header_of (frame_of h codewords) ≡ h
  unfolding frame_of
  written_header = header_back f (planes h.groups h.width codewords)

  pub written_body : body (frame_of h codewords) ≡ planes h.groups h.width codewords
  unfolding frame_of
  written_body = body_back f (planes h.groups h.width codewords)

module _ {w : ℕ} (narrow : w < 8) (frame : List ℕ) where
  pub thinned_header : header_of (thinned w frame) ≡ narrowed w (header_of frame)
  unfolding thinned
  thinned_header = header_back (narrowed_fields narrow (header_fields frame)) (take (w * (header_of frame).groups) (body frame))

  pub thinned_body : body (thinned w frame) ≡ take (w * (header_of frame).groups) (body frame)
  unfolding thinned
  thinned_body = body_back (narrowed_fields narrow (header_fields frame)) (take (w * (header_of frame).groups) (body frame))

-- the code's stores: the octets in front of the planes, with a number and without
module _ (h : Header) (d : List ℕ) (long : header_length h.edition ≤ length d) where
  abbrev fields : List ℕ
  fields = set (set d 0 (head h.edition h.width h.core)) 1 h.groups

  pub number_stored : is_numbered h.edition ≡ true → set fields 2 h.number ≡ header_octets h ++ drop (header_length h.edition) d
  unfolding header_length header_octets
  number_stored t = rw t (stored true _ _ h.number d (rw t at long))

  pub fields_stored : is_numbered h.edition ≡ false → fields ≡ header_octets h ++ drop (header_length h.edition) d
  unfolding header_length header_octets
  fields_stored t = rw t (stored false _ _ h.number d (rw t at long))

-- planes written behind a header's octets
pub planes_behind : (h : Header) (m : ℕ) (d octets : List ℕ)
    → take (header_length h.edition) (header_octets h ++ drop (header_length h.edition) d) ++ (octets ++ drop m (drop (header_length h.edition) (header_octets h ++ drop (header_length h.edition) d)))
    ≡ (header_octets h ++ octets) ++ drop (header_length h.edition + m) d
planes_behind h m d octets =
    let n = header_length h.edition in
    let behind = drop n d in
    rw (take_at (header_octets h) behind n (octets_length h), drop_at (header_octets h) behind n (octets_length h), drop-drop m n d) (sym (append_assoc (header_octets h) octets (drop (n + m) d)))

-- a header written anew in front of a frame's first planes
pub header_renewed : (h : Header) (m : ℕ) (frame e : List ℕ) → header_length h.edition + m ≤ length frame
    → header_octets h ++ drop (header_length h.edition) (take (header_length h.edition + m) frame ++ e) ≡ (header_octets h ++ take m (drop (header_length h.edition) frame)) ++ e
header_renewed h m frame e long =
    let n = header_length h.edition in
    let there : n ≤ length (take (n + m) frame) = rw (length-take-le (n + m) frame long) (omega arith) in
    rw (drop-append-le n (take (n + m) frame) e there, drop-take n m frame) (sym (append_assoc (header_octets h) (take m (drop n frame)) e))
