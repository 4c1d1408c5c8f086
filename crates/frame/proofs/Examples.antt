-- The worked examples of docs/RULES.md, "The frame": a header at (5, 2), eight codewords, their frame, and the frame thinned to a width.
use mathlib.Core.Path.{◌≡◌, refl}
use mathlib.Core.List.{List, [], ◌∷◌, map}
use Prim.Native.Nat.{ℕ}
use Rattle.lists.specs.Tabulate.{entries, tabulate}
use Rattle.frame.specs.declared.header.Header.{Header}
use Rattle.frame.specs.Header.{plain, numbered, header_length, header_octets, header_of}
use Rattle.frame.specs.Planes.{bit, gather, octet_at, plane, planes, frame_of}
use Rattle.frame.specs.Read.{collect, codeword_at, codewords, body, received, thinned}

pub record Example : Type 0 where
  pub header : Header
  pub codewords : List ℕ
  pub frame : List ℕ
  pub width : ℕ
  pub thin : List ℕ

-- one group at (5, 2): without a number, and with number 7
abbrev pub unnumbered : Header
unnumbered = record { edition = plain; width = 5; core = 2; groups = 1; number = 0 }

abbrev pub seventh : Header
seventh = record { edition = numbered; width = 5; core = 2; groups = 1; number = 7 }

-- "Eight codewords 10000", and "00001 and then seven times 00000"; and the first of them in edition 2
abbrev pub examples : List Example
examples =
    record {
      header = unnumbered;
      codewords = 0b10000 ∷ 0b10000 ∷ 0b10000 ∷ 0b10000 ∷ 0b10000 ∷ 0b10000 ∷ 0b10000 ∷ 0b10000 ∷ [];
      frame = 0x6A ∷ 0x01 ∷ 0xFF ∷ 0x00 ∷ 0x00 ∷ 0x00 ∷ 0x00 ∷ [];
      width = 2;
      thin = 0x52 ∷ 0x01 ∷ 0xFF ∷ 0x00 ∷ [];
    }
    ∷ record {
      header = unnumbered;
      codewords = 0b00001 ∷ 0b00000 ∷ 0b00000 ∷ 0b00000 ∷ 0b00000 ∷ 0b00000 ∷ 0b00000 ∷ 0b00000 ∷ [];
      frame = 0x6A ∷ 0x01 ∷ 0x00 ∷ 0x00 ∷ 0x00 ∷ 0x00 ∷ 0x80 ∷ [];
      width = 4;
      thin = 0x62 ∷ 0x01 ∷ 0x00 ∷ 0x00 ∷ 0x00 ∷ 0x00 ∷ [];
    }
    ∷ record {
      header = seventh;
      codewords = 0b10000 ∷ 0b10000 ∷ 0b10000 ∷ 0b10000 ∷ 0b10000 ∷ 0b10000 ∷ 0b10000 ∷ 0b10000 ∷ [];
      frame = 0xAA ∷ 0x01 ∷ 0x07 ∷ 0xFF ∷ 0x00 ∷ 0x00 ∷ 0x00 ∷ 0x00 ∷ [];
      width = 2;
      thin = 0x92 ∷ 0x01 ∷ 0x07 ∷ 0xFF ∷ 0x00 ∷ [];
    }
    ∷ []

-- what the definitions read from an example's frame, make of its codewords, and leave of its frame
abbrev pub made : Example → Example
made e = record { header = header_of e.frame; codewords = received e.frame; frame = frame_of e.header e.codewords; width = e.width; thin = thinned e.width e.frame }

pub examples_hold : map made examples ≡ examples
unfolding entries tabulate header_length header_octets header_of bit gather octet_at plane planes frame_of collect codeword_at codewords body received thinned
examples_hold = refl
