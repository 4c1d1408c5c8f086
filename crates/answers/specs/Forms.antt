-- How what is listed is written.
use Rattle.std.specs.Prelude.{ℕ, ℤ, ◌/◌, ◌%◌, ◌<◌, ◌≡◌, ◌≢◌, length, All, List, [], ◌∷◌, codes}
use Rattle.std.specs.List.{flat_map}
use Rattle.std.specs.Char.{digit_char}
use Rattle.text.specs.Order as order
use Rattle.text.specs.declared.samples.Order.TheVariants.{HighFirst}

-- the two digits of an octet
abbrev pub octet_text : ℕ → List ℕ
octet_text octet = digit_char (octet / 16) ∷ digit_char (octet % 16) ∷ []

-- the digits of all octets, or a sign that there are none
abbrev pub octets_text : List ℕ → List ℕ
octets_text [] = codes "-"
octets_text (octet ∷ octets) = flat_map octet_text (octet ∷ octets)

-- no octets are written so
abbrev pub IsNoOctetsText : List ℕ → Type 0
IsNoOctetsText text = (octets : List ℕ) → All (λ octet. octet < 256) octets → text ≢ octets_text octets

-- no octets of whole samples are written so
abbrev pub IsNoSamplesText : List ℕ → Type 0
IsNoSamplesText text = (octets : List ℕ) → All (λ octet. octet < 256) octets → length octets % 2 ≡ 0 → text ≢ octets_text octets

-- a sample's two octets, the more significant one first, in two's complement
abbrev pub sample_octets : ℤ → List ℕ
sample_octets sample = order.pair_of HighFirst sample

-- the sample of two octets
abbrev pub sample_of : List ℕ → ℤ
sample_of pair = order.sample_of HighFirst pair
