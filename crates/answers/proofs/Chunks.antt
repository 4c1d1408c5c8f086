-- A list in pieces of two, joined again.
use Rattle.std.proofs.Common.{◌≡◌, ◌≢◌, ℕ, ◌*◌, ◌^◌, ◌<◌, ◌+◌, ◌/◌, ◌%◌, zero, suc, List, [], ◌∷◌, ◌++◌, length, map, take, drop, get_or, arith, refl, ap, ◌∙◌, sym, length-drop}
use Rattle.std.proofs.lemmas.List.{take-append-drop, get_or-map}
use Rattle.std.proofs.lemmas.List.Folds.{flat_map-map}
use Rattle.std.proofs.lemmas.Int.{of_z-to_z}
use Rattle.std.specs.List.{All, flat_map}
use Rattle.std.specs.Prelude.{codes}
use Rattle.std.specs.Simd.{first_chunks}
use Rattle.std.specs.Int.{w16, from_be_bytes}
use Rattle.answers.specs.Forms.{octet_text, octets_text, sample_octets, sample_of}

pub chunks_joined : (n : ℕ) (text : List ℕ) → length text ≡ 2 * n → flat_map (λ x. x) (first_chunks 2 n text) ≡ text
chunks_joined zero [] p = refl
chunks_joined zero (x ∷ xs) p = absurd (omega arith)
chunks_joined (suc n) text p =
    let left : length (drop 2 text) ≡ 2 * n = simp length-drop (omega arith) in
    ap (λ behind. take 2 text ++ behind) (chunks_joined n (drop 2 text) left) ∙ take-append-drop 2 text

-- octets whose digits are the pieces of a text are written as the text
pub octets_joined : (octets : List ℕ) (n : ℕ) (text : List ℕ) → length text ≡ 2 * n → 0 < n → map octet_text octets ≡ first_chunks 2 n text → text ≡ octets_text octets
octets_joined [] (suc n) text p some e = cc
octets_joined [] zero text p some e = absurd (omega arith)
octets_joined (octet ∷ octets) n text p some e =
    sym (chunks_joined n text p) ∙ ap (flat_map (λ x. x)) (sym e) ∙ flat_map-map (λ x. x) octet_text (octet ∷ octets)

two_back : (a b : ℕ) → a < 256 → b < 256 → sample_octets (sample_of (a ∷ b ∷ [])) ≡ a ∷ b ∷ []
two_back a b below_a below_b =
    let small : from_be_bytes w16 (a ∷ b ∷ []) < 2 ^ 16 = omega arith in
    let high : (a * 256 + b) / 256 % 256 ≡ a = omega arith in
    let low : (a * 256 + b) % 256 ≡ b = omega arith in
    rw (of_z-to_z w16 _ small) (cc)

-- the samples of the pieces of octets have these octets
pub samples_joined : (n : ℕ) (octets : List ℕ) → length octets ≡ 2 * n → ((i : ℕ) → get_or octets i 0 < 256) → flat_map sample_octets (map sample_of (first_chunks 2 n octets)) ≡ octets
samples_joined zero [] p small = refl
samples_joined zero (x ∷ xs) p small = absurd (omega arith)
samples_joined (suc n) [] p small = absurd (omega arith)
samples_joined (suc n) (x ∷ []) p small = absurd (omega arith)
samples_joined (suc n) (a ∷ b ∷ octets) p small =
    let left : length octets ≡ 2 * n = omega arith in
    let rest = samples_joined n octets left (λ i. small (suc (suc i))) in
    ap (λ front. front ++ flat_map sample_octets (map sample_of (first_chunks 2 n octets))) (two_back a b (small 0) (small 1)) ∙ ap (λ behind. a ∷ b ∷ behind) rest

text_length : (octets : List ℕ) → length (flat_map octet_text octets) ≡ 2 * length octets
text_length [] = refl
text_length (octet ∷ octets) = let rest = text_length octets in omega (arith, rest)

pieces_written : (octets : List ℕ) → first_chunks 2 (length octets) (flat_map octet_text octets) ≡ map octet_text octets
pieces_written [] = refl
pieces_written (octet ∷ octets) = ap (λ more. octet_text octet ∷ more) (pieces_written octets)

-- what octets are written as, where it is not that there are none
pub pairs_written : (octets text : List ℕ) → text ≢ codes "-" → text ≡ octets_text octets → (length text ≡ 2 * length octets) × (0 < length octets)
pairs_written [] text some same = absurd (some same)
pairs_written (octet ∷ octets) text some same = (ap length same ∙ text_length (octet ∷ octets), omega arith)

piece_of : (octets text : List ℕ) (i : ℕ) → All (λ octet. octet < 256) octets → text ≡ flat_map octet_text octets → i < length text / 2 → (octet : ℕ) × (octet < 256) × (get_or (first_chunks 2 (length text / 2) text) i [] ≡ octet_text octet)
piece_of octets text i small same within =
    let count : length text ≡ 2 * length octets = ap length same ∙ text_length octets in
    let half : length text / 2 ≡ length octets = omega (arith, count) in
    let at : i < length octets = omega arith in
    let pieces : first_chunks 2 (length text / 2) text ≡ map octet_text octets = ap (λ n. first_chunks 2 n text) half ∙ ap (first_chunks 2 (length octets)) same ∙ pieces_written octets in
    (get_or octets i 0, small i 0 at, ap (λ list. get_or list i []) pieces ∙ get_or-map octet_text octets i 0 [] at)

-- each of its pieces is an octet's
pub piece_written : (octets text : List ℕ) (i : ℕ) → All (λ octet. octet < 256) octets → text ≢ codes "-" → text ≡ octets_text octets → i < length text / 2 → (octet : ℕ) × (octet < 256) × (get_or (first_chunks 2 (length text / 2) text) i [] ≡ octet_text octet)
piece_written [] text i small some same within = absurd (some same)
piece_written (octet ∷ octets) text i small some same within = piece_of (octet ∷ octets) text i small same within

-- what an odd number of octets is written as is no text of an even number
pub odd_written : (octets others text : List ℕ) → text ≡ octets_text octets → length octets % 2 ≡ 1 → length others % 2 ≡ 0 → text ≡ octets_text others → ⊥
odd_written [] others text same odd even also = absurd (omega arith)
odd_written (octet ∷ octets) [] text same odd even also =
    let pairs : length text ≡ 2 * length (octet ∷ octets) = ap length same ∙ text_length (octet ∷ octets) in
    let one : length text ≡ 1 = ap length also in
    absurd (omega arith)
odd_written (octet ∷ octets) (other ∷ others) text same odd even also =
    let pairs : length text ≡ 2 * length (octet ∷ octets) = ap length same ∙ text_length (octet ∷ octets) in
    let others_pairs : length text ≡ 2 * length (other ∷ others) = ap length also ∙ text_length (other ∷ others) in
    absurd (omega arith)
