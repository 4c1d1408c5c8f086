-- An encoder knows of its samples the levels alone. So each octet expanded and lent to the linear encoder gives the G.711 encoder's answer: its number, its octets, its
-- state and every octet of out.
use mathlib.Core.Bool.{true}
use mathlib.Core.List.{List, [], ◌∷◌, map}
use mathlib.Core.Path.{◌≡◌, refl, sym, ◌∙◌}
use Prim.Native.Nat.{ℕ}
use lib.IntN.{ℤ}
use lib.ListN.{length}
use Rattle.std.specs.declared.result.Result.{Result}
use Rattle.g711.specs.Expand.{EXPAND}
use Rattle.g711.proofs.Extent.{expand_lt}
use Rattle.linear.specs.Linear.{signed}
use Rattle.linear.proofs.Levels.{word_level, word_again}
use Rattle.state.specs.declared.State.{State}
use Rattle.sample.specs.End.{End, pcm, linear, Sample, is_end}
use Rattle.replies.specs.declared.Refusal.{Refusal}
use Rattle.replies.specs.Reply.{is_law}
use Rattle.levels.specs.Levels.{encoded_codewords}
use Rattle.levels.specs.Encode.{are_taken, levels_of, encode_reply, encode_octets, encode_state, encode_out, Encodes}
use Rattle.levels.proofs.Samples.{levels_length, pcm_taken}

-- what two ends are lent is one speech: both are there or neither is, both or neither take all samples, and the levels are the same
pub record SameSpeech (a b : End) (xs : List (Sample a)) (ys : List (Sample b)) : Type 0 where
  pub known : is_end a ≡ is_end b
  pub taken : are_taken a xs ≡ are_taken b ys
  pub levels : levels_of a xs ≡ levels_of b ys

module _ (s : State) (e width : ℕ) (before : List ℕ) {a b : End} {xs : List (Sample a)} {ys : List (Sample b)} (same : SameSpeech a b xs ys) where
  sized : length xs ≡ length ys
  sized = sym (levels_length a xs) ∙ rw same.levels (levels_length b ys)

  pub same_reply : encode_reply a s e width xs before ≡ encode_reply b s e width ys before
  unfolding encode_reply
  same_reply = rw (same.known, same.taken, sized)

  -- an answer that conforms for the one conforms for the other
  pub same_answer : {after : List ℕ} {done : Result ℕ Refusal} {t : State} → Encodes a s e width xs before after done t → Encodes b s e width ys before after done t
  unfolding encode_octets encode_state encode_out
  same_answer p =
      record {
        number = p.number ∙ same_reply;
        octets_are = p.octets_are ∙ rw (same_reply, sized);
        state = p.state ∙ rw (same_reply, same.levels);
        out = p.out ∙ rw (same_reply, same.levels, sized);
      }

-- the linear sample of an octet: EXPAND's word of 14 bits, read as signed
abbrev pub expanded : ℕ → ℕ → ℤ
expanded LAW S = signed 14 (EXPAND S LAW)

module _ (LAW : ℕ) where
  expanded_levels : (octets : List ℕ) → levels_of linear (map (expanded LAW) octets) ≡ levels_of (pcm LAW) octets
  expanded_levels [] = refl
  expanded_levels (S ∷ octets) = rw (word_again (EXPAND S LAW) (expand_lt S LAW), expanded_levels octets)

  expanded_taken : (octets : List ℕ) → are_taken linear (map (expanded LAW) octets) ≡ true
  expanded_taken [] = refl
  expanded_taken (S ∷ octets) = rw (word_level (EXPAND S LAW) (expand_lt S LAW)) (expanded_taken octets)

  module _ (known : is_law LAW ≡ true) (octets : List ℕ) where
    expanded_same : SameSpeech linear (pcm LAW) (map (expanded LAW) octets) octets
    expanded_same = record { known = sym known; taken = expanded_taken octets ∙ sym (pcm_taken LAW octets); levels = expanded_levels octets }

    -- the linear call of the expanded octets answers as the G.711 call of the octets
    pub expanded_answer : (s : State) (e width : ℕ) (before after : List ℕ) (done : Result ℕ Refusal) (t : State) → Encodes linear s e width (map (expanded LAW) octets) before after done t
        → Encodes (pcm LAW) s e width octets before after done t
    expanded_answer s e width before after done t p = same_answer s e width before expanded_same p

    -- of its codewords too, one by one
    pub expanded_codewords : (s : State) (width : ℕ)
        → encoded_codewords s.core width s.memory (levels_of linear (map (expanded LAW) octets)) ≡ encoded_codewords s.core width s.memory (levels_of (pcm LAW) octets)
    expanded_codewords s width = rw (expanded_levels octets)
