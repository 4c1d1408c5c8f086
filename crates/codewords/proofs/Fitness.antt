-- What a 0 of the decoders says of its inputs, and that fit inputs get no other number.
use mathlib.Core.Bool.{Bool, true}
use mathlib.Core.Path.{◌≡◌, sym, ◌∙◌}
use Prim.Native.Nat.{ℕ}
use borrow.Author.Tests.{ltb-false, le-ltb, eqb-true, eq-eqb, not-false}
use Rattle.words.specs.First.{first}
use Rattle.words.proofs.First.{NoneApplies, first_says, first_of, none_apart, none_joined, first_front, first_behind}
use Rattle.state.specs.declared.State.{State}
use Rattle.state.specs.Range.{in_range}
use Rattle.state.proofs.Ranges.{range_says, range_of}
use Rattle.frame.specs.declared.header.Header.{Header}
use Rattle.frame.specs.Header.{sample_count}
use Rattle.frame.specs.Rows.{frame_rows}
use Rattle.frame.proofs.Sounds.{sound_says, sound_none}
use Rattle.replies.specs.declared.Refusal.{Refusal}
use Rattle.replies.specs.Reply.{refusal_number}
use Rattle.replies.proofs.Answers.{refuses}
use Rattle.codewords.specs.Decode.{decode_rows, decode_number}
use Rattle.codewords.specs.Inner.{Decodable}

module _ (known : Bool) (s : State) (h : Header) (n room : ℕ) where
  pub decode_says : decode_number known s h n room ≡ 0 → (known ≡ true) × Decodable s h n room
  unfolding decode_number
  decode_says e =
      let none = first_says _ tt e in
      let apart = none_apart (frame_rows h n) (decode_rows s h room) none.1.1 in (
        not-false _ none.1.0,
        record {
          range = range_says s (not-false _ none.0);
          sound = sound_says h n apart.0;
          core = eqb-true h.core s.core (not-false _ apart.1.0);
          due = not-false _ apart.1.1.0;
          space = ltb-false room (sample_count h) apart.1.1.1.0;
        },
      )

  pub decode_fits : 0 ≡ decode_number known s h n room → (known ≡ true) × Decodable s h n room
  decode_fits done = decode_says (sym done)

  pub decode_number_of : known ≡ true → Decodable s h n room → decode_number known s h n room ≡ 0
  unfolding decode_number
  decode_number_of is k =
      first_of _ (
        rw (range_of s k.range),
        (rw is, none_joined (frame_rows h n) (decode_rows s h room) (sound_none h n k.sound) (rw (eq-eqb _ _ k.core), (rw k.due, (le-ltb _ _ k.space, tt)))),
      )

  -- past the first two rows it is the frame's number, and past the frame's own rows that of the rows behind them
  module _ (range : in_range s ≡ true) (is : known ≡ true) where
    pub decode_front : (first (frame_rows h n) ≡ 0 → ⊥) → decode_number known s h n room ≡ first (frame_rows h n)
    unfolding decode_number first
    decode_front wrong = rw (range, is) (first_front (frame_rows h n) (decode_rows s h room) wrong)

    pub decode_behind : NoneApplies (frame_rows h n) → decode_number known s h n room ≡ first (decode_rows s h room)
    unfolding decode_number first
    decode_behind none = rw (range, is) (first_behind (frame_rows h n) (decode_rows s h room) none)

    -- so a refusal of the frame's is the call's, and where there is none the number of what is behind it is
    pub frame_refused : (r : Refusal) → refusal_number r ≡ first (frame_rows h n) → refusal_number r ≡ decode_number known s h n room
    frame_refused r e = e ∙ sym (decode_front (λ z. refuses r (e ∙ z)))

    pub frame_passed : {number : ℕ} → 0 ≡ first (frame_rows h n) → number ≡ first (decode_rows s h room) → number ≡ decode_number known s h n room
    frame_passed passed e = e ∙ sym (decode_behind (first_says _ tt (sym passed)))
