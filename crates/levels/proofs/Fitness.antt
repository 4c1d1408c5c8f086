-- What a 0 of the encoders says of their inputs, and that fit inputs get no other number.
use mathlib.Core.Bool.{Bool, true, false}
use mathlib.Core.Path.{◌≡◌, refl, sym, ◌∙◌}
use Prim.Native.Nat.{ℕ, ◌*◌, ◌/◌, ◌≤◌}
use native.Mathlib.Omega.{arith}
use borrow.Author.Tests.{ltb-false, le-ltb, not-false}
use Rattle.words.specs.First.{first}
use Rattle.words.proofs.First.{NoneApplies, first_says, first_front, first_behind}
use Rattle.words.proofs.Within.{within_says, within_of}
use Rattle.quantizer.proofs.Pairs.{pair_says, pair_of}
use Rattle.state.specs.declared.State.{State}
use Rattle.state.proofs.Ranges.{range_says, range_of}
use Rattle.frame.specs.declared.header.Header.{Header}
use Rattle.frame.specs.Header.{plain, numbered, group, most_groups}
use Rattle.frame.proofs.Sizes.{groups_most}
use Rattle.frame.proofs.Sounds.{Counted, count_says, count_of}
use Rattle.replies.specs.declared.Refusal.{Refusal}
use Rattle.replies.specs.Reply.{refusal_number}
use Rattle.replies.proofs.Answers.{refuses}
use Rattle.levels.specs.Levels.{due_header}
use Rattle.levels.specs.Encode.{asked_rows, lent_rows, encode_number}
use Rattle.levels.specs.Inner.{Encodable}

module _ (known : Bool) (s : State) (e width n : ℕ) where
  -- where no row of what is asked applies the count is a frame's
  pub asked_groups : NoneApplies (asked_rows known s e width n) → n / group ≤ 255
  unfolding most_groups
  asked_groups none = omega (arith, (count_says e n (not-false _ none.1.1.1.1.0)).groups.high)

  module _ (taken : Bool) (room : ℕ) where
    pub encode_says : encode_number known s e width n taken room ≡ 0 → (known ≡ true) × (taken ≡ true) × Encodable s (due_header s e width n) n room
    unfolding encode_number
    encode_says done =
        let rows = first_says _ tt done in
        let count = count_says e n (not-false _ rows.1.1.1.1.0) in
        let whole = count.whole in (
          not-false _ rows.1.0,
          not-false _ rows.1.1.1.1.1.0,
          record {
            range = range_says s (not-false _ rows.0);
            header = record { known = within_says plain numbered e (not-false _ rows.1.1.0); pair = pair_says width s.core (not-false _ rows.1.1.1.0); count = count.groups };
            core = refl;
            whole = omega arith;
            space = ltb-false _ _ rows.1.1.1.1.1.1.0;
          },
        )

    pub encode_fits : 0 ≡ encode_number known s e width n taken room → (known ≡ true) × (taken ≡ true) × Encodable s (due_header s e width n) n room
    encode_fits done = encode_says (sym done)

    pub encode_number_of : known ≡ true → taken ≡ true → Encodable s (due_header s e width n) n room → encode_number known s e width n taken room ≡ 0
    unfolding encode_number first
    encode_number_of Known-is taken_is k =
        let whole = k.whole in
        let counted : Counted e n = record { whole = omega arith; groups = k.header.count } in
        rw (range_of s k.range, Known-is, within_of k.header.known, pair_of k.header.pair, count_of counted, taken_is, le-ltb _ _ k.space)

    -- it is the number of what is asked, or behind it that of what is lent
    pub encode_front : (first (asked_rows known s e width n) ≡ 0 → ⊥) → encode_number known s e width n taken room ≡ first (asked_rows known s e width n)
    unfolding encode_number
    encode_front wrong = first_front (asked_rows known s e width n) (lent_rows taken (due_header s e width n) room) wrong

    pub encode_behind : NoneApplies (asked_rows known s e width n) → encode_number known s e width n taken room ≡ first (lent_rows taken (due_header s e width n) room)
    unfolding encode_number
    encode_behind none = first_behind (asked_rows known s e width n) (lent_rows taken (due_header s e width n) room) none

    -- so a refusal of what is asked is the call's, and where there is none the number of what is lent is
    pub asked_refused : (r : Refusal) → refusal_number r ≡ first (asked_rows known s e width n) → refusal_number r ≡ encode_number known s e width n taken room
    asked_refused r is = is ∙ sym (encode_front (λ e. refuses r (is ∙ e)))

    pub asked_done : {number : ℕ} → 0 ≡ first (asked_rows known s e width n) → number ≡ first (lent_rows taken (due_header s e width n) room)
        → number ≡ encode_number known s e width n taken room
    asked_done asked lent = lent ∙ sym (encode_behind (first_says _ tt (sym asked)))

    -- what is asked being sound, one sample that cannot be taken refuses the call with 11, whatever room there is
    pub sample_refused : NoneApplies (asked_rows known s e width n) → taken ≡ false → encode_number known s e width n taken room ≡ 11
    unfolding first
    sample_refused none outside = encode_behind none ∙ rw outside

-- and they are no more than the longest frame has
pub encodable_few : {s : State} {h : Header} {n room : ℕ} → Encodable s h n room → n ≤ most_groups numbered * group
encodable_few {s} {h} {n} k =
    omega (arith, k.header.count.high, groups_most h.edition, k.whole)
