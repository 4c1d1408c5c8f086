-- What holds of every answer of an encoder, whichever its end: a refusal and a success put together, what it reports as written fits, and the contract leaves
-- no choice.
use mathlib.Core.List.{List}
use mathlib.Core.Path.{◌≡◌, sym, ap, ◌∙◌}
use Prim.Native.Nat.{ℕ, ◌≤◌}
use lib.ListN.{length}
use Rattle.std.specs.declared.result.Result.{Result}
use Rattle.std.specs.declared.result.Result.TheVariants.{Ok, Err}
use Rattle.state.specs.declared.State.{State}
use Rattle.state.specs.declared.answer.Answer.{Answer}
use Rattle.sample.specs.End.{End, Sample, is_end}
use Rattle.frame.specs.Header.{due_length}
use Rattle.replies.specs.declared.Refusal.{Refusal}
use Rattle.replies.specs.Reply.{refusal_number, reported}
use Rattle.replies.proofs.Answers.{refusal, success, refuses, counted}
use Rattle.replies.proofs.Equal.{reply_equal}
use Rattle.levels.specs.Levels.{due_header, encoded_frame}
use Rattle.levels.specs.Encode.{are_taken, levels_of, encode_number, EncodesLevels, encode_reply, encode_octets, encode_state, encode_out, Encodes}
use Rattle.levels.specs.Inner.{EncodesFrame}
use Rattle.levels.proofs.Fitness.{encode_says}
use Rattle.levels.proofs.Samples.{levels_length}

pub levels_done : (due : ℕ) (s : State) (e width n : ℕ) (levels before : List ℕ) {after : List ℕ} {next : State} → 0 ≡ due → length levels ≡ n
    → EncodesFrame s (due_header s e width n) levels before after next → EncodesLevels due s e width n levels before after (Ok (due_length (due_header s e width n))) next
unfolding encoded_frame
levels_done due s e width n levels before number sized coded =
    let done = sym number in
    record {
      number = number;
      octets_are = success _ _ _ done;
      state = coded.state ∙ success _ _ _ done;
      out = coded.out ∙ rw sized (success _ _ _ done);
    }

module _ (end : End) (s : State) (e width : ℕ) (samples : List (Sample end)) (before : List ℕ) where
  -- what is answered for the samples' levels is answered for the samples
  pub encodes_of : {after : List ℕ} {done : Result ℕ Refusal} {next : State}
      → EncodesLevels (encode_number (is_end end) s e width (length samples) (are_taken end samples) (length before)) s e width (length samples) (levels_of end samples) before after done next
      → Encodes end s e width samples before after done next
  unfolding encode_reply encode_octets encode_state encode_out
  encodes_of p = record { number = p.number; octets_are = p.octets_are; state = p.state; out = p.out }

  pub encodes_refused : (r : Refusal) → refusal_number r ≡ encode_reply end s e width samples before → Encodes end s e width samples before before (Err r) s
  unfolding encode_octets encode_state encode_out
  encodes_refused r number =
      let refused : encode_reply end s e width samples before ≡ 0 → ⊥ = λ zero. refuses r (number ∙ zero) in
      record { number = number; octets_are = refusal _ _ _ refused; state = refusal _ _ _ refused; out = refusal _ _ _ refused }

  pub encodes_done : {after : List ℕ} {next : State} → encode_reply end s e width samples before ≡ 0
      → EncodesFrame s (due_header s e width (length samples)) (levels_of end samples) before after next
      → Encodes end s e width samples before after (Ok (due_length (due_header s e width (length samples)))) next
  unfolding encode_reply
  encodes_done done coded = encodes_of (levels_done _ _ _ _ _ _ _ (sym done) (levels_length end samples) coded)

  -- what is reported as written fits the buffer that was lent
  pub encode_room : encode_octets end s e width samples before ≤ length before
  unfolding encode_octets encode_reply
  encode_room =
      counted _ _ _ (λ done. (encode_says (is_end end) s e width (length samples) (are_taken end samples) (length before) done).2.space)

  -- two conforming answers are equal, and so are the exit buffers
  pub encode_equal : {after after' : List ℕ} {done done' : Result ℕ Refusal} {t t' : State} → Encodes end s e width samples before after done t
      → Encodes end s e width samples before after' done' t' → (done ≡ done') × (t ≡ t') × (after ≡ after')
  encode_equal {done = done} {done' = done'} p q =
      let octets : reported (λ n. n) done ≡ reported (λ n. n) done' = p.octets_are ∙ sym q.octets_are in (
        reply_equal done done' (p.number ∙ sym q.number) (λ x y is is'. sym (ap (reported (λ n. n)) is) ∙ octets ∙ ap (reported (λ n. n)) is'),
        p.state ∙ sym q.state,
        p.out ∙ sym q.out,
      )

  -- the same of an answer as a call hands it out
  abbrev pub Answers : List ℕ → Answer ℕ → Type 0
  Answers after r = Encodes end s e width samples before after r.done r.state

  pub answers_room : (after : List ℕ) (r : Answer ℕ) → Answers after r → reported (λ n. n) r.done ≤ length before
  answers_room after r p = rw p.octets_are encode_room

  pub answers_equal : (after after' : List ℕ) (a b : Answer ℕ) → Answers after a → Answers after' b → (a ≡ b) × (after ≡ after')
  answers_equal after after' a b p q =
      let same = encode_equal p q in
      (λ i. record { state = same.1 i; done = same.0 i }, same.2)
