-- What holds of every answer of a decoder, whichever its end: a refusal and a success put together, what it reports as written fits, the contract leaves no choice, and
-- a linear end counts no disagreement.
use mathlib.Core.List.{List, [], ◌∷◌}
use mathlib.Core.Path.{◌≡◌, refl, sym, ap, ◌∙◌}
use Prim.Native.Nat.{ℕ, ◌≤◌}
use native.Mathlib.Nat.{zero-add}
use lib.Dec.{eqb}
use lib.IntN.{ℤ}
use lib.ListN.{length}
use Rattle.std.specs.declared.result.Result.{Result}
use Rattle.std.specs.declared.result.Result.TheVariants.{Err}
use Rattle.words.proofs.Pick.{by_pick}
use Rattle.lists.specs.Run.{total}
use Rattle.state.specs.declared.memory.Memory.{Memory}
use Rattle.state.specs.declared.State.{State}
use Rattle.state.specs.declared.answer.Answer.{Answer}
use Rattle.sample.specs.Decode.{decoder_next}
use Rattle.sample.specs.End.{End, linear, Sample, is_end, heard_of, count_of}
use Rattle.frame.specs.Header.{header_of}
use Rattle.frame.specs.Read.{received}
use Rattle.replies.specs.declared.Refusal.{Refusal}
use Rattle.replies.specs.Reply.{refusal_number, reported}
use Rattle.replies.proofs.Answers.{refusal, success, refuses, counted}
use Rattle.replies.proofs.Equal.{reply_equal}
use Rattle.codewords.specs.declared.Decoded.{Decoded}
use Rattle.codewords.specs.Decode.{decode_number, DecodesCodewords, decode_reply, decode_count, decoded_samples, decoded_disagreements, decode_disagreements, decode_state, decode_out, Decodes}
use Rattle.codewords.specs.Inner.{DecodesFrame}
use Rattle.codewords.proofs.Fitness.{decode_says}

-- a frame that is not refused
pub codewords_done : {A : Type 0} (due : ℕ) (s : State) (frame : List ℕ) (before : List A) (heard : ℕ → ℕ → Memory → ℕ → A) (count : ℕ → ℕ → Memory → ℕ → ℕ) {after : List A} {done : Result Decoded Refusal} {next : State}
    → due ≡ 0 → DecodesFrame heard count s (header_of frame) (received frame) before after done next → DecodesCodewords due s frame before heard count after done next
codewords_done due s frame before heard count zero d =
    record {
      number = d.number ∙ sym zero;
      count_is = d.count_is ∙ success _ _ _ zero;
      disagreements_are = d.disagreements_are ∙ success _ _ _ zero;
      state = d.state ∙ success _ _ _ zero;
      out = d.out ∙ success _ _ _ zero;
    }

module _ (end : End) (s : State) (frame : List ℕ) (before : List (Sample end)) where
  -- what is answered for what the end puts out and counts is answered for the end
  pub decodes_of : {after : List (Sample end)} {done : Result Decoded Refusal} {next : State}
      → DecodesCodewords (decode_number (is_end end) s (header_of frame) (length frame) (length before)) s frame before (heard_of end) (count_of end) after done next
      → Decodes end s frame before after done next
  unfolding decode_reply decode_count decode_disagreements decode_state decode_out decoded_samples decoded_disagreements
  decodes_of p = record { number = p.number; count_is = p.count_is; disagreements_are = p.disagreements_are; state = p.state; out = p.out }

  pub decodes_refused : (r : Refusal) → refusal_number r ≡ decode_reply end s frame before → Decodes end s frame before before (Err r) s
  unfolding decode_count decode_disagreements decode_state decode_out
  decodes_refused r number =
      let refused : decode_reply end s frame before ≡ 0 → ⊥ = λ zero. refuses r (number ∙ zero) in
      record {
        number = number;
        count_is = refusal _ _ _ refused;
        disagreements_are = refusal _ _ _ refused;
        state = refusal _ _ _ refused;
        out = refusal _ _ _ refused;
      }

  pub decodes_done : {after : List (Sample end)} {done : Result Decoded Refusal} {next : State} → decode_reply end s frame before ≡ 0
      → DecodesFrame (heard_of end) (count_of end) s (header_of frame) (received frame) before after done next → Decodes end s frame before after done next
  unfolding decode_reply
  decodes_done zero d = decodes_of (codewords_done _ _ _ _ _ _ zero d)

  -- what is reported as written fits the buffer that was lent
  pub decode_room : decode_count end s frame before ≤ length before
  unfolding decode_count decode_reply
  decode_room = counted _ _ _ (λ e. (decode_says (is_end end) s (header_of frame) (length frame) (length before) e).1.space)

  -- two conforming answers are equal, and so are the exit buffers
  pub decode_equal : {after after' : List (Sample end)} {done done' : Result Decoded Refusal} {t t' : State}
      → Decodes end s frame before after done t → Decodes end s frame before after' done' t'
      → (done ≡ done') × (t ≡ t') × (after ≡ after')
  decode_equal {done = done} {done' = done'} p q =
      let samples : reported (λ (d : Decoded). d.samples) done ≡ reported (λ (d : Decoded). d.samples) done' = p.count_is ∙ sym q.count_is in
      let disagreements : reported (λ (d : Decoded). d.disagreements) done ≡ reported (λ (d : Decoded). d.disagreements) done' = p.disagreements_are ∙ sym q.disagreements_are in (
        reply_equal done done' (p.number ∙ sym q.number)
            (λ x y is is'. let many = sym (ap (reported (λ (d : Decoded). d.samples)) is) ∙ samples ∙ ap (reported (λ (d : Decoded). d.samples)) is' in
            let few = sym (ap (reported (λ (d : Decoded). d.disagreements)) is) ∙ disagreements ∙ ap (reported (λ (d : Decoded). d.disagreements)) is' in
            λ i. record { samples = many i; disagreements = few i }),
        p.state ∙ sym q.state,
        p.out ∙ sym q.out,
      )

  -- the same of an answer as a call hands it out
  abbrev pub Answers : List (Sample end) → Answer Decoded → Type 0
  Answers after r = Decodes end s frame before after r.done r.state

  pub answers_room : (after : List (Sample end)) (r : Answer Decoded) → Answers after r → reported (λ d. d.samples) r.done ≤ length before
  answers_room after r p = rw p.count_is decode_room

  pub answers_equal : (after after' : List (Sample end)) (a b : Answer Decoded) → Answers after a → Answers after' b → (a ≡ b) × (after ≡ after')
  answers_equal after after' a b p q =
      let same = decode_equal p q in
      (λ i. record { state = same.1 i; done = same.0 i }, same.2)

-- nothing disagrees at a linear end, whatever comes
none_disagrees : (core width : ℕ) (m : Memory) (codewords : List ℕ) → decoded_disagreements linear core width m codewords ≡ 0
unfolding decoded_disagreements total
none_disagrees core width m [] = refl
none_disagrees core width m (I ∷ codewords) = rw zero-add (none_disagrees core width (decoder_next core width m I) codewords)

pub linear_agrees : (s : State) (frame : List ℕ) (before : List ℤ) → decode_disagreements linear s frame before ≡ 0
unfolding decode_disagreements
linear_agrees s frame before =
    let h = header_of frame in
    by_pick (λ (n : ℕ). n ≡ 0) (eqb (decode_reply linear s frame before) 0) (decoded_disagreements linear s.core h.width s.memory (received frame)) 0
    (λ t. none_disagrees s.core h.width s.memory (received frame))
    (λ t. refl)
