-- A refused decoder hands back the state that it was given.
use mathlib.Core.List.{List}
use mathlib.Core.Path.{◌≡◌, sym, ap, ◌∙◌}
use Prim.Native.Nat.{ℕ}
use Rattle.std.specs.declared.result.Result.{Result}
use Rattle.std.specs.declared.result.Result.TheVariants.{Err}
use Rattle.state.specs.declared.State.{State}
use Rattle.sample.specs.End.{End, Sample}
use Rattle.replies.specs.declared.Refusal.{Refusal}
use Rattle.replies.specs.Reply.{number_of}
use Rattle.replies.proofs.Answers.{refusal, refuses}
use Rattle.codewords.specs.declared.Decoded.{Decoded}
use Rattle.codewords.specs.Decode.{Decodes, decode_state}

module _ (end : End) (s : State) (frame : List ℕ) (before : List (Sample end)) where
  pub kept : {after : List (Sample end)} {done : Result Decoded Refusal} {next : State} (r : Refusal)
      → Decodes end s frame before after done next → done ≡ Err r → next ≡ s
  unfolding decode_state
  kept r d is = d.state ∙ sym (refusal _ _ _ (λ zero. refuses r (ap number_of (sym is) ∙ d.number ∙ zero)))
