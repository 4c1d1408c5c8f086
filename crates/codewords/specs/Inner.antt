-- What the inner functions of the decoders ask and promise, and what a 0 says. A reader of the public contract does not need it.
use Rattle.std.specs.Prelude.{List, ◌++◌, true, ◌≡◌, ℕ, ◌≤◌, drop}
use Rattle.std.specs.declared.result.Result.{Result}
use Rattle.lists.specs.Run.{outs, total}
use Rattle.state.specs.declared.memory.Memory.{Memory}
use Rattle.state.specs.declared.State.{State}
use Rattle.state.specs.InRange.{InRange}
use Rattle.sample.specs.Decode.{decoder_next}
use Rattle.frame.specs.declared.header.Header.{Header}
use Rattle.frame.specs.Header.{sample_count, is_due}
use Rattle.frame.specs.Sound.{Sound}
use Rattle.replies.specs.declared.Refusal.{Refusal}
use Rattle.replies.specs.Reply.{number_of, reported}
use Rattle.codewords.specs.declared.Decoded.{Decoded}
use Rattle.codewords.specs.Codewords.{decoded_memory, decoded_state}
use Rattle.codewords.specs.Decode.{heard_samples, counted_disagreements}

-- what a 0 says of a frame of n octets with the header h, beside the end
pub record Decodable (s : State) (h : Header) (n room : ℕ) : Type 0 where
  pub range : InRange s
  pub sound : Sound h n
  pub core : h.core ≡ s.core
  pub due : is_due h s.number ≡ true
  pub space : sample_count h ≤ room

-- a run over codewords, what it puts out, what it counts, and its memory
pub record HearsAll {A : Type 0} (heard : Memory → ℕ → A) (counted : Memory → ℕ → ℕ) (core width : ℕ) (m : Memory) (codewords : List ℕ)
    (after : List A) (disagreements : ℕ) (r : Memory) : Type 0 where
  pub memory : r ≡ decoded_memory core width m codewords
  pub disagreements_are : disagreements ≡ total (decoder_next core width) counted m codewords
  pub out : after ≡ outs (decoder_next core width) heard m codewords

-- a frame with the header h decoded, its samples in front of what was in the buffer
pub record DecodesFrame {A : Type 0} (heard : ℕ → ℕ → Memory → ℕ → A) (counted : ℕ → ℕ → Memory → ℕ → ℕ) (s : State) (h : Header) (codewords : List ℕ)
    (before after : List A) (done : Result Decoded Refusal) (next : State) : Type 0 where
  pub number : number_of done ≡ 0
  pub count_is : reported (λ d. d.samples) done ≡ sample_count h
  pub disagreements_are : reported (λ d. d.disagreements) done ≡ counted_disagreements s.core h.width s.memory codewords counted
  pub state : next ≡ decoded_state s h codewords
  pub out : after ≡ heard_samples s.core h.width s.memory codewords heard ++ drop (sample_count h) before
