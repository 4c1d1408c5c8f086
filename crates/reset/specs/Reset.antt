-- The call `reset(core)`: row 1 only, "for a core not 2 to 4, and it then hands back the reset state of core 2".
use Rattle.std.specs.Prelude.{not, [], ◌∷◌, ◌≡◌, ℕ, eqb}
use Rattle.words.specs.First.{first}
use Rattle.words.specs.Notation.{pick}
use Rattle.words.specs.Within.{within}
use Rattle.state.specs.declared.State.{State}
use Rattle.state.specs.Reset.{reset_of}
use Rattle.state.specs.declared.answer.Answer.{Answer}
use Rattle.replies.specs.Reply.{number_of, reported}

module _ (core : ℕ) where
  unfoldable pub reset_number : ℕ
  reset_number = first ((1, not (within 2 4 core)) ∷ [])

  unfoldable pub reset_state : State
  reset_state = pick (eqb reset_number 0) (reset_of core) (reset_of 2)

  pub record Resets (r : Answer ℕ) : Type 0 where
    pub number : number_of r.done ≡ reset_number
    pub octets : reported (λ octets. octets) r.done ≡ 0
    pub state : r.state ≡ reset_state
