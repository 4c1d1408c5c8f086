-- The ends at which speech enters an encoder and leaves a decoder: G.711 octets of a law, or linear samples. What an end makes of a sample is all that the
-- calls know of it: of the codewords and of the memory it knows nothing.
use Rattle.std.specs.Prelude.{Bool, true, ℕ, ℤ}
use Rattle.g711.specs.Expand.{EXPAND}
use Rattle.linear.specs.Linear.{is_level, SL}
use Rattle.state.specs.declared.memory.Memory.{Memory}
use Rattle.replies.specs.Reply.{is_law}
use Rattle.sample.specs.Pcm.{byte_of, disagreement_of}
use Rattle.sample.specs.Signal.{signal_of}

pub data End : Type 0 where
  pcm : (LAW : ℕ) → End
  linear : End

-- what is lent: octets, or signed numbers of 16 bits
abbrev pub Sample : End → Type 0
Sample (pcm LAW) = ℕ
Sample linear = ℤ

-- whether there is such an end, and whether an encoder takes the sample: every octet, and of the numbers those that are levels
abbrev pub is_end : End → Bool
is_end (pcm LAW) = is_law LAW
is_end linear = true

abbrev pub is_taken : (end : End) → Sample end → Bool
is_taken (pcm LAW) S = true
is_taken linear x = is_level x

-- SL, the level that the encoder is given
abbrev pub level_of : (end : End) → Sample end → ℕ
level_of (pcm LAW) S = EXPAND S LAW
level_of linear x = SL x

-- what a decoder puts out for a codeword, and what it counts: the linear end adjusts nothing, so that nothing disagrees
abbrev pub heard_of : (end : End) (core width : ℕ) → Memory → ℕ → Sample end
heard_of (pcm LAW) core width m I = byte_of LAW core width m I
heard_of linear core width m I = signal_of core width m I

abbrev pub count_of : (end : End) (core width : ℕ) → Memory → ℕ → ℕ
count_of (pcm LAW) core width m I = disagreement_of LAW core width m I
count_of linear core width m I = 0
