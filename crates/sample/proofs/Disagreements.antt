-- What a disagreement of the byte that COMPRESS gave with the received codeword means for the byte. A byte that SYNC moves disagrees. One that disagrees
-- and stays is held at an end of its law's scale: 80 or 00 in mu-law, AA or 2A in A-law.
use mathlib.Core.Logic.{◌⊎◌, inl, inr}
use mathlib.Core.Path.{◌≡◌, refl}
use mathlib.Core.Bool.{Bool, true, false}
use Prim.Native.Nat.{ℕ, ◌≤◌, ◌<◌}
use native.Mathlib.Omega.{arith}
use lib.Dec.{eqb, ltb}
use borrow.Author.Tests.{ne_eqb}
use Rattle.words.specs.Notation.{pick}
use Rattle.words.proofs.Pick.{cases, pick_le}
use Rattle.g711.specs.Compress.{COMPRESS}
use Rattle.g711.proofs.Extent.{highest, lowest, compress_lt}
use Rattle.g711.proofs.Order.{above_held_only, below_held_only}
use Rattle.logarithm.specs.Logarithm.{LOG, SUBTB}
use Rattle.quantizer.specs.Sync.{IM, ID}
use Rattle.state.specs.declared.memory.Memory.{Memory}
use Rattle.sample.specs.Decode.{decode_of}
use Rattle.sample.specs.Pcm.{move_of, SYNC, DX, SD, disagreement, play_of, byte_of, disagreement_of}
use Rattle.sample.proofs.Adjusting.{stays}

abbrev pub AtEnd : ℕ → ℕ → Type 0
AtEnd LAW SP = (SP ≡ highest LAW) ⊎ (SP ≡ lowest LAW)

-- two places, and no move
held : (ID IM SP LAW : ℕ) → SP < 256 → move_of ID IM SP LAW ≡ SP → eqb ID IM ≡ false → AtEnd LAW SP
unfolding move_of
held ID IM SP LAW octet same apart =
    cases (ltb ID IM)
    (λ less. inl (above_held_only SP LAW octet (rw less at same)))
    (λ more. inr (below_held_only SP LAW octet (rw (more, apart) at same)))

apart_of : (t : Bool) → pick {A = ℕ} t 0 1 ≡ 1 → t ≡ false
apart_of true one = absurd (omega (arith, one))
apart_of false one = refl

module _ (LAW width Y SE I SP : ℕ) where
  -- a brace of 0 and 1
  bit : disagreement LAW width Y SE I SP ≤ 1
  unfolding disagreement
  bit = pick_le (eqb (ID width (SUBTB (LOG (DX LAW SE SP)).dl Y) (LOG (DX LAW SE SP)).ds) (IM width I)) (omega arith) (omega arith)

  byte_moved : (SD LAW width Y SE I SP ≡ SP → ⊥) → disagreement LAW width Y SE I SP ≡ 1
  unfolding SD SYNC disagreement
  byte_moved moved = rw (ne_eqb _ _ (λ same. moved (stays SP LAW same)))

  byte_held : SP < 256 → disagreement LAW width Y SE I SP ≡ 1 → SD LAW width Y SE I SP ≡ SP → AtEnd LAW SP
  unfolding SD SYNC disagreement
  byte_held octet one same = held _ _ SP LAW octet same (apart_of _ one)

-- of a codeword played
module _ (LAW core width : ℕ) (m : Memory) (I : ℕ) where
  abbrev compressed : ℕ
  compressed = COMPRESS (decode_of core width m I).sr LAW

  pub disagreement_bit : disagreement_of LAW core width m I ≤ 1
  unfolding play_of
  disagreement_bit = bit _ _ _ _ _ _

  pub moved_disagrees : (byte_of LAW core width m I ≡ compressed → ⊥) → disagreement_of LAW core width m I ≡ 1
  unfolding play_of
  moved_disagrees = byte_moved _ _ _ _ _ _

  pub held_at_end : disagreement_of LAW core width m I ≡ 1 → byte_of LAW core width m I ≡ compressed → AtEnd LAW compressed
  unfolding play_of
  held_at_end = byte_held _ _ _ _ _ _ (compress_lt _ LAW)
