-- The G.711 end of a decoder (Figure 13 of G.727): COMPRESS, and SYNC, which quantizes the byte again, at the received width, as an encoder at the same
-- estimate would. The memory has no part in it: it goes by the signal, Y and SE. The G.711 end of an encoder is EXPAND.
use Rattle.std.specs.Prelude.{ℕ, eqb, ltb}
use Rattle.words.specs.Notation.{◌when◌∣◌}
use Rattle.g711.specs.Expand.{EXPAND}
use Rattle.g711.specs.Compress.{COMPRESS}
use Rattle.g711.specs.Neighbour.{above, below}
use Rattle.logarithm.specs.Difference.{SUBTA}
use Rattle.logarithm.specs.Logarithm.{LOG, SUBTB}
use Rattle.quantizer.specs.Adaptive.{codeword}
use Rattle.quantizer.specs.Sync.{IM, ID}
use Rattle.state.specs.declared.memory.Memory.{Memory}
use Rattle.sample.specs.declared.end.Heard.{Heard}
use Rattle.sample.specs.Decode.{decode_of}

-- SYNC's move, by the places ID and IM: SP+, SP or SP-
unfoldable pub move_of : ℕ → ℕ → ℕ → ℕ → ℕ
move_of ID IM SP LAW = above SP LAW when ltb ID IM ∣ SP when eqb ID IM ∣ below SP LAW

-- "Re-encode output PCM sample in decoder for synchronous tandem coding": SD
unfoldable pub SYNC : ℕ → ℕ → ℕ → ℕ → ℕ → ℕ → ℕ
SYNC width I SP DLNX DSX LAW = move_of (ID width DLNX DSX) (IM width I) SP LAW

-- DX of a byte: EXPAND gives SLX, and SUBTA takes the estimate away
unfoldable pub DX : ℕ → ℕ → ℕ → ℕ
DX LAW SE SP = SUBTA (EXPAND SP LAW) SE

module _ (LAW width Y SE : ℕ) where
  -- the codeword that a byte requantizes to
  unfoldable pub requantized : ℕ → ℕ
  requantized SP = codeword width Y (DX LAW SE SP)

  unfoldable pub SD : ℕ → ℕ → ℕ
  SD I SP = SYNC width I SP (SUBTB (LOG (DX LAW SE SP)).dl Y) (LOG (DX LAW SE SP)).ds LAW

  -- a byte disagrees with the received codeword where SYNC finds ID and IM different, whether or not it can move the byte: 1, else 0
  unfoldable pub disagreement : ℕ → ℕ → ℕ
  disagreement I SP = 0 when eqb (ID width (SUBTB (LOG (DX LAW SE SP)).dl Y) (LOG (DX LAW SE SP)).ds) (IM width I) ∣ 1

module _ (LAW core width : ℕ) where
  -- a codeword played: the final byte, 1 where the one that COMPRESS gave disagrees with the codeword, and the next memory
  unfoldable pub play_of : Memory → ℕ → Heard ℕ
  play_of m I =
      let d = decode_of core width m I in
      let sp = COMPRESS d.sr LAW in
      let sd = SD LAW width d.y d.se I sp in
      record { sample = sd; disagreement = disagreement LAW width d.y d.se I sp; memory = d.memory }

  -- as a step of a run: what is put out, and what is counted
  abbrev pub byte_of : Memory → ℕ → ℕ
  byte_of m I = (play_of m I).sample

  abbrev pub disagreement_of : Memory → ℕ → ℕ
  disagreement_of m I = (play_of m I).disagreement
