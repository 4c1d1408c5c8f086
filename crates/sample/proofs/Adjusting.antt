-- A byte moves by the places of the codeword that it requantizes to and of the received one, and disagrees exactly where they are two codewords: as the
-- code compares them.
use mathlib.Core.Path.{◌≡◌, sym, ap}
use Prim.Native.Nat.{ℕ, ◌≤◌, ◌<◌}
use native.Mathlib.Omega.{arith}
use lib.Dec.{eqb}
use borrow.Author.Tests.{le-ltb, eq-eqb}
use Rattle.words.specs.Notation.{pick}
use Rattle.g711.specs.Expand.{EXPAND}
use Rattle.logarithm.proofs.Range.{subta_word}
use Rattle.quantizer.specs.Codeword.{Width, Codeword}
use Rattle.quantizer.specs.Sync.{IM}
use Rattle.quantizer.proofs.Coding.{codeword_range, codeword_place}
use Rattle.quantizer.proofs.Halves.{places_apart}
use Rattle.sample.specs.Pcm.{move_of, SYNC, DX, requantized, SD, disagreement}

-- where the places are one, the byte stays
pub stays : {ID IM : ℕ} (SP LAW : ℕ) → ID ≡ IM → move_of ID IM SP LAW ≡ SP
unfolding move_of
stays {ID} {IM} SP LAW e =
    let not-less : IM ≤ ID = omega arith in
    rw (le-ltb ID IM not-less, eq-eqb ID IM e)

module _ (LAW width Y SE SP : ℕ) (w : Width width) where
  dx_word : DX LAW SE SP < 65536
  unfolding DX
  dx_word = subta_word (EXPAND SP LAW) SE

  pub requantized_codeword : Codeword width (requantized LAW width Y SE SP)
  unfolding requantized
  requantized_codeword = codeword_range Y dx_word w

  pub moved_by_places : (I : ℕ) → move_of (IM width (requantized LAW width Y SE SP)) (IM width I) SP LAW ≡ SD LAW width Y SE I SP
  unfolding requantized SD SYNC
  moved_by_places I = ap (λ (place : ℕ). move_of place (IM width I) SP LAW) (sym (codeword_place Y dx_word w))

  pub disagreement_is : {I : ℕ} → Codeword width I → pick (eqb (requantized LAW width Y SE SP) I) 0 1 ≡ disagreement LAW width Y SE I SP
  unfolding requantized disagreement
  disagreement_is {I} i = rw (codeword_place Y dx_word w, places_apart requantized_codeword i)
