-- A thinned frame is, octet for octet, what encode would have written at the narrower width from the same state, with the same state after
-- it; and every difference that a codeword allows at a state is allowed by its thinned form.
use mathlib.Core.List.{List, map}
use mathlib.Core.Path.{◌≡◌, sym, ap, ◌∙◌}
use Prim.Native.Nat.{ℕ, ◌-◌, ◌≤◌}
use native.Mathlib.Omega.{arith}
use lib.ListN.{length}
use Rattle.words.specs.Notation.{◌>>◌}
use Rattle.quantizer.specs.Allows.{Allows}
use Rattle.quantizer.specs.Pair.{Pair}
use Rattle.quantizer.proofs.Allowed.{allowed_thinned}
use Rattle.quantizer.proofs.Pairs.{pair_width}
use Rattle.state.specs.declared.State.{State}
use Rattle.engine.specs.Estimate.{Y}
use Rattle.frame.specs.Planes.{frame_of}
use Rattle.frame.specs.Read.{thinned}
use Rattle.frame.proofs.Headers.{Fields, borne_again}
use Rattle.frame.proofs.Thinning.{frame_thinned}
use Rattle.levels.specs.Levels.{due_header, encoded_frame, encoded_memory, encoded_codewords, encoded_state}
use Rattle.tracking.proofs.Runs.{codewords_thinned, memories_same}

module _ (s : State) (e v w : ℕ) (xs : List ℕ) (pv : Pair v s.core) (pw : Pair w s.core) (narrow : v ≤ w) where
  pub narrower_codewords : encoded_codewords s.core v s.memory xs ≡ map (λ (I : ℕ). I >> (w - v)) (encoded_codewords s.core w s.memory xs)
  unfolding encoded_codewords
  narrower_codewords = codewords_thinned s.core v w pv pw narrow s.memory xs

  pub narrower_frame : thinned v (encoded_frame s e w xs) ≡ encoded_frame s e v xs
  unfolding encoded_frame
  narrower_frame =
      let fields : Fields (due_header s e w (length xs)) = record { width = omega (arith, pw.widths.high); core = omega (arith, pw.cores.high); number = borne_again e s.number } in
      frame_thinned narrow fields (encoded_codewords s.core w s.memory xs) ∙ ap (frame_of (due_header s e v (length xs))) (sym narrower_codewords)

  pub narrower_state : encoded_state s e v xs ≡ encoded_state s e w xs
  unfolding encoded_state encoded_memory
  narrower_state = rw (memories_same s.core v w pv pw narrow s.memory xs)

-- at one state, every difference that a codeword allows is also allowed by its thinned form
pub allowed_at_state : (s : State) (v w : ℕ) → Pair v s.core → Pair w s.core → v ≤ w → (I D : ℕ) → Allows w (Y s.memory) I D → Allows v (Y s.memory) (I >> (w - v)) D
allowed_at_state s v w pv pw narrow I D a = allowed_thinned (Y s.memory) I D (pair_width pv) (pair_width pw) narrow a
