-- Every difference that a codeword allows is allowed by its thinned form, at one scale factor, over the widths.
use mathlib.Core.Path.{ap, ◌∙◌}
use Prim.Native.Nat.{ℕ, ◌-◌, ◌≤◌}
use Rattle.words.specs.Notation.{◌>>◌}
use Rattle.quantizer.specs.Codeword.{Width}
use Rattle.quantizer.specs.Allows.{Allows}
use Rattle.quantizer.proofs.Coding.{codeword_thinned}

pub allowed_thinned : {v w : ℕ} (Y I D : ℕ) → Width v → Width w → v ≤ w → Allows w Y I D → Allows v Y (I >> (w - v)) D
allowed_thinned {v} {w} Y I D hv hw h a =
    record { word = a.word; coded = codeword_thinned Y a.word hv hw h ∙ ap (λ (J : ℕ). J >> (w - v)) a.coded }
