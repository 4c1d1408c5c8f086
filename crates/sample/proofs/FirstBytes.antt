-- The twelve first bytes (docs/RULES.md): from reset at any core, encoder width 5, the first codeword. One claim over one list.
use mathlib.Core.List.{List, [], ◌∷◌, map}
use mathlib.Core.Path.{◌≡◌, refl}
use Prim.Native.Nat.{ℕ}
use Rattle.words.specs.Length.{rows, bit_length}
use Rattle.g711.specs.G711.{outputs_mu, outputs_A}
use Rattle.g711.specs.Expand.{SS_mu, SS_A, EXPAND}
use Rattle.logarithm.specs.Difference.{SUBTA}
use Rattle.logarithm.specs.Logarithm.{LOG}
use Rattle.scale.specs.Scale.{MIX}
use Rattle.speed.specs.Speed.{LIMA}
use Rattle.predictor.specs.Sums.{ACCUM}
use Rattle.predictor.specs.Float.{EXP, MANT, WAnMAG, FMULT}
use Rattle.quantizer.specs.Table.{find}
use Rattle.quantizer.specs.Decision.{table11, decisions, QUAN}
use Rattle.quantizer.specs.Adaptive.{codeword}
use Rattle.state.specs.Reset.{reset_memory}
use Rattle.engine.specs.Estimate.{Y, WA1, WA2, WB, predicted, SE}
use Rattle.sample.specs.Encode.{D, I, encode_of}

-- a law, a byte and a codeword: here the codeword is due for the byte
pub record Row : Type 0 where
  pub law : ℕ
  pub byte : ℕ
  pub codeword : ℕ

abbrev pub mu : ℕ → ℕ → Row
mu byte codeword = record { law = 0; byte = byte; codeword = codeword }

abbrev pub a : ℕ → ℕ → Row
a byte codeword = record { law = 1; byte = byte; codeword = codeword }

abbrev pub twelve : List Row
twelve =
    mu 0xFF 0b00000 ∷ mu 0x7F 0b00000 ∷ mu 0xFE 0b00001 ∷ mu 0x7E 0b11110 ∷ mu 0xFD 0b00011 ∷ mu 0xFC 0b00101 ∷ mu 0x80 0b01111 ∷ mu 0x00 0b10000 ∷
    a 0xD5 0b00001 ∷ a 0x55 0b11110 ∷ a 0xD4 0b00101 ∷ a 0x2A 0b10000 ∷ []

pub first_bytes : (core : ℕ) → map (λ (r : Row). (encode_of core 5 reset_memory (EXPAND r.byte r.law)).codeword) twelve ≡ map (λ (r : Row). r.codeword) twelve
unfolding D I encode_of codeword rows bit_length outputs_mu outputs_A SS_mu SS_A EXPAND SUBTA LOG MIX LIMA EXP MANT WAnMAG FMULT ACCUM find table11 decisions QUAN reset_memory Y WA1 WA2 WB predicted SE
first_bytes core = refl
