-- At each end of either scale a byte can disagree with the received codeword and stay. One claim over one list: at the greatest scale factor and an
-- estimate of 0 the outermost codewords of width 5 stand for differences beyond the scale. COMPRESS holds the signal at the scale's end, and what
-- is there requantizes to another codeword.
use mathlib.Core.List.{List, [], ◌∷◌, map}
use mathlib.Core.Path.{◌≡◌, refl}
use Prim.Native.Nat.{ℕ}
use native.Mathlib.Omega.{arith}
use Rattle.words.specs.Length.{rows, bit_length}
use Rattle.g711.specs.G711.{outputs_mu, outputs_A, decisions_mu, decisions_A}
use Rattle.g711.specs.Expand.{SS_mu, SS_A, EXPAND}
use Rattle.g711.specs.Compress.{reached, level_of, COMPRESS}
use Rattle.g711.specs.Neighbour.{above, above_mu, above_T, below, below_mu, below_T}
use Rattle.logarithm.specs.Difference.{SUBTA}
use Rattle.logarithm.specs.Logarithm.{LOG, ANTILOG}
use Rattle.scale.specs.Scale.{MIX}
use Rattle.speed.specs.Speed.{LIMA}
use Rattle.predictor.specs.Sums.{ACCUM, DQI, SEI, ADDB}
use Rattle.predictor.specs.Float.{EXP, MANT, WAnMAG, FMULT}
use Rattle.quantizer.specs.Table.{find, output}
use Rattle.quantizer.specs.Output.{table15, outputs, RECONST}
use Rattle.quantizer.specs.Adaptive.{difference}
use Rattle.quantizer.specs.Sync.{IM, table20, places, ID}
use Rattle.state.specs.declared.memory.Memory.{Memory}
use Rattle.state.specs.InRange.{MemoryInRange}
use Rattle.state.specs.Reset.{reset_memory}
use Rattle.state.proofs.Ranges.{reset_memory_in_range}
use Rattle.engine.specs.Estimate.{Y, WA1, WA2, WB, predicted, SE}
use Rattle.sample.specs.Decode.{SR_FF, decode_of}
use Rattle.sample.specs.Pcm.{move_of, SYNC, DX, SD, disagreement, play_of, byte_of, disagreement_of}
use Rattle.sample.proofs.FirstBytes.{Row, mu, a}

-- the reset memory, but for the greatest YL. AP is 0, so Y goes by YL alone
abbrev pub loud : Memory
loud =
    let r = reset_memory in
    record { yu = r.yu; yl = 327680; dms = r.dms; dml = r.dml; ap = r.ap; a1 = r.a1; a2 = r.a2; b = r.b; dq = r.dq; sr1 = r.sr1; sr2 = r.sr2; pk1 = r.pk1; pk2 = r.pk2; td = r.td }

pub loud_in_range : MemoryInRange loud
loud_in_range =
    let r = reset_memory_in_range in
    record { fast = r.fast; slow = omega arith; short = r.short; long = r.long; speed = r.speed; differences = r.differences; signal1 = r.signal1; signal2 = r.signal2; sign1 = r.sign1; sign2 = r.sign2; tone = r.tone }

-- here the byte is due for the codeword, before SYNC and behind it
abbrev pub four : List Row
four = mu 0x80 0b01111 ∷ mu 0x00 0b10000 ∷ a 0xAA 0b01111 ∷ a 0x2A 0b10000 ∷ []

-- what COMPRESS gives, what is put out, and what is counted
abbrev pub played : ℕ → Row → ℕ × ℕ × ℕ
played core r = (COMPRESS (decode_of core 5 loud r.codeword).sr r.law, byte_of r.law core 5 loud r.codeword, disagreement_of r.law core 5 loud r.codeword)

pub held_ends : (core : ℕ) → map (played core) four ≡ map (λ (r : Row). (r.byte, r.byte, 1)) four
unfolding rows bit_length outputs_mu outputs_A decisions_mu decisions_A SS_mu SS_A EXPAND reached level_of COMPRESS above above_mu above_T below below_mu below_T SUBTA LOG ANTILOG MIX LIMA ACCUM DQI SEI ADDB EXP MANT WAnMAG FMULT find output table15 outputs RECONST difference IM table20 places ID reset_memory Y WA1 WA2 WB predicted SE SR_FF decode_of move_of SYNC DX SD disagreement play_of
held_ends core = refl
