-- One sample's step of the memory. It takes the memory, the inverse quantizer's DQ, and WI and FI of the core codeword: nothing else of a codeword
-- can reach it. What the memory holds is delayed; Y, SE and SEZ come from it (Estimate.antt). The figures of G.727 are drawn upon as their inputs
-- are there: 12 (TRANS), 10, 8, 9 and 12 again (the trigger of TD).
use Rattle.std.specs.Prelude.{[], ◌∷◌, ℕ}
use Rattle.predictor.specs.Sums.{ADDB, ADDC}
use Rattle.predictor.specs.Float.{FLOATA, FLOATB}
use Rattle.predictor.specs.Coefficient.{TRIGB}
use Rattle.predictor.specs.Tone.{TRANS}
use Rattle.state.specs.declared.memory.Memory.{Memory}
use Rattle.engine.specs.Estimate.{nth, Y, SE, SEZ}
use Rattle.engine.specs.Adaptation.{scales_of, speeds_of}
use Rattle.engine.specs.Prediction.{poles_of, zeros_of}

unfoldable pub advance_of : Memory → ℕ → ℕ → ℕ → Memory
advance_of m DQ WI FI =
    let TR = TRANS m.td m.yl DQ in
    let SR = ADDB 14 DQ (SE m) in
    let SR0 = FLOATB SR in
    let DQ0 = FLOATA 14 DQ in
    let sign = ADDC 14 DQ (SEZ m) in
    let poles = poles_of m sign.pk0 sign.sigpk TR in
    let zeros = zeros_of TR DQ m.b m.dq in
    let scales = scales_of m WI (Y m) in
    let speeds = speeds_of m FI poles.tdp TR (Y m) in
    let TDR = TRIGB TR poles.tdp in
    -- the DELAY blocks, "executing all of the delay blocks simultaneously": each holds for the next sample what it is given here
    record {
      yu = scales.yup;
      yl = scales.ylp;
      dms = speeds.dmsp;
      dml = speeds.dmlp;
      ap = speeds.apr;
      a1 = poles.a1r;
      a2 = poles.a2r;
      b = zeros;
      dq = DQ0 ∷ nth m.dq 1 ∷ nth m.dq 2 ∷ nth m.dq 3 ∷ nth m.dq 4 ∷ nth m.dq 5 ∷ [];
      sr1 = SR0;
      sr2 = m.sr1;
      pk1 = sign.pk0;
      pk2 = m.pk1;
      td = TDR;
    }
