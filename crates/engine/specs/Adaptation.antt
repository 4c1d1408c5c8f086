-- The scale factor and the speed at which it adapts, one sample on (Figures 8 and 9 of G.727). Y is the one that the codeword was quantized with;
-- WI and FI are what FUNCTW and FUNCTF read off the core codeword.
use Rattle.std.specs.Prelude.{ℕ}
use Rattle.scale.specs.Scale.{FILTD, FILTE, LIMB}
use Rattle.speed.specs.Speed.{FILTA, FILTB, FILTC, SUBTC, TRIGA}
use Rattle.state.specs.declared.memory.Memory.{Memory}
use Rattle.engine.specs.declared.adaptation.Scales.{Scales}
use Rattle.engine.specs.declared.adaptation.Speeds.{Speeds}

-- Figure 8: YUP goes into YLP, and the delayed YL is what it moves
unfoldable pub scales_of : Memory → ℕ → ℕ → Scales
scales_of m WI Y =
    let YUT = FILTD WI Y in
    let YUP = LIMB YUT in
    let YLP = FILTE YUP m.yl in
    record { yup = YUP; ylp = YLP }

-- Figure 9
unfoldable pub speeds_of : Memory → ℕ → ℕ → ℕ → ℕ → Speeds
speeds_of m FI TDP TR Y =
    let DMSP = FILTA FI m.dms in
    let DMLP = FILTB FI m.dml in
    let AX = SUBTC DMSP DMLP TDP Y in
    let APP = FILTC AX m.ap in
    let APR = TRIGA TR APP in
    record { dmsp = DMSP; dmlp = DMLP; apr = APR }
