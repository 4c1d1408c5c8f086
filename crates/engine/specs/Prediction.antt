-- The adaptive predictor's coefficients, one sample on (Figure 10 of G.727), and the tone that they show (Figure 12).
use Rattle.std.specs.Prelude.{List, [], ◌∷◌, ℕ}
use Rattle.predictor.specs.Coefficient.{LIMC, LIMD, TRIGB, UPA1, UPA2, UPB, XOR}
use Rattle.predictor.specs.Tone.{TONE}
use Rattle.state.specs.declared.memory.Memory.{Memory}
use Rattle.engine.specs.declared.prediction.Poles.{Poles}
use Rattle.engine.specs.Estimate.{nth}

-- the second order predictor: A2P is limited first, since it limits A1P. The tone detector sees A2P before the trigger
unfoldable pub poles_of : Memory → ℕ → ℕ → ℕ → Poles
poles_of m PK0 SIGPK TR =
    let A2T = UPA2 PK0 m.pk1 m.pk2 m.a1 m.a2 SIGPK in
    let A2P = LIMC A2T in
    let A1T = UPA1 PK0 m.pk1 m.a1 SIGPK in
    let A1P = LIMD A1T A2P in
    let A1R = TRIGB TR A1P in
    let A2R = TRIGB TR A2P in
    let TDP = TONE A2P in
    record { a1r = A1R; a2r = A2R; tdp = TDP }

-- the sixth order predictor, one of its six coefficients: Bn and DQn are delayed, DQ is not
unfoldable pub zero_of : ℕ → ℕ → ℕ → ℕ → ℕ
zero_of TR DQ Bn DQn =
    let Un = XOR 14 DQn DQ in
    let BnP = UPB 14 Un Bn DQ in
    let BnR = TRIGB TR BnP in
    BnR

-- B1R to B6R
unfoldable pub zeros_of : ℕ → ℕ → List ℕ → List ℕ → List ℕ
zeros_of TR DQ b dq =
    zero_of TR DQ (nth b 1) (nth dq 1)
    ∷ zero_of TR DQ (nth b 2) (nth dq 2)
    ∷ zero_of TR DQ (nth b 3) (nth dq 3)
    ∷ zero_of TR DQ (nth b 4) (nth dq 4)
    ∷ zero_of TR DQ (nth b 5) (nth dq 5)
    ∷ zero_of TR DQ (nth b 6) (nth dq 6)
    ∷ []
