-- A code word that is expanded and compressed again is the same one, but mu-law's negative zero comes back as the positive one.
use mathlib.Core.Path.{◌≡◌}
use mathlib.Core.Bool.{◌&&◌}
use Prim.Native.Nat.{ℕ, suc, ◌+◌, ◌<◌}
use lib.Dec.{eqb, eqb-suc-zero}
use Rattle.words.specs.Notation.{pick, ◌>>◌}
use Rattle.g711.specs.G711.{outputs_mu, outputs_A, decisions_mu, decisions_A}
use Rattle.g711.specs.Expand.{SS_mu, SS_A, EXPAND}
use Rattle.g711.specs.Compress.{reached, level_of, COMPRESS}
use Rattle.g711.proofs.Computed.{equal, agree}

-- SUBTA's sign extension, SLI
abbrev pub extended : ℕ → ℕ
extended SL = pick (eqb (SL >> 13) 0) SL (49152 + SL)

abbrev pub back : ℕ → ℕ → ℕ
back S LAW = COMPRESS (extended (EXPAND S LAW)) LAW

abbrev pub again : ℕ → ℕ → ℕ
again S LAW = pick (eqb LAW 0 && eqb S 0x7F) 0xFF S

compress_one : (SR l : ℕ) → COMPRESS SR (suc l) ≡ COMPRESS SR 1
unfolding COMPRESS
compress_one SR l = simp eqb-suc-zero

expand_one : (S l : ℕ) → EXPAND S (suc l) ≡ EXPAND S 1
unfolding EXPAND
expand_one S l = simp eqb-suc-zero

back_one : (S l : ℕ) → equal back again S (suc l) ≡ equal back again S 1
back_one S l = simp (compress_one, expand_one, eqb-suc-zero)

pub back_again : (S LAW : ℕ) → S < 256 → back S LAW ≡ again S LAW
unfolding COMPRESS level_of reached decisions_mu decisions_A EXPAND SS_mu SS_A outputs_mu outputs_A
back_again = agree back again back_one 256 tt tt
