-- SP+ and SP- (G.727, section 6.2.10, SYNC) as the code finds them.
use mathlib.Core.Path.{◌≡◌}
use Prim.Native.Nat.{ℕ, ◌+◌, ◌-◌, ◌<◌}
use lib.Dec.{eqb, leb, eqb-suc-zero}
use Rattle.words.specs.Notation.{pick, ◌**◌}
use Rattle.g711.specs.Neighbour.{above, above_mu, above_T, below, below_mu, below_T}
use Rattle.g711.proofs.Computed.{agree}

-- from the sign and number of a level those of the next one up: `first` stands above the negative level 0
abbrev next_of : ℕ → ℕ → ℕ
next_of t first = pick (eqb t 255) 255 (pick (leb 128 t) (t + 1) (pick (eqb t 0) first (t - 1)))

abbrev stepped : ℕ → ℕ → ℕ
stepped S LAW = pick (eqb LAW 0) (next_of (S ** 127) 129 ** 127) (next_of (S ** 85) 128 ** 85)

pub above_is : (S LAW : ℕ) → S < 256 → above S LAW ≡ stepped S LAW
unfolding above above_mu above_T
above_is = agree above stepped (λ i l. simp eqb-suc-zero) 256 tt tt

-- a level down is a level up on the other side of zero
pub below_is : (S LAW : ℕ) → S < 256 → below S LAW ≡ above (S ** 128) LAW ** 128
unfolding above above_mu above_T below below_mu below_T
below_is = agree below (λ i l. above (i ** 128) l ** 128) (λ i l. simp eqb-suc-zero) 256 tt tt
