-- The test of a range and the fact: each follows from the other.
use Rattle.std.proofs.Common.{◌≡◌, ℕ, true, leb, le-leb, leb-true}
use Rattle.words.specs.Within.{Within, within}
use Rattle.words.proofs.Rows.{both}

pub within_says : (least greatest n : ℕ) → within least greatest n ≡ true → Within least greatest n
within_says least greatest n t =
    let r = both (leb least n) (leb n greatest) t in
    record { low = leb-true least n r.0; high = leb-true n greatest r.1 }

pub within_of : {least greatest n : ℕ} → Within least greatest n → within least greatest n ≡ true
within_of w = rw (le-leb _ _ w.low, le-leb _ _ w.high)
