-- The codewords that are read from x planes of g octets: eight for each group, each of x bits.
use mathlib.Core.Path.{◌≡◌}
use mathlib.Core.List.{List}
use Prim.Native.Nat.{ℕ, zero, suc, ◌+◌, ◌-◌, ◌*◌, ◌/◌, ◌%◌, ◌^◌, ◌<◌}
use native.Mathlib.Nat.{pow-suc, add-zero, zero-add, add-suc, suc-add}
use native.Mathlib.Omega.{arith}
use lib.ListN.{length, get_or, drop}
use Rattle.lists.proofs.Tables.{length_tabulate, get_or_tabulate}
use Rattle.frame.specs.Header.{group}
use Rattle.frame.specs.Planes.{bit}
use Rattle.frame.specs.Read.{collect, codeword_at, codewords}

bit_small : (b c : ℕ) → bit b c < 2
unfolding bit
bit_small b c = omega arith

collect_short : (x g k : ℕ) (body : List ℕ) (n there : ℕ) → there < 2 ^ n → collect x g k body there < 2 ^ (n + x)
unfolding collect
collect_short zero g k body n there h = rw add-zero h
collect_short (suc x) g k body n there h =
    let b = bit (7 - k % group) (get_or body (k / group) 0) in
    let more : there * 2 + b < 2 ^ suc n = omega (arith, pow-suc 2 n, bit_small (7 - k % group) (get_or body (k / group) 0)) in
    rw (add-suc n x, ← suc-add n x) (collect_short x g k (drop g body) (suc n) (there * 2 + b) more)

pub codeword_short : (x g k : ℕ) (body : List ℕ) → codeword_at x g body k < 2 ^ x
unfolding codeword_at
codeword_short x g k body = rw zero-add at (collect_short x g k body 0 0 (omega arith))

module _ (x g : ℕ) (body : List ℕ) where
  pub read_length : length (codewords x g body) ≡ group * g
  unfolding codewords
  read_length = length_tabulate (group * g) (codeword_at x g body)

  pub read_at : (k : ℕ) → k < group * g → get_or (codewords x g body) k 0 ≡ codeword_at x g body k
  unfolding codewords
  read_at k h = get_or_tabulate (group * g) (codeword_at x g body) k 0 h

  pub read_short : (k : ℕ) → k < group * g → get_or (codewords x g body) k 0 < 2 ^ x
  read_short k h = rw (read_at k h) (codeword_short x g k body)
