-- A mask behind a wider one is the narrower mask alone: 16 bits, then 15 of them.
use Rattle.std.proofs.Common.{◌≡◌, ℕ, ◌%◌, arith}

pub mask_narrower : (n : ℕ) → n % 65536 % 32768 ≡ n % 32768
mask_narrower n = omega arith
