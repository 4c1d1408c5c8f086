-- The notation of G.727, section 6.2, as every definition of this house writes it.
-- A mask of ones, `& 65535`, is written `% 65536`: the same number for every operand.
use Rattle.std.specs.Prelude.{ℕ, ◌*◌, ◌/◌, ◌^◌, Bool, true, false, bit_xor}

infixl 60 ◌<<◌
infixl 60 ◌>>◌
infixl 60 ◌**◌
infixr 20 ◌when◌∣◌
-- a where t holds, else b
abbrev pub pick : {A : Type 0} → Bool → A → A → A
pick true a b = a
pick false a b = b

-- the Recommendation's braces, row by row: `a when t ∣ b when u ∣ c` is the first row whose condition holds. The last row has
-- no condition: it is "otherwise", or the case that the rows before it leave
abbrev pub ◌when◌∣◌ : {A : Type 0} → A → Bool → A → A
a when t ∣ b = pick t a b

-- "n-bit shift left operation (zero fill)"
abbrev pub ◌<<◌ : ℕ → ℕ → ℕ
x << n = x * 2 ^ n

-- "n-bit shift right operation (in the direction of the least significant bit and zero fill)"
abbrev pub ◌>>◌ : ℕ → ℕ → ℕ
x >> n = x / 2 ^ n

-- "Logical exclusive or operation"
abbrev pub ◌**◌ : ℕ → ℕ → ℕ
x ** y = bit_xor x y
