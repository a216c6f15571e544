-- The constant and the bit of a code.
use Rattle.std.specs.Prelude.{◌≡◌, ℕ, ◌+◌, ◌*◌, ◌<◌, ◌≤◌, min, ◌⊎◌, ℤ, pos, negsuc, ◌+ℤ◌, unsigned_abs, refl}
use Rattle.std.proofs.Common.{inl, inr, ⊎_elim, arith}
use borrow.Author.Differences.{up, down}
use Rattle.std.proofs.lemmas.Int.{ints}
use Rattle.std.proofs.lemmas.Bool.{cases_lt}
use Rattle.bounds.specs.Dense.{half, bit, twice, dense_sum}

pub bit_le : (z : ℤ) → bit z ≤ 1
bit_le (pos n) = omega arith
bit_le (negsuc n) = omega arith

pub bit_cases : (z : ℤ) → (bit z ≡ 1) ⊎ (bit z ≡ 0)
bit_cases z = ⊎_elim (λ (h : bit z < 1). inr (omega arith)) (λ (h : 1 ≤ bit z). inl (omega (arith, bit_le z))) (cases_lt (bit z) 1)

-- a code is twice its constant and the bit
pub code_is : (z : ℤ) → up z + 2 * down (half z) ≡ down z + 2 * up (half z) + bit z
code_is (pos n) = omega arith
code_is (negsuc n) = omega arith

-- a constant and a bit are read back
pub half_of : (c z : ℤ) (b : ℕ) → b ≤ 1 → z ≡ twice c +ℤ pos b → half z ≡ c
half_of c z b h e = let is = code_is z in let small = bit_le z in omega (arith, ints)

pub bit_of : (c z : ℤ) (b : ℕ) → b ≤ 1 → z ≡ twice c +ℤ pos b → bit z ≡ b
bit_of c z b h e = let is = code_is z in let small = bit_le z in omega (arith, ints)

pub half_sum : (x y : ℤ) → half (dense_sum x y) ≡ half x +ℤ half y
half_sum x y = half_of (half x +ℤ half y) (dense_sum x y) (min (bit x) (bit y)) (omega (arith, bit_le x)) refl

pub bit_sum : (x y : ℤ) → bit (dense_sum x y) ≡ min (bit x) (bit y)
bit_sum x y = bit_of (half x +ℤ half y) (dense_sum x y) (min (bit x) (bit y)) (omega (arith, bit_le x)) refl

-- a sum of constants is no larger than the two
pub size_sum : (a b : ℤ) → unsigned_abs (a +ℤ b) ≤ unsigned_abs a + unsigned_abs b
size_sum a b = omega (arith, ints)
