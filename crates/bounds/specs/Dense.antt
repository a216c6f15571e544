-- The dense scale: 2c + 1 is `at most c`, 2c is `below c`.
use Rattle.std.specs.Prelude.{ℕ, ◌-◌, ◌/◌, ◌%◌, min, ℤ, pos, negsuc, ◌+ℤ◌, ◌-ℤ◌, ◌*ℤ◌, unsigned_abs}

-- the constant of a code
abbrev pub half : ℤ → ℤ
half (pos n) = pos (n / 2)
half (negsuc n) = negsuc (n / 2)

-- 1 for at most, 0 for below
abbrev pub bit : ℤ → ℕ
bit (pos n) = n % 2
bit (negsuc n) = 1 - n % 2

abbrev pub twice : ℤ → ℤ
twice c = c +ℤ c

-- every grid counts
abbrev pub dense_counts : ℕ → Type 0
dense_counts N = Unit {0}

-- the size of the constant
abbrev pub dense_weight : ℤ → ℕ
dense_weight x = unsigned_abs (half x)

-- c × N, or c × N − 1
abbrev pub dense_greatest : ℤ → ℕ → ℤ
dense_greatest x N = half x *ℤ pos N -ℤ pos (1 - bit x)

abbrev pub dense_most : ℤ → ℤ
dense_most c = twice c +ℤ pos 1

abbrev pub dense_below : ℤ → ℤ
dense_below c = twice c

-- the constants add, and the sum is `at most` where both are
abbrev pub dense_sum : ℤ → ℤ → ℤ
dense_sum x y = twice (half x +ℤ half y) +ℤ pos (min (bit x) (bit y))

abbrev pub dense_opposite : ℤ → ℤ
dense_opposite x = pos 1 -ℤ x
