-- Half ticks: 2c is `at most c`, 2c − 1 is `below c`.
use Rattle.std.specs.Prelude.{◌≡◌, ℕ, ◌+◌, ◌/◌, ◌⊎◌, if◌then◌else◌, ℤ, pos, ◌+ℤ◌, ◌-ℤ◌, neg_ℤ, ◌==◌, unsigned_abs}
use Rattle.bounds.specs.Dense.{half, twice}

-- grids 1 and 2 count
abbrev pub half_counts : ℕ → Type 0
half_counts N = (N ≡ 1) ⊎ (N ≡ 2)

-- half of the code, rounded up
abbrev pub half_weight : ℤ → ℕ
half_weight x = (unsigned_abs x + 1) / 2

-- half of the code, rounded down, at grid 1, and the code at grid 2
abbrev pub half_greatest : ℤ → ℕ → ℤ
half_greatest x N = if N == 1 then half x else x

abbrev pub half_most : ℤ → ℤ
half_most c = twice c

abbrev pub half_below : ℤ → ℤ
half_below c = twice c -ℤ pos 1

abbrev pub half_sum : ℤ → ℤ → ℤ
half_sum x y = x +ℤ y

abbrev pub half_opposite : ℤ → ℤ
half_opposite x = neg_ℤ x -ℤ pos 1
