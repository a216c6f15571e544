-- The tick scale: c is `at most c`, and `below c` is `at most c − 1`.
use Rattle.std.specs.Prelude.{◌≡◌, ℕ, ℤ, pos, ◌+ℤ◌, ◌-ℤ◌, ◌*ℤ◌, neg_ℤ, unsigned_abs}

-- grid 1 alone counts
abbrev pub tick_counts : ℕ → Type 0
tick_counts N = N ≡ 1

abbrev pub tick_weight : ℤ → ℕ
tick_weight x = unsigned_abs x

abbrev pub tick_greatest : ℤ → ℕ → ℤ
tick_greatest x N = x *ℤ pos N

abbrev pub tick_most : ℤ → ℤ
tick_most c = c

abbrev pub tick_below : ℤ → ℤ
tick_below c = c -ℤ pos 1

abbrev pub tick_sum : ℤ → ℤ → ℤ
tick_sum x y = x +ℤ y

abbrev pub tick_opposite : ℤ → ℤ
tick_opposite x = neg_ℤ x -ℤ pos 1
