-- What a scale owes: laws of the codes of limits alone.
--
-- A limit has a whole number as its code, and of two limits the lower has the lower code.
-- `most c` and `below c` are the codes of 'at most c' and 'below c', and `greatest x N` is the greatest whole number of Nths that meets the limit of the code x.
use Rattle.std.specs.Prelude.{◌≡◌, ℕ, ◌+◌, ◌<◌, ◌≤◌, ◌↔◌, List, length, ℤ, pos, negsuc, ◌+ℤ◌, ◌-ℤ◌, ◌*ℤ◌, neg_ℤ, ◌≤ℤ◌, ◌<ℤ◌, unsigned_abs}
use Rattle.bounds.specs.Keeps.{Grid, Made, total, totalℤ, widest}

-- the code of no limit, which is no limit's code
abbrev pub free_code : ℤ
free_code = pos 2147483647

-- the codes from 'below −1,000,000' to 'at most 1,000,000' are read back
abbrev pub lowest : (ℤ → ℤ) → ℤ
lowest below = below (neg_ℤ (pos widest))

abbrev pub highest : (ℤ → ℤ) → ℤ
highest most = most (pos widest)

-- any n limits, whose sum is not below 'at most 0', have greatest numbers at grid N that add to 0 or more
abbrev pub EnoughCodes : (ℤ → ℕ → ℤ) → (ℤ → ℤ) → (ℤ → ℤ → ℤ) → ℕ → ℕ → Type 0
EnoughCodes greatest most sum n N = (xs : List ℤ) → length xs ≡ n → most (pos 0) ≤ℤ total sum (most (pos 0)) xs → pos 0 ≤ℤ totalℤ (λ x. greatest x N) xs

module _ (Counts : ℕ → Type 0) (weight : ℤ → ℕ) (greatest : ℤ → ℕ → ℤ) (most below : ℤ → ℤ) (sum : ℤ → ℤ → ℤ) (opposite : ℤ → ℤ) where
  pub record Scaled : Type 0 where
    -- Grid 1 counts.
    pub first : Counts 1
    -- The greatest numbers of the limits made from c, and their weights.
    pub most_greatest : (c : ℤ) (N : ℕ) → Grid Counts N → greatest (most c) N ≡ c *ℤ pos N
    pub below_greatest : (c : ℤ) (N : ℕ) → Grid Counts N → greatest (below c) N ≡ c *ℤ pos N -ℤ pos 1
    pub most_weight : (c : ℤ) → weight (most c) ≤ unsigned_abs c
    pub below_weight : (c : ℤ) → weight (below c) ≤ unsigned_abs c + 1
    -- Each code is that of a limit made from a constant, no larger than its weight.
    pub made : (x : ℤ) → (c : ℤ) × (unsigned_abs c ≤ weight x) × Made most below x c
    -- The codes that are read back are numbers of four signed bytes, below the code of no limit.
    pub lowest_fits : negsuc 2147483647 ≤ℤ lowest below
    pub highest_fits : highest most <ℤ free_code
    -- Codes are in order exactly when the greatest numbers are at every counting grid.
    pub exact : (x y : ℤ) → (x ≤ℤ y) ↔ ((N : ℕ) → Grid Counts N → greatest x N ≤ℤ greatest y N)
    -- The sum is associative, commutative and monotone, 'at most 0' is neutral, and a sum weighs no more than its parts.
    pub sum_assoc : (x y z : ℤ) → sum (sum x y) z ≡ sum x (sum y z)
    pub sum_comm : (x y : ℤ) → sum x y ≡ sum y x
    pub sum_mono : (x y u v : ℤ) → x ≤ℤ u → y ≤ℤ v → sum x y ≤ℤ sum u v
    pub sum_zero : (x : ℤ) → sum x (most (pos 0)) ≡ x
    pub sum_weight : (x y : ℤ) → weight (sum x y) ≤ weight x + weight y
    -- The sum's greatest number is never below the sum of the two.
    pub sum_greatest : (x y : ℤ) (N : ℕ) → Grid Counts N → (greatest x N +ℤ greatest y N) ≤ℤ greatest (sum x y) N
    -- The opposite's greatest number is minus the limit's minus 1, and it weighs at most 1 more.
    pub opposite_weight : (x : ℤ) → weight (opposite x) ≤ weight x + 1
    pub opposite_greatest : (x : ℤ) (N : ℕ) → Grid Counts N → greatest (opposite x) N ≡ neg_ℤ (greatest x N) -ℤ pos 1
    -- For every n from 1 up there is a counting grid, at most n, that is fine enough for n limits.
    pub fine : (n : ℕ) → 0 < n → (N : ℕ) × Grid Counts N × (N ≤ n) × EnoughCodes greatest most sum n N
