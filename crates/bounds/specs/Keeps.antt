-- The six laws of a reading of time.
--
-- A reading says which grids count, and supplies bounds on differences. At grid N a difference is a whole number of Nths.
-- A bound is `free`, which is no limit, or is made from a constant c: `most c` is 'at most c', and `below c` is 'below c'.
-- `greatest b N` is the greatest whole number of Nths that meets the limited bound b: a difference meets b when it is not above that number. Every difference meets `free`.
-- The laws are owed while the constants, without sign, add to at most 2^60, and ask nothing past it: `weight b` is the size of b's constant.
use Rattle.std.specs.Prelude.{◌≡◌, ℕ, ◌+◌, ◌^◌, ◌<◌, ◌≤◌, Bool, true, false, cond, ◌&&◌, ◌⊎◌, ◌↔◌, List, [], ◌∷◌, length, ℤ, pos, negsuc, ◌+ℤ◌, ◌-ℤ◌, ◌*ℤ◌, neg_ℤ, ◌≤ℤ◌, Some, None, Option, ◌≢◌, int_le, unsigned_abs}

-- the laws are owed while the weights of the bounds that they speak of add to at most this
abbrev pub limit : ℕ
limit = 2 ^ 60

-- the largest constant of a bound that has a code of four signed bytes, without sign
abbrev pub widest : ℕ
widest = 1000000

-- the numbers of four signed bytes
abbrev pub FourBytes : ℤ → Type 0
FourBytes z = (negsuc 2147483647 ≤ℤ z) × (z ≤ℤ pos 2147483647)

-- z itself, where it is a number of four signed bytes
abbrev pub in_four_bytes : ℤ → Option ℤ
in_four_bytes z = cond (int_le (negsuc 2147483647) z && int_le z (pos 2147483647)) (Some z) None

-- a grid that counts
abbrev pub Grid : (ℕ → Type 0) → ℕ → Type 0
Grid Counts N = (0 < N) × Counts N

-- b is made from the constant c
abbrev pub Made : {C : Type 0} → (ℤ → C) → (ℤ → C) → C → ℤ → Type 0
Made most below b c = (b ≡ most c) ⊎ (b ≡ below c)

-- b is no limit, or is made from a constant within ±1,000,000
abbrev pub Filed : {C : Type 0} → (ℤ → C) → (ℤ → C) → C → C → Type 0
Filed most below free b = (b ≡ free) ⊎ ((c : ℤ) × (unsigned_abs c ≤ widest) × Made most below b c)

-- a and b are equal in the order
abbrev pub Alike : {C : Type 0} → (C → C → Bool) → C → C → Type 0
Alike leq a b = (leq a b ≡ true) × (leq b a ≡ true)

-- the sum of a list of bounds
abbrev pub total : {C : Type 0} → (C → C → C) → C → List C → C
total sum zero [] = zero
total sum zero (b ∷ bs) = sum b (total sum zero bs)

-- the sum of a number of each
abbrev pub total_of : {C : Type 0} → (C → ℕ) → List C → ℕ
total_of f [] = 0
total_of f (b ∷ bs) = f b + total_of f bs

abbrev pub totalℤ : {C : Type 0} → (C → ℤ) → List C → ℤ
totalℤ f [] = pos 0
totalℤ f (b ∷ bs) = f b +ℤ totalℤ f bs

-- each passes a test
abbrev pub Each : {C : Type 0} → (C → Bool) → List C → Type 0
Each p [] = Unit {0}
Each p (b ∷ bs) = (p b ≡ true) × Each p bs

-- a total order, as law 3 asks
pub record Ordered {C : Type 0} (leq : C → C → Bool) (weight : C → ℕ) : Type 0 where
  pub le_refl : (a : C) → weight a ≤ limit → leq a a ≡ true
  pub le_trans : (a b c : C) → weight a + weight b + weight c ≤ limit → leq a b ≡ true → leq b c ≡ true → leq a c ≡ true
  pub le_total : (a b : C) → weight a + weight b ≤ limit → (leq a b ≡ true) ⊎ (leq b a ≡ true)

-- a sum that is associative, commutative and monotone, with a neutral zero, as law 4 asks
pub record Summed {C : Type 0} (leq : C → C → Bool) (sum : C → C → C) (zero : C) (weight : C → ℕ) : Type 0 where
  pub sum_assoc : (a b c : C) → weight a + weight b + weight c ≤ limit → Alike leq (sum (sum a b) c) (sum a (sum b c))
  pub sum_comm : (a b : C) → weight a + weight b ≤ limit → Alike leq (sum a b) (sum b a)
  pub sum_mono : (a b c d : C) → weight a + weight b + weight c + weight d ≤ limit → leq a c ≡ true → leq b d ≡ true → leq (sum a b) (sum c d) ≡ true
  pub sum_zero : (a : C) → weight a ≤ limit → Alike leq (sum a zero) a

module _ {C : Type 0} (leq : C → C → Bool) (sum : C → C → C) (zero : C) (weight : C → ℕ) (Counts : ℕ → Type 0) (limited : C → Bool) (greatest : C → ℕ → ℤ) (most below : ℤ → C) (free : C) (opposite : C → C) (code : C → ℤ) (read : ℤ → Option C) where
  -- What a bound is.
  pub record Bounds : Type 0 where
    -- No limit is not limited, weighs nothing, and is the only such bound.
    pub free_limited : limited free ≡ false
    pub free_weight : weight free ≡ 0
    pub free_only : (b : C) → weight b ≤ limit → limited b ≡ false → b ≡ free
    -- 'At most c' is limited, and weighs no more than c.
    pub most_limited : (c : ℤ) → unsigned_abs c ≤ limit → limited (most c) ≡ true
    pub most_weight : (c : ℤ) → unsigned_abs c ≤ limit → weight (most c) ≤ unsigned_abs c
    -- 'Below c' is limited, and weighs at most 1 more, since it may be the same bound as 'at most c − 1'.
    pub below_limited : (c : ℤ) → unsigned_abs c ≤ limit → limited (below c) ≡ true
    pub below_weight : (c : ℤ) → unsigned_abs c ≤ limit → weight (below c) ≤ unsigned_abs c + 1
    -- A limited bound is made from a constant, no larger than its weight.
    pub made : (b : C) → weight b ≤ limit → limited b ≡ true → (c : ℤ) × (unsigned_abs c ≤ weight b) × Made most below b c

  -- 1. Grid 1 counts.
  abbrev pub First : Type 0
  First = Counts 1

  -- 2. The bound made from c has greatest number c × N for 'at most c' and c × N − 1 for 'below c'.
  abbrev pub Second : Type 0
  Second = (c : ℤ) → unsigned_abs c ≤ limit → (N : ℕ) → Grid Counts N → (greatest (most c) N ≡ c *ℤ pos N) × (greatest (below c) N ≡ c *ℤ pos N -ℤ pos 1)

  -- 3.
  pub record Third : Type 0 where
    -- The order is total,
    pub order : Ordered leq weight
    -- with no limit above every limited bound.
    pub free_above : (b : C) → weight b ≤ limit → leq b free ≡ true
    pub free_alone : (b : C) → weight b ≤ limit → limited b ≡ true → leq free b ≡ false
    -- Bounds equal in the order share one code.
    pub alike_code : (a b : C) → weight a + weight b ≤ limit → Alike leq a b → code a ≡ code b
    -- No limit and the bounds made from constants within ±1,000,000 have codes of four signed bytes,
    pub code_fits : (b : C) → Filed most below free b → FourBytes (code b)
    -- different where the bounds are not equal in the order,
    pub codes_differ : (a b : C) → Filed most below free a → Filed most below free b → (Alike leq a b → ⊥) → code a ≢ code b
    -- from which the same bound is read back.
    pub read_code : (b : C) → Filed most below free b → read (code b) ≡ Some b
    -- What is read has the code that was read, and is no limit or made from a constant within ±1,000,000.
    pub read_only : (z : ℤ) (b : C) → FourBytes z → read z ≡ Some b → (code b ≡ z) × Filed most below free b
    -- A limited bound is not above another exactly when its greatest number is not above that of the other at every counting grid.
    pub exact : (a b : C) → weight a + weight b ≤ limit → limited a ≡ true → limited b ≡ true → (leq a b ≡ true) ↔ ((N : ℕ) → Grid Counts N → greatest a N ≤ℤ greatest b N)

  -- 4.
  pub record Fourth : Type 0 where
    -- The sum is associative, commutative and monotone,
    pub sums : Summed leq sum zero weight
    -- with 'at most 0' as its neutral zero.
    pub zero_made : zero ≡ most (pos 0)
    -- A sum with no limit is no limit, and the sum of two limited bounds is limited.
    pub sum_limited : (a b : C) → weight a + weight b ≤ limit → limited (sum a b) ≡ (limited a && limited b)
    -- The sum's greatest number is never below the sum of the two.
    pub sum_greatest : (a b : C) → weight a + weight b ≤ limit → limited a ≡ true → limited b ≡ true → (N : ℕ) → Grid Counts N → (greatest a N +ℤ greatest b N) ≤ℤ greatest (sum a b) N

  -- 5.
  pub record Fifth : Type 0 where
    -- The opposite of a limited bound is limited, and weighs at most 1 more.
    pub opposite_limited : (b : C) → weight b ≤ limit → limited b ≡ true → limited (opposite b) ≡ true
    pub opposite_weight : (b : C) → weight b ≤ limit → limited b ≡ true → weight (opposite b) ≤ weight b + 1
    -- A difference d meets a limited bound or −d meets its opposite,
    pub one_meets : (b : C) → weight b ≤ limit → limited b ≡ true → (N : ℕ) → Grid Counts N → (d : ℤ) → (d ≤ℤ greatest b N) ⊎ (neg_ℤ d ≤ℤ greatest (opposite b) N)
    -- never both.
    pub never_both : (b : C) → weight b ≤ limit → limited b ≡ true → (N : ℕ) → Grid Counts N → (d : ℤ) → d ≤ℤ greatest b N → neg_ℤ d ≤ℤ greatest (opposite b) N → ⊥

  -- any n limited bounds, whose sum is not below 'at most 0', have greatest numbers at grid N that add to 0 or more
  abbrev pub Enough : ℕ → ℕ → Type 0
  Enough n N = (bs : List C) → length bs ≡ n → total_of weight bs ≤ limit → Each limited bs → leq zero (total sum zero bs) ≡ true → pos 0 ≤ℤ totalℤ (λ b. greatest b N) bs

  -- 6. For every n from 1 up there is a counting grid, at most n, at which any n limited bounds, whose sum is not below 'at most 0', have greatest numbers that add to 0 or more.
  abbrev pub Sixth : Type 0
  Sixth = (n : ℕ) → 0 < n → (N : ℕ) × Grid Counts N × (N ≤ n) × Enough n N

  pub record Keeps : Type 0 where
    pub bounds : Bounds
    pub first : First
    pub second : Second
    pub third : Third
    pub fourth : Fourth
    pub fifth : Fifth
    pub sixth : Sixth
