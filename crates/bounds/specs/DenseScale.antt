-- The dense scale keeps the laws of scales.
use Rattle.std.specs.Prelude.{◌≡◌, ℕ, ◌+◌, ◌-◌, ◌*◌, ◌<◌, ◌≤◌, List, [], ◌∷◌, length, ℤ, pos, ◌+ℤ◌, ◌-ℤ◌, neg_ℤ, ◌≤ℤ◌, unsigned_abs, refl}
use Rattle.std.proofs.Common.{◌∙◌, ap, inl, inr, ⊎_elim, arith, mul-le-mul_right}
use borrow.Author.Differences.{up, down, sum_is_lem, neg_is, at_most_in}
use Rattle.std.proofs.lemmas.Int.{ints}
use Rattle.std.proofs.lemmas.Bool.{cases_lt}
use Rattle.bounds.specs.Keeps.{Made, total, total_of, totalℤ}
use Rattle.bounds.specs.Scales.{Scaled, EnoughCodes}
use Rattle.bounds.specs.Dense.{half, bit, twice, dense_counts, dense_weight, dense_greatest, dense_most, dense_below, dense_sum, dense_opposite}
use Rattle.bounds.specs.Halves.{bit_le, bit_cases, code_is, half_of, bit_of, half_sum, bit_sum}

-- ---- limits made from constants
most_half : (c : ℤ) → half (dense_most c) ≡ c
most_half c = half_of c (dense_most c) 1 (omega arith) refl

most_bit : (c : ℤ) → bit (dense_most c) ≡ 1
most_bit c = bit_of c (dense_most c) 1 (omega arith) refl

below_half : (c : ℤ) → half (dense_below c) ≡ c
below_half c = half_of c (dense_below c) 0 (omega arith) (omega (arith, ints))

below_bit : (c : ℤ) → bit (dense_below c) ≡ 0
below_bit c = bit_of c (dense_below c) 0 (omega arith) (omega (arith, ints))

made_law : (x : ℤ) → (c : ℤ) × (unsigned_abs c ≤ dense_weight x) × Made dense_most dense_below x c
made_law x =
    let is = code_is x in
    (half x, omega arith, ⊎_elim (λ (b : bit x ≡ 1). inl (omega (arith, ints))) (λ (b : bit x ≡ 0). inr (omega (arith, ints))) (bit_cases x))

-- ---- the greatest numbers
greatest_is : (x : ℤ) (N : ℕ) → up (dense_greatest x N) + down (half x) * N + (1 - bit x) ≡ down (dense_greatest x N) + up (half x) * N
greatest_is x N = omega (arith, ints)

order_meets : (x y : ℤ) (N : ℕ) → 0 < N → x ≤ℤ y → dense_greatest x N ≤ℤ dense_greatest y N
order_meets x y N h p =
    let cx = code_is x in
    let cy = code_is y in
    let bx = bit_le x in
    let by = bit_le y in
    let gx = greatest_is x N in
    let gy = greatest_is y N in
    ⊎_elim
    (λ (less : up (half x) + down (half y) < up (half y) + down (half x)). let times = mul-le-mul_right N less in omega (arith, ints))
    (λ (more : up (half y) + down (half x) ≤ up (half x) + down (half y)).
    let even : up (half x) + down (half y) ≡ up (half y) + down (half x) = omega (arith, ints) in
    let times = ap (λ t. t * N) even in
    omega (arith, ints))
    (cases_lt (up (half x) + down (half y)) (up (half y) + down (half x)))

-- grid 2 tells all limits apart
meets_order : (x y : ℤ) → dense_greatest x 2 ≤ℤ dense_greatest y 2 → x ≤ℤ y
meets_order x y h =
    let cx = code_is x in
    let cy = code_is y in
    let bx = bit_le x in
    let by = bit_le y in
    let gx = greatest_is x 2 in
    let gy = greatest_is y 2 in
    omega (arith, ints)

-- ---- the sum
mono : (x y u v : ℤ) → x ≤ℤ u → y ≤ℤ v → dense_sum x y ≤ℤ dense_sum u v
mono x y u v p q =
    let cx = code_is x in
    let cy = code_is y in
    let cu = code_is u in
    let cv = code_is v in
    let bx = bit_le x in
    let by = bit_le y in
    let bu = bit_le u in
    let bv = bit_le v in
    omega (arith, ints)

assoc : (x y z : ℤ) → dense_sum (dense_sum x y) z ≡ dense_sum x (dense_sum y z)
assoc x y z = rw (half_sum x y, bit_sum x y, half_sum y z, bit_sum y z) (omega (arith, ints))

sum_greatest : (x y : ℤ) (N : ℕ) → (dense_greatest x N +ℤ dense_greatest y N) ≤ℤ dense_greatest (dense_sum x y) N
sum_greatest x y N =
    let gx = greatest_is x N in
    let gy = greatest_is y N in
    let gs = greatest_is (dense_sum x y) N in
    let ups = ap (λ t. up t * N) (half_sum x y) in
    let downs = ap (λ t. down t * N) (half_sum x y) in
    let b = bit_sum x y in
    let bx = bit_le x in
    let by = bit_le y in
    let times = ap (λ t. t * N) (sum_is_lem (half x) (half y)) in
    at_most_in (dense_greatest x N +ℤ dense_greatest y N) (dense_greatest (dense_sum x y) N) (omega (arith, sum_is_lem (dense_greatest x N) (dense_greatest y N)))

-- ---- the opposite
opposite_is : (x : ℤ) → dense_opposite x ≡ twice (neg_ℤ (half x)) +ℤ pos (1 - bit x)
opposite_is x = let is = code_is x in let small = bit_le x in omega (arith, ints)

opposite_half : (x : ℤ) → half (dense_opposite x) ≡ neg_ℤ (half x)
opposite_half x = half_of (neg_ℤ (half x)) (dense_opposite x) (1 - bit x) (omega arith) (opposite_is x)

opposite_bit : (x : ℤ) → bit (dense_opposite x) ≡ 1 - bit x
opposite_bit x = bit_of (neg_ℤ (half x)) (dense_opposite x) (1 - bit x) (omega arith) (opposite_is x)

opposite_greatest : (x : ℤ) (N : ℕ) → dense_greatest (dense_opposite x) N ≡ neg_ℤ (dense_greatest x N) -ℤ pos 1
opposite_greatest x N =
    let g = greatest_is x N in
    let o = greatest_is (dense_opposite x) N in
    let ups = ap (λ t. up t * N) (opposite_half x) ∙ ap (λ t. t * N) (neg_is (half x)).0 in
    let downs = ap (λ t. down t * N) (opposite_half x) ∙ ap (λ t. t * N) (neg_is (half x)).1 in
    let b = opposite_bit x in
    let small = bit_le x in
    let adds : up (dense_greatest (dense_opposite x) N) + up (dense_greatest x N) + 1 ≡ down (dense_greatest (dense_opposite x) N) + down (dense_greatest x N) = omega arith in
    omega (arith, ints)

-- ---- a grid that is fine enough
strict : ℤ → ℕ
strict x = 1 - bit x

abbrev Totals : List ℤ → ℤ → Type 0
Totals xs t = (half t ≡ totalℤ half xs) × (bit t ≡ 1 → total_of strict xs ≡ 0)

totals : (xs : List ℤ) → Totals xs (total dense_sum (dense_most (pos 0)) xs)
unfolding strict
totals [] = (refl, λ _. refl)
totals (x ∷ xs) =
    let t = total dense_sum (dense_most (pos 0)) xs in
    let (h, s) = totals xs in (
      half_sum x t ∙ ap (λ y. half x +ℤ y) h,
      λ (b : bit (dense_sum x t) ≡ 1).
          let both = rw (bit_sum x t) at b in
          let rest : total_of strict xs ≡ 0 = s (omega (arith, bit_le x, bit_le t)) in
          omega (arith, bit_le x),
    )

strict_le : (xs : List ℤ) → total_of strict xs ≤ length xs
unfolding strict
strict_le [] = omega arith
strict_le (x ∷ xs) = let ih = strict_le xs in omega arith

totals_greatest : (xs : List ℤ) (N : ℕ) → up (totalℤ (λ x. dense_greatest x N) xs) + down (totalℤ half xs) * N + total_of strict xs ≡ down (totalℤ (λ x. dense_greatest x N) xs) + up (totalℤ half xs) * N
unfolding strict
totals_greatest [] N = omega arith
totals_greatest (x ∷ xs) N =
    let ih = totals_greatest xs N in
    let g = greatest_is x N in
    let sums = sum_is_lem (dense_greatest x N) (totalℤ (λ y. dense_greatest y N) xs) in
    let times = ap (λ t. t * N) (sum_is_lem (half x) (totalℤ half xs)) in
    omega arith

enough : (n : ℕ) → EnoughCodes dense_greatest dense_most dense_sum n n
enough n xs len least =
    let t = total dense_sum (dense_most (pos 0)) xs in
    let (half_is, none) = totals xs in
    let H = totalℤ half xs in
    let code = rw half_is at (code_is t) in
    let few = strict_le xs in
    let sums = totals_greatest xs n in
    ⊎_elim
    (λ (b : bit t ≡ 1).
    let all_met = none b in
    let upward : down H ≤ up H = omega (arith, ints) in
    let times = mul-le-mul_right n upward in
    omega (arith, ints))
    (λ (b : bit t ≡ 0).
    let upward : down H + 1 ≤ up H = omega (arith, ints) in
    let times = mul-le-mul_right n upward in
    omega (arith, ints))
    (bit_cases t)

pub dense_scale : Scaled dense_counts dense_weight dense_greatest dense_most dense_below dense_sum dense_opposite
dense_scale = record {
  first = tt;
  most_greatest = λ c N _. rw (most_half c, most_bit c) (omega (arith, ints));
  below_greatest = λ c N _. rw (below_half c, below_bit c) refl;
  most_weight = λ c. rw (most_half c) (omega arith);
  below_weight = λ c. rw (below_half c) (omega arith);
  made = made_law;
  lowest_fits = omega (arith, ints);
  highest_fits = omega (arith, ints);
  exact = λ x y. (λ p N g. order_meets x y N g.0 p, λ all. meets_order x y (all 2 (omega arith, tt)));
  sum_assoc = assoc;
  sum_comm = λ x y. omega (arith, ints);
  sum_mono = mono;
  sum_zero = λ x. let is = code_is x in let small = bit_le x in omega (arith, ints);
  sum_weight = λ x y. rw (half_sum x y) (omega (arith, ints));
  sum_greatest = λ x y N _. sum_greatest x y N;
  opposite_weight = λ x. rw (opposite_half x) (omega (arith, ints));
  opposite_greatest = λ x N _. opposite_greatest x N;
  fine = λ n h. (n, (h, tt), omega arith, enough n);
}
