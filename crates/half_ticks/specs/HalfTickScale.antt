-- Half ticks keep the laws of scales.
use Rattle.std.specs.Prelude.{◌≡◌, ℕ, ◌<◌, ◌≤◌, List, [], ◌∷◌, ℤ, pos, ◌+ℤ◌, ◌-ℤ◌, ◌*ℤ◌, neg_ℤ, ◌≤ℤ◌, refl}
use Rattle.std.proofs.Common.{ap, inl, inr, ⊎_elim, arith}
use Rattle.std.proofs.lemmas.Int.{ints}
use Rattle.std.proofs.lemmas.Bool.{cases_lt}
use Rattle.bounds.specs.Keeps.{Grid, total, totalℤ}
use Rattle.bounds.specs.Dense.{half, bit, twice}
use Rattle.bounds.specs.Halves.{bit_le, bit_cases, code_is, half_of, size_sum}
use Rattle.bounds.specs.Codes.{once}
use Rattle.bounds.specs.Scales.{Scaled, EnoughCodes}
use Rattle.half_ticks.specs.HalfTicks.{half_counts, half_weight, half_greatest, half_most, half_below, half_sum, half_opposite}

at_one : (x : ℤ) (N : ℕ) → N ≡ 1 → half_greatest x N ≡ half x
at_one x N e = rw e refl

at_two : (x : ℤ) (N : ℕ) → N ≡ 2 → half_greatest x N ≡ x
at_two x N e = rw e refl

doubled : (x : ℤ) (N : ℕ) → N ≡ 2 → x *ℤ pos N ≡ twice x
doubled x N e = rw e (omega (arith, ints))

-- ---- limits made from constants
most_law : (c : ℤ) (N : ℕ) → half_counts N → half_greatest (half_most c) N ≡ c *ℤ pos N
most_law c N (inl e) = rw (at_one (twice c) N e, once c N e) (half_of c (twice c) 0 (omega arith) (omega (arith, ints)))
most_law c N (inr e) = rw (at_two (twice c) N e, doubled c N e) refl

below_law : (c : ℤ) (N : ℕ) → half_counts N → half_greatest (half_below c) N ≡ c *ℤ pos N -ℤ pos 1
below_law c N (inl e) = rw (at_one (twice c -ℤ pos 1) N e, once c N e) (half_of (c -ℤ pos 1) (twice c -ℤ pos 1) 1 (omega arith) (omega (arith, ints)))
below_law c N (inr e) = rw (at_two (twice c -ℤ pos 1) N e, doubled c N e) refl

-- ---- the greatest numbers
order_meets : (x y : ℤ) (N : ℕ) → half_counts N → x ≤ℤ y → half_greatest x N ≤ℤ half_greatest y N
order_meets x y N (inl e) p =
    let cx = code_is x in
    let cy = code_is y in
    let bx = bit_le x in
    let by = bit_le y in
    rw (at_one x N e, at_one y N e) (omega (arith, ints))
order_meets x y N (inr e) p = rw (at_two x N e, at_two y N e) p

sum_greatest : (x y : ℤ) (N : ℕ) → half_counts N → (half_greatest x N +ℤ half_greatest y N) ≤ℤ half_greatest (half_sum x y) N
sum_greatest x y N (inl e) =
    let cx = code_is x in
    let cy = code_is y in
    let cs = code_is (x +ℤ y) in
    let bs = bit_le (x +ℤ y) in
    rw (at_one x N e, at_one y N e, at_one (x +ℤ y) N e) (omega (arith, ints))
sum_greatest x y N (inr e) = rw (at_two x N e, at_two y N e, at_two (x +ℤ y) N e) (omega (arith, ints))

opposite_greatest : (x : ℤ) (N : ℕ) → half_counts N → half_greatest (half_opposite x) N ≡ neg_ℤ (half_greatest x N) -ℤ pos 1
opposite_greatest x N (inl e) =
    let cx = code_is x in
    let co = code_is (neg_ℤ x -ℤ pos 1) in
    let bx = bit_le x in
    let bo = bit_le (neg_ℤ x -ℤ pos 1) in
    rw (at_one x N e, at_one (neg_ℤ x -ℤ pos 1) N e) (omega (arith, ints))
opposite_greatest x N (inr e) = rw (at_two x N e, at_two (neg_ℤ x -ℤ pos 1) N e) refl

-- ---- a grid that is fine enough
totals : (xs : List ℤ) → total half_sum (pos 0) xs ≡ totalℤ (λ x. half_greatest x 2) xs
totals [] = refl
totals (x ∷ xs) = ap (λ t. x +ℤ t) (totals xs)

enough_one : EnoughCodes half_greatest half_most half_sum 1 1
enough_one [] len least = absurd (omega arith)
enough_one (x ∷ []) len least = let is = code_is x in let small = bit_le x in omega (arith, ints)
enough_one (x ∷ y ∷ xs) len least = absurd (omega arith)

fine : (n : ℕ) → 0 < n → (N : ℕ) × Grid half_counts N × (N ≤ n) × EnoughCodes half_greatest half_most half_sum n N
fine n h =
    ⊎_elim
    (λ (more : 1 < n). (2, (omega arith, inr refl), omega arith, λ xs _ least. rw (← totals xs) least))
    (λ (one : n ≤ 1). (1, (omega arith, inl refl), h, λ xs len. enough_one xs (omega arith)))
    (cases_lt 1 n)

pub half_scale : Scaled half_counts half_weight half_greatest half_most half_below half_sum half_opposite
half_scale = record {
  first = inl refl;
  most_greatest = λ c N g. most_law c N g.1;
  below_greatest = λ c N g. below_law c N g.1;
  most_weight = λ c. omega (arith, ints);
  below_weight = λ c. omega (arith, ints);
  made = λ x.
      let is = code_is x in
      ⊎_elim
      (λ (odd : bit x ≡ 1). (half x +ℤ pos 1, omega (arith, ints), inr (omega (arith, ints))))
      (λ (even : bit x ≡ 0). (half x, omega (arith, ints), inl (omega (arith, ints))))
      (bit_cases x);
  lowest_fits = omega (arith, ints);
  highest_fits = omega (arith, ints);
  exact = λ x y. (λ p N g. order_meets x y N g.1 p, λ all. all 2 (omega arith, inr refl));
  sum_assoc = λ x y z. omega (arith, ints);
  sum_comm = λ x y. omega (arith, ints);
  sum_mono = λ x y u v p q. omega (arith, ints);
  sum_zero = λ x. omega (arith, ints);
  sum_weight = λ x y. omega (arith, size_sum x y);
  sum_greatest = λ x y N g. sum_greatest x y N g.1;
  opposite_weight = λ x. omega (arith, ints);
  opposite_greatest = λ x N g. opposite_greatest x N g.1;
  fine = fine;
}
