-- The tick scale keeps the laws of scales.
use Rattle.std.specs.Prelude.{◌≡◌, ℕ, ◌↔◌, List, [], ◌∷◌, ℤ, pos, ◌+ℤ◌, ◌-ℤ◌, neg_ℤ, ◌≤ℤ◌, refl}
use Rattle.std.proofs.Common.{sym, ◌∙◌, ap, inl, arith}
use Rattle.std.proofs.lemmas.Int.{ints}
use Rattle.bounds.specs.Keeps.{Grid, total, totalℤ}
use Rattle.bounds.specs.Codes.{once}
use Rattle.bounds.specs.Scales.{Scaled}
use Rattle.bounds.specs.Tick.{tick_counts, tick_weight, tick_greatest, tick_most, tick_below, tick_sum, tick_opposite}

exact_law : (x y : ℤ) → (x ≤ℤ y) ↔ ((N : ℕ) → Grid tick_counts N → tick_greatest x N ≤ℤ tick_greatest y N)
exact_law x y = (λ p N g. rw (once x N g.1, once y N g.1) p, λ all. rw (once x 1 refl, once y 1 refl) at (all 1 (omega arith, refl)))

totals : (xs : List ℤ) → total tick_sum (pos 0) xs ≡ totalℤ (λ x. tick_greatest x 1) xs
totals [] = refl
totals (x ∷ xs) = rw (once x 1 refl) (ap (λ t. x +ℤ t) (totals xs))

pub tick_scale : Scaled tick_counts tick_weight tick_greatest tick_most tick_below tick_sum tick_opposite
tick_scale = record {
  first = refl;
  most_greatest = λ c N _. refl;
  below_greatest = λ c N g. once (c -ℤ pos 1) N g.1 ∙ ap (λ y. y -ℤ pos 1) (sym (once c N g.1));
  most_weight = λ c. omega arith;
  below_weight = λ c. omega (arith, ints);
  made = λ x. (x, omega arith, inl refl);
  lowest_fits = omega (arith, ints);
  highest_fits = omega (arith, ints);
  exact = exact_law;
  sum_assoc = λ x y z. omega (arith, ints);
  sum_comm = λ x y. omega (arith, ints);
  sum_mono = λ x y u v p q. omega (arith, ints);
  sum_zero = λ x. omega (arith, ints);
  sum_weight = λ x y. omega (arith, ints);
  sum_greatest = λ x y N g. rw (once x N g.1, once y N g.1, once (x +ℤ y) N g.1) (omega (arith, ints));
  opposite_weight = λ x. omega (arith, ints);
  opposite_greatest = λ x N g. rw (once x N g.1, once (neg_ℤ x -ℤ pos 1) N g.1) refl;
  fine = λ n h. (1, (omega arith, refl), h, λ xs _ least. rw (← totals xs) least);
}
