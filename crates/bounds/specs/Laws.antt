-- What the order and the sum of bounds owe: laws 3 and 4, as far as they speak of nothing else, and that a sum weighs no more than its parts.
use Rattle.std.specs.Prelude.{◌≡◌, ℕ, ◌+◌, ◌≤◌, Bool}
use Rattle.bounds.specs.Keeps.{limit, Ordered, Summed}

pub record Laws {C : Type 0} (leq : C → C → Bool) (sum : C → C → C) (zero : C) (weight : C → ℕ) : Type 0 where
  pub order : Ordered leq weight
  pub sums : Summed leq sum zero weight
  pub light_zero : weight zero ≡ 0
  pub light_sum : (a b : C) → weight a + weight b ≤ limit → weight (sum a b) ≤ weight a + weight b
