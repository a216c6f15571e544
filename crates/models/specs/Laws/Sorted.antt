-- Lists whose keys do not fall: those with one key stand together.
use Rattle.std.specs.Prelude.{◌≡◌, ℕ, zero, suc, ◌+◌, ◌-◌, ◌<◌, ◌≤◌, Bool, false, ltb, List, [], ◌∷◌, length, take, drop, filter, ◌==◌, nat_eq, nat_lt, slice_index, slice_index_or, refl}
use Rattle.std.proofs.Common.{sym, ap, ◌∙◌, inl, inr, arith}
use Rattle.std.proofs.ByRecursion.{All-weaker}
use Rattle.std.proofs.lemmas.Bool.{cases_lt, cases_order, lt-ltb, le-ltb, eq-eqb, ne_eqb, cond-true, cond-false}
use Rattle.std.specs.List.{AllByRecursion}
use Rattle.std.specs.List.Sorted.{IsNonDecreasingBy}
use Rattle.machines.specs.Laws.Lists.{length-kept}

pub none_kept : (test : ℕ → Bool) (xs : List ℕ) → AllByRecursion (λ x. test x ≡ false) xs → filter test xs ≡ []
none_kept test [] a = refl
none_kept test (x ∷ xs) a = cond-false (test x) _ _ a.0 ∙ none_kept test xs a.1

module _ (key : ℕ → ℕ) where
  -- the keys do not fall along the list, from `low` on
  abbrev pub Sorted : ℕ → List ℕ → Type 0
  Sorted low [] = Unit {0}
  Sorted low (x ∷ xs) = (low ≤ key x) × Sorted (key x) xs

  -- how many keys are below l
  abbrev pub number_below : ℕ → List ℕ → ℕ
  number_below l xs = length (filter (λ x. ltb (key x) l) xs)

  above : (low : ℕ) (xs : List ℕ) → Sorted low xs → (n : ℕ) → n ≤ low → AllByRecursion (λ x. n ≤ key x) xs
  above low [] s n h = tt
  above low (x ∷ xs) s n h = (omega (arith, s.0), above (key x) xs s.1 n (omega (arith, s.0)))

  least : (low : ℕ) (xs : List ℕ) → Sorted low xs → (i d : ℕ) → i < length xs → low ≤ key (slice_index_or xs i d)
  least low [] s i d h = absurd (omega arith)
  least low (x ∷ xs) s zero d h = s.0
  least low (x ∷ xs) s (suc i) d h = omega (arith, s.0, least (key x) xs s.1 i d (omega arith))

  pub non_decreasing : (low : ℕ) (xs : List ℕ) → Sorted low xs → IsNonDecreasingBy key xs
  non_decreasing low [] s i j d h lt = absurd (omega arith)
  non_decreasing low (x ∷ xs) s zero zero d h lt = omega arith
  non_decreasing low (x ∷ xs) s zero (suc j) d h lt = least (key x) xs s.1 j d (omega arith)
  non_decreasing low (x ∷ xs) s (suc i) zero d h lt = absurd (omega arith)
  non_decreasing low (x ∷ xs) s (suc i) (suc j) d h lt = non_decreasing (key x) xs s.1 i j d (omega arith) (omega arith)

  none_below : (l low : ℕ) (xs : List ℕ) → l ≤ low → Sorted low xs → number_below l xs ≡ 0
  none_below l low xs h s =
      ap length (none_kept (λ x. ltb (key x) l) xs (All-weaker (λ x. l ≤ key x) (λ x. nat_lt (key x) l ≡ false) (λ x. le-ltb (key x) l) xs (above low xs s l h)))

  one_below : (l x : ℕ) (xs : List ℕ) → key x < l → number_below l (x ∷ xs) ≡ suc (number_below l xs)
  one_below l x xs h = ap length (cond-true (nat_lt (key x) l) _ _ (lt-ltb _ _ h))

  not_below : (l x : ℕ) (xs : List ℕ) → l ≤ key x → number_below l (x ∷ xs) ≡ number_below l xs
  not_below l x xs h = ap length (cond-false (nat_lt (key x) l) _ _ (le-ltb _ _ h))

  pub few_below : (l : ℕ) (xs : List ℕ) → number_below l xs ≤ length xs
  few_below l xs = length-kept (λ x. ltb (key x) l) xs

  pub more_below : (l : ℕ) (xs : List ℕ) → number_below l xs ≤ number_below (l + 1) xs
  more_below l [] = omega arith
  more_below l (x ∷ xs) =
      elim (cases_lt (key x) l) [
        | inl lt ↦ omega (arith, one_below l x xs lt, one_below (l + 1) x xs (omega arith), more_below l xs)
        | inr ge ↦
            elim (cases_lt (key x) (l + 1)) [
              | inl lt ↦ omega (arith, not_below l x xs ge, one_below (l + 1) x xs lt, more_below l xs)
              | inr gt ↦ omega (arith, not_below l x xs ge, not_below (l + 1) x xs gt, more_below l xs)
            ]
      ]

  -- a place in the list is the count, where each key before it is below l, and the one at it is not
  pub count_is : (l low i : ℕ) (xs : List ℕ) → Sorted low xs → i ≤ length xs → ((k : ℕ) → k < i → key (slice_index xs k) < l) → (i < length xs → l ≤ key (slice_index xs i)) → number_below l xs ≡ i
  count_is l low zero [] s h before here = refl
  count_is l low (suc i) [] s h before here = absurd (omega arith)
  count_is l low zero (x ∷ xs) s h before here =
      let first : l ≤ key x = here (omega arith) in none_below l l (x ∷ xs) (omega arith) (first, s.1)
  count_is l low (suc i) (x ∷ xs) s h before here =
      one_below l x xs (before 0 (omega arith))
      ∙ ap suc (count_is l (key x) i xs s.1 (omega arith) (λ k lt. before (suc k) (omega arith)) (λ lt. here (omega arith)))

  -- the elements with key l are those from the count below l up to the count below l + 1
  pub together : (l low : ℕ) (xs : List ℕ) → Sorted low xs
      → filter (λ x. nat_eq (key x) l) xs ≡ take (number_below (l + 1) xs - number_below l xs) (drop (number_below l xs) xs)
  together l low [] s = refl
  together l low (x ∷ xs) s =
      let ih = together l (key x) xs s.1 in
      elim (cases_order (key x) l) [
        | inl eq ↦
            let a : number_below l (x ∷ xs) ≡ 0 = none_below l l (x ∷ xs) (omega arith) (omega arith, s.1) in
            let none : number_below l xs ≡ 0 = none_below l (key x) xs (omega arith) s.1 in
            let b : number_below (l + 1) (x ∷ xs) - 0 ≡ suc (number_below (l + 1) xs - 0) = omega (arith, one_below (l + 1) x xs (omega arith)) in
            cond-true (key x == l) _ _ (eq-eqb _ _ eq) ∙ ap (λ ys. x ∷ ys) (ih ∙ ap (λ n. take (number_below (l + 1) xs - n) (drop n xs)) none)
            ∙ sym (ap (λ n. take (number_below (l + 1) (x ∷ xs) - n) (drop n (x ∷ xs))) a ∙ ap (λ n. take n (x ∷ xs)) b)
        | inr (inl lt) ↦
            let a = one_below l x xs lt in
            let b : number_below (l + 1) (x ∷ xs) - suc (number_below l xs) ≡ number_below (l + 1) xs - number_below l xs = omega (arith, one_below (l + 1) x xs (omega arith)) in
            cond-false (key x == l) _ _ (ne_eqb _ _ (omega arith)) ∙ ih
            ∙ sym (ap (λ n. take (number_below (l + 1) (x ∷ xs) - n) (drop n (x ∷ xs))) a ∙ ap (λ n. take n (drop (number_below l xs) xs)) b)
        | inr (inr gt) ↦
            let none = none_below (l + 1) (l + 1) (x ∷ xs) (omega arith) (omega arith, s.1) in
            let b : number_below (l + 1) (x ∷ xs) - number_below l (x ∷ xs) ≡ 0 = omega (arith, none) in
            none_kept (λ x. nat_eq (key x) l) (x ∷ xs) (All-weaker (λ y. l + 1 ≤ key y) (λ y. (key y == l) ≡ false) (λ y h. ne_eqb _ _ (omega arith)) (x ∷ xs) (above (l + 1) (x ∷ xs) (omega arith, s.1) (l + 1) (omega arith)))
            ∙ sym (ap (λ n. take n (drop (number_below l (x ∷ xs)) (x ∷ xs))) b)
      ]
