-- A test of each atom of an edge, one atom at a time.
use Rattle.std.specs.Prelude.{◌≡◌, ℕ, zero, suc, ◌+◌, ◌-◌, ◌<◌, Bool, true, List, refl}
use Rattle.std.proofs.Common.{ap, ◌∙◌, inl, inr, arith}
use Rattle.std.proofs.lemmas.Bool.{and_parts, and_from, cases_eq}
use Rattle.std.specs.List.{list_all, range_with_len}
use Rattle.models.specs.Format.{place_of_atom, each_atom}

module _ (test : ℕ → Bool) where
  holds_along : (a n i : ℕ) → i < n → list_all test (range_with_len a n) ≡ true → test (a + i) ≡ true
  holds_along a zero i h t = absurd (omega arith)
  holds_along a (suc n) i h t =
      let p = and_parts (test a) (list_all test (range_with_len (a + 1) n)) t in
      elim (cases_eq i 0) [
        | inl e ↦ ap test (omega arith) ∙ p.0
        | inr ne ↦ ap test (omega arith) ∙ holds_along (a + 1) n (i - 1) (omega arith) p.1
      ]

  along_from : (a n : ℕ) → ((i : ℕ) → i < n → test (a + i) ≡ true) → list_all test (range_with_len a n) ≡ true
  along_from a zero h = refl
  along_from a (suc n) h =
      and_from _ _ (ap test (omega arith) ∙ h 0 (omega arith)) (along_from (a + 1) n (λ i l. ap test (omega arith) ∙ h (i + 1) (omega arith)))

module _ (test : List ℕ → ℕ → Bool) (bs : List ℕ) (at : ℕ) where
  pub each_holds : (n i : ℕ) → i < n → each_atom test bs at n ≡ true → test bs (place_of_atom at i) ≡ true
  each_holds n i h t = ap (λ j. test bs (place_of_atom at j)) (omega arith) ∙ holds_along (λ j. test bs (place_of_atom at j)) 0 n i h t

  pub each_from : (n : ℕ) → ((i : ℕ) → i < n → test bs (place_of_atom at i) ≡ true) → each_atom test bs at n ≡ true
  each_from n h = along_from (λ j. test bs (place_of_atom at j)) 0 n (λ i l. ap (λ j. test bs (place_of_atom at j)) (omega arith) ∙ h i l)
