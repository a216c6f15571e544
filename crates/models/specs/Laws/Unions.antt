-- Masks that are joined one label at a time.
use Rattle.std.specs.Prelude.{◌≡◌, ℕ, suc, ◌*◌, ◌%◌, ◌^◌, ◌<◌, ◌≤◌, ◌⊎◌, max, List, [], ◌∷◌, fold, refl}
use Rattle.std.proofs.Common.{sym, ap, ◌∙◌, inl, inr, arith}
use Rattle.std.specs.Int.Bits.{bit_or}
use Rattle.std.proofs.Math.Pow.{pow-lt}
use Rattle.std.proofs.lemmas.Nat.{one_shl, or_lt}
use Rattle.std.proofs.lemmas.Nat.Bits.{bit_at_or, bit_at-pow_same, bit_at-pow_other}
use Rattle.std.proofs.lemmas.Bool.{cases_lt, cases_eq}
use Rattle.std.specs.List.{AllByRecursion}
use Rattle.machines.specs.Automaton.{bit}
use Rattle.machines.specs.Laws.Lists.{Stands}

either_one : (a b : ℕ) → max a b ≡ 1 → (a ≡ 1) ⊎ (b ≡ 1)
either_one a b e = elim (cases_lt a b) [ inl lt ↦ inr (omega (arith, e)) | inr ge ↦ inl (omega (arith, e)) ]

power_bit : (a i : ℕ) → bit (2 ^ a) i ≡ 1 → a ≡ i
power_bit a i e = elim (cases_eq i a) [ inl same ↦ sym same | inr other ↦ absurd (omega (arith, bit_at-pow_other a i other, e)) ]

-- ---- the labels at places, where f says the label at one

module _ (f : ℕ → ℕ) where
  abbrev pub union : ℕ → List ℕ → ℕ
  union m ps = fold (λ mask p. bit_or mask (2 ^ f p)) m ps

  union_keeps : (m : ℕ) (ps : List ℕ) (b : ℕ) → bit m b ≡ 1 → bit (union m ps) b ≡ 1
  union_keeps m [] b e = e
  union_keeps m (p ∷ ps) b e = union_keeps (bit_or m (2 ^ f p)) ps b (omega (arith, bit_at_or m (2 ^ f p) b, e))

  -- each label is in the union
  pub union_has : (m : ℕ) (ps : List ℕ) → AllByRecursion (λ p. bit (union m ps) (f p) ≡ 1) ps
  union_has m [] = tt
  union_has m (p ∷ ps) =
      (union_keeps (bit_or m (2 ^ f p)) ps (f p) (omega (arith, bit_at_or m (2 ^ f p) (f p), bit_at-pow_same (f p))), union_has (bit_or m (2 ^ f p)) ps)

  -- each number of the union is a label, or was there at the start
  pub union_from : (m : ℕ) (ps : List ℕ) (b : ℕ) → bit (union m ps) b ≡ 1 → (bit m b ≡ 1) ⊎ ((p : ℕ) × Stands ps p × (f p ≡ b))
  union_from m [] b e = inl e
  union_from m (p ∷ ps) b e =
      elim (union_from (bit_or m (2 ^ f p)) ps b e) [
        | inl here ↦
            elim (either_one (bit m b) (bit (2 ^ f p) b) (sym (bit_at_or m (2 ^ f p) b) ∙ here)) [ inl old ↦ inl old | inr new ↦ inr (p, (0, refl), power_bit (f p) b new) ]
        | inr later ↦ inr (later.0, (suc later.1.0, later.1.1), later.2)
      ]

  pub union_small : (m : ℕ) (ps : List ℕ) → m < 2 ^ 32 → AllByRecursion (λ p. f p ≤ 31) ps → union m ps < 2 ^ 32
  union_small m [] h a = h
  union_small m (p ∷ ps) h a =
      union_small (bit_or m (2 ^ f p)) ps (or_lt 32 m (2 ^ f p) h (pow-lt {i = f p} {j = 32} (omega (arith, a.0)))) a.1

  -- a bit that is shifted is the power, where no label is above 31
  pub union_shifted : (m : ℕ) (ps : List ℕ) → AllByRecursion (λ p. f p ≤ 31) ps → fold (λ mask p. bit_or mask (1 * 2 ^ f p % 2 ^ 32)) m ps ≡ union m ps
  union_shifted m [] a = refl
  union_shifted m (p ∷ ps) a =
      ap (λ n. fold (λ mask p. bit_or mask (1 * 2 ^ f p % 2 ^ 32)) (bit_or m n) ps) (one_shl (f p) 32 (omega (arith, a.0)))
      ∙ union_shifted (bit_or m (2 ^ f p)) ps a.1
