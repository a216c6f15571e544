-- Bounds over any scale keep the laws of their order and sum.
use Rattle.std.specs.Prelude.{◌≡◌, ℕ, ◌+◌, ◌≤◌, true, ◌⊎◌, ℤ, pos, ◌≤ℤ◌, ◌<ℤ◌, Some, None, Option, int_le, refl}
use Rattle.std.specs.Option.{option_map_or}
use Rattle.std.proofs.Common.{sym, ap, inl, inr, arith}
use Rattle.std.proofs.lemmas.Int.{ints, by_lt_z}
use Rattle.std.proofs.lemmas.Bool.{false≢true}
use Rattle.bounds.specs.declared.bound.Bound.{Bound}
use Rattle.bounds.specs.Keeps.{Alike}
use Rattle.bounds.specs.Laws.{Laws}
use Rattle.bounds.specs.Scales.{Scaled}
use Rattle.bounds.specs.Bounds.{limit_leq, limit_sum, bound_of, bound_leq, bound_sum, bound_weight, bound_made}

-- codes in order as a test
pub in_order : (x y : ℤ) → x ≤ℤ y → int_le x y ≡ true
in_order x y h = sym (omega (arith, ints))

leq_refl : (a : Option ℤ) → limit_leq a a ≡ true
leq_refl None = refl
leq_refl (Some x) = in_order x x (omega (arith, ints))

leq_trans : (a b c : Option ℤ) → limit_leq a b ≡ true → limit_leq b c ≡ true → limit_leq a c ≡ true
leq_trans a b None p q = refl
leq_trans a None (Some z) p q = absurd (false≢true q)
leq_trans None (Some y) (Some z) p q = absurd (false≢true p)
leq_trans (Some x) (Some y) (Some z) p q = in_order x z (omega (arith, ints))

leq_total : (a b : Option ℤ) → (limit_leq a b ≡ true) ⊎ (limit_leq b a ≡ true)
leq_total a None = inl refl
leq_total None (Some y) = inr refl
leq_total (Some x) (Some y) = by_lt_z x y (λ (less : x <ℤ y). inl (in_order x y (omega (arith, ints)))) (λ (more : y ≤ℤ x). inr (in_order y x more))

pub alike : {S : Type 0} (a b : Bound S) → a ≡ b → Alike bound_leq a b
alike a b e = rw e (leq_refl b.limit, leq_refl b.limit)

module _ {Counts : ℕ → Type 0} {weight : ℤ → ℕ} {greatest : ℤ → ℕ → ℤ} {most below : ℤ → ℤ} {sum : ℤ → ℤ → ℤ} {opposite : ℤ → ℤ} (scale : Scaled Counts weight greatest most below sum opposite) where
  comm : (a b : Option ℤ) → limit_sum sum a b ≡ limit_sum sum b a
  comm None None = refl
  comm None (Some y) = refl
  comm (Some x) None = refl
  comm (Some x) (Some y) = ap Some (scale.sum_comm x y)

  assoc : (a b c : Option ℤ) → limit_sum sum (limit_sum sum a b) c ≡ limit_sum sum a (limit_sum sum b c)
  assoc None b c = refl
  assoc (Some x) None c = refl
  assoc (Some x) (Some y) None = refl
  assoc (Some x) (Some y) (Some z) = ap Some (scale.sum_assoc x y z)

  neutral : (a : Option ℤ) → limit_sum sum a (Some (most (pos 0))) ≡ a
  neutral None = refl
  neutral (Some x) = ap Some (scale.sum_zero x)

  mono : (a b c d : Option ℤ) → limit_leq a c ≡ true → limit_leq b d ≡ true → limit_leq (limit_sum sum a b) (limit_sum sum c d) ≡ true
  mono a b None d p q = refl
  mono a b (Some u) None p q = refl
  mono None b (Some u) (Some v) p q = absurd (false≢true p)
  mono (Some x) None (Some u) (Some v) p q = absurd (false≢true q)
  mono (Some x) (Some y) (Some u) (Some v) p q = in_order (sum x y) (sum u v) (scale.sum_mono x y u v (omega (arith, ints)) (omega (arith, ints)))

  light : (a b : Option ℤ) → option_map_or weight (limit_sum sum a b) 0 ≤ option_map_or weight a 0 + option_map_or weight b 0
  light None b = omega arith
  light (Some x) None = omega arith
  light (Some x) (Some y) = scale.sum_weight x y

  pub bound_laws : {S : Type 0} → Laws {C = Bound S} bound_leq (bound_sum sum) (bound_made most (pos 0)) (bound_weight weight)
  bound_laws = record {
    order = record {
      le_refl = λ a _. leq_refl a.limit;
      le_trans = λ a b c _. leq_trans a.limit b.limit c.limit;
      le_total = λ a b _. leq_total a.limit b.limit;
    };
    sums = record {
      sum_assoc = λ a b c _. alike (bound_sum sum (bound_sum sum a b) c) (bound_sum sum a (bound_sum sum b c)) (ap bound_of (assoc a.limit b.limit c.limit));
      sum_comm = λ a b _. alike (bound_sum sum a b) (bound_sum sum b a) (ap bound_of (comm a.limit b.limit));
      sum_mono = λ a b c d _. mono a.limit b.limit c.limit d.limit;
      sum_zero = λ a _. alike (bound_sum sum a (bound_made most (pos 0))) a (ap bound_of (neutral a.limit));
    };
    light_zero = omega (arith, scale.most_weight (pos 0));
    light_sum = λ a b _. light a.limit b.limit;
  }
