-- What follows from the laws for every reading.
use Rattle.std.proofs.Common.{◌≡◌, ℕ, ◌+◌, ◌<◌, ◌≤◌, Bool, true, false, [], ◌∷◌, ℤ, pos, ◌+ℤ◌, ◌-ℤ◌, ◌*ℤ◌, neg_ℤ, nat_abs, ◌≤ℤ◌, ◌<ℤ◌, Option, sym, refl, ap, ◌∙◌, ⊎_elim, mul-le-mul_right, arith}
use borrow.Author.Differences.{up, down}
use Rattle.std.proofs.Math.IntN.{zero-*ℤ}
use Rattle.std.proofs.lemmas.Int.{ints, by_lt_z}
use Rattle.std.proofs.lemmas.Bool.{cases_lt, cases_Bool, both_ways, and_parts}
use Rattle.bounds.specs.Keeps.{Keeps, Grid, Made, limit}
use Rattle.bounds.specs.Laws.{Laws}
use Rattle.bounds.specs.Facts.{BelowZero, OppositeNumber, Room, NoRoom}

-- c × N and c × N − 1 have one sign at all grids
sign_most : (c : ℤ) (N M : ℕ) → 0 < N → pos 0 ≤ℤ (c *ℤ pos N) → pos 0 ≤ℤ (c *ℤ pos M)
sign_most c N M h p =
    ⊎_elim
    (λ (low : up c < down c). let times = mul-le-mul_right N low in omega (arith, ints))
    (λ (high : down c ≤ up c). let times = mul-le-mul_right M high in omega (arith, ints))
    (cases_lt (up c) (down c))

sign_below : (c : ℤ) (N M : ℕ) → 0 < M → pos 0 ≤ℤ (c *ℤ pos N -ℤ pos 1) → pos 0 ≤ℤ (c *ℤ pos M -ℤ pos 1)
sign_below c N M h p =
    ⊎_elim
    (λ (high : down c < up c). let times = mul-le-mul_right M high in omega (arith, ints))
    (λ (low : up c ≤ down c). let times = mul-le-mul_right N low in omega (arith, ints))
    (cases_lt (down c) (up c))

module _ {C : Type 0} {leq : C → C → Bool} {sum : C → C → C} {zero : C} {weight : C → ℕ} {Counts : ℕ → Type 0} {limited : C → Bool} {greatest : C → ℕ → ℤ} {most below : ℤ → C} {free : C} {opposite : C → C} {code : C → ℤ} {read : ℤ → Option C} (laws : Laws leq sum zero weight) (K : Keeps leq sum zero weight Counts limited greatest most below free opposite code read) where
  pub zero_limited : limited zero ≡ true
  zero_limited = ap limited K.fourth.zero_made ∙ K.bounds.most_limited (pos 0) (omega arith)

  pub zero_greatest : (N : ℕ) → Grid Counts N → greatest zero N ≡ pos 0
  zero_greatest N g = ap (λ z. greatest z N) K.fourth.zero_made ∙ (K.second (pos 0) (omega arith) N g).0 ∙ zero-*ℤ (pos N)

  -- no limit is below nothing
  pub not_free : (b : C) → weight b ≤ limit → (a : C) → weight a ≤ limit → leq a b ≡ false → limited b ≡ true
  not_free b w a v h =
      ⊎_elim (λ (e : limited b ≡ true). e) (λ (e : limited b ≡ false). absurd (both_ways (leq a b) h (rw (K.bounds.free_only b w e) (K.third.free_above a v)))) (cases_Bool (limited b))

  -- what is not above a limited bound is limited
  pub not_free_below : (a b : C) → weight a + weight b ≤ limit → limited b ≡ true → leq a b ≡ true → limited a ≡ true
  not_free_below a b w bounded h =
      ⊎_elim (λ (e : limited a ≡ true). e) (λ (e : limited a ≡ false). absurd (both_ways (leq free b) (K.third.free_alone b (omega arith) bounded) (rw (K.bounds.free_only a (omega arith) e) at h))) (cases_Bool (limited a))

  one_sign : (b : C) (c : ℤ) → nat_abs c ≤ limit → Made most below b c → (N M : ℕ) → Grid Counts N → Grid Counts M → pos 0 ≤ℤ greatest b N → pos 0 ≤ℤ greatest b M
  one_sign b c w made N M g m p =
      let at-N = K.second c w N g in
      let at-M = K.second c w M m in
      ⊎_elim
      (λ (e : b ≡ most c).
      let here : pos 0 ≤ℤ (c *ℤ pos N) = rw (e, at-N.0) at p in
      rw (e, at-M.0) (sign_most c N M g.0 here))
      (λ (e : b ≡ below c).
      let here : pos 0 ≤ℤ (c *ℤ pos N -ℤ pos 1) = rw (e, at-N.1) at p in
      rw (e, at-M.1) (sign_below c N M m.0 here))
      made

  pub below_zero : BelowZero leq zero weight Counts greatest
  below_zero b w h N g =
      let light : weight zero + weight b ≤ limit = omega (arith, laws.light_zero) in
      let bounded = not_free b w zero (omega (arith, laws.light_zero)) h in
      let (c, small, made) = K.bounds.made b w bounded in
      by_lt_z (greatest b N) (pos 0) (λ (less : greatest b N <ℤ pos 0). less)
      (λ (more : pos 0 ≤ℤ greatest b N).
      absurd
      (both_ways (leq zero b) h
      ((K.third.exact zero b light zero_limited bounded).1 (λ M m. rw (zero_greatest M m) (one_sign b c (omega arith) made N M g m more)))))

  pub opposite_number : OppositeNumber weight Counts limited greatest opposite
  opposite_number b w e N g =
      let G = greatest b N in
      let H = greatest (opposite b) N in
      let low : (neg_ℤ G -ℤ pos 1) ≤ℤ H =
      ⊎_elim
      (λ (over : (G +ℤ pos 1) ≤ℤ G). omega (arith, ints))
      (λ (meets : neg_ℤ (G +ℤ pos 1) ≤ℤ H). omega (arith, ints))
      (K.fifth.one_meets b w e N g (G +ℤ pos 1)) in
      by_lt_z H (neg_ℤ G) (λ (high : H <ℤ neg_ℤ G). omega (arith, ints)) (λ (over : neg_ℤ G ≤ℤ H). absurd (K.fifth.never_both b w e N g G (omega (arith, ints)) over))

  pub room : Room leq sum zero weight opposite
  room b b' w h =
      let bounded' = not_free b' (omega arith) b (omega arith) h in
      let o = opposite b' in
      let o-limited : limited o ≡ true = K.fifth.opposite_limited b' (omega arith) bounded' in
      let o-light : weight o ≤ weight b' + 1 = K.fifth.opposite_weight b' (omega arith) bounded' in
      let light : weight b + weight o ≤ limit = omega arith in
      let s-light : weight (sum b o) ≤ weight b + weight o = laws.light_sum b o light in
      let s-weight : weight (sum b o) ≤ limit = omega arith in
      let z-weight : weight zero ≤ limit = omega (arith, laws.light_zero) in
      ⊎_elim
      (λ (e : leq zero (sum b o) ≡ true). e)
      (λ (e : leq zero (sum b o) ≡ false).
      let s-limited = not_free (sum b o) s-weight zero z-weight e in
      let b-limited = (and_parts (limited b) (limited o) (sym (K.fourth.sum_limited b o light) ∙ s-limited)).0 in
      absurd
      (both_ways (leq b b') h
      ((K.third.exact b b' (omega arith) b-limited bounded').1
      (λ N g.
      let less : greatest (sum b o) N <ℤ pos 0 = below_zero (sum b o) s-weight e N g in
      let parts : (greatest b N +ℤ greatest o N) ≤ℤ greatest (sum b o) N = K.fourth.sum_greatest b o light b-limited o-limited N g in
      let turned : greatest o N ≡ neg_ℤ (greatest b' N) -ℤ pos 1 = opposite_number b' (omega arith) bounded' N g in
      omega (arith, ints)))))
      (cases_Bool (leq zero (sum b o)))

  pub no_room : NoRoom leq sum zero weight limited opposite
  no_room b b' w bounded' h =
      let o = opposite b' in
      let o-limited : limited o ≡ true = K.fifth.opposite_limited b' (omega arith) bounded' in
      let o-light : weight o ≤ weight b' + 1 = K.fifth.opposite_weight b' (omega arith) bounded' in
      let z-light : weight zero ≡ 0 = laws.light_zero in
      let oz-light : weight (sum o zero) ≤ weight o + weight zero = laws.light_sum o zero (omega arith) in
      let s-light : weight (sum b o) ≤ weight b + weight o = laws.light_sum b o (omega arith) in
      let t-light : weight (sum b (sum o zero)) ≤ weight b + weight (sum o zero) = laws.light_sum b (sum o zero) (omega arith) in
      let b-limited : limited b ≡ true = not_free_below b b' (omega arith) bounded' h in
      let grows : leq (sum b o) (sum b (sum o zero)) ≡ true =
      laws.sums.sum_mono b o b (sum o zero) (omega arith) (laws.order.le_refl b (omega arith)) (laws.sums.sum_zero o (omega arith)).1 in
      let (N, g, _, enough) = K.sixth 2 (omega arith) in
      ⊎_elim
      (λ (e : leq zero (sum b o) ≡ true).
      let least : leq zero (sum b (sum o zero)) ≡ true = laws.order.le_trans zero (sum b o) (sum b (sum o zero)) (omega arith) e grows in
      let adds : pos 0 ≤ℤ (greatest b N +ℤ (greatest o N +ℤ pos 0)) = enough (b ∷ o ∷ []) refl (omega arith) (b-limited, (o-limited, tt)) least in
      let turned : greatest o N ≡ neg_ℤ (greatest b' N) -ℤ pos 1 = opposite_number b' (omega arith) bounded' N g in
      let less : greatest b N ≤ℤ greatest b' N = (K.third.exact b b' (omega arith) b-limited bounded').0 h N g in
      absurd (omega (arith, ints)))
      (λ (e : leq zero (sum b o) ≡ false). e)
      (cases_Bool (leq zero (sum b o)))
