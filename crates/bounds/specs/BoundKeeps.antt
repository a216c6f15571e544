-- Bounds over any scale keep the six laws.
use Rattle.std.specs.Prelude.{◌≡◌, ℕ, ◌+◌, ◌≤◌, true, false, ◌&&◌, ◌↔◌, List, [], ◌∷◌, map, length, ℤ, pos, ◌+ℤ◌, ◌-ℤ◌, ◌*ℤ◌, neg_ℤ, ◌≤ℤ◌, ◌<ℤ◌, Some, None, Option, is_some, ◌≢◌, int_le, unsigned_abs, refl}
use Rattle.std.specs.Option.{option_map, option_map_or, unwrap_or}
use Rattle.std.proofs.Common.{sym, ◌∙◌, ap, inl, inr, ⊎_elim, arith}
use Rattle.std.proofs.lemmas.Int.{ints, by_lt_z}
use Rattle.std.proofs.lemmas.List.{length-map}
use Rattle.std.proofs.lemmas.Option.{none-some, same_Some}
use Rattle.std.proofs.lemmas.Bool.{cases_Bool, false_from_ne_true, and_from, true≢false, false≢true, and_parts}
use Rattle.std.proofs.lemmas.Bool.Decides.{Decides-int_eq}
use Rattle.std.specs.Ordering.{int_eq}
use Rattle.bounds.specs.declared.bound.Bound.{Bound}
use Rattle.bounds.specs.Keeps.{Keeps, Grid, Made, Filed, Alike, FourBytes, Each, total, totalℤ, widest}
use Rattle.bounds.specs.Codes.{read_differ, opposites_meet, opposites_part, times_order, times_apart}
use Rattle.bounds.specs.Scales.{Scaled, EnoughCodes, free_code, lowest, highest}
use Rattle.bounds.specs.Bounds.{limit_leq, limit_sum, bound_of, bound_leq, bound_sum, bound_weight, bound_limited, bound_greatest, bound_made, bound_free, bound_opposite, bound_code, bound_read, is_filed}
use Rattle.bounds.specs.BoundLaws.{in_order, alike, bound_laws}

-- ---- no limit, and limits
free_only : (a : Option ℤ) → is_some a ≡ false → a ≡ None
free_only None e = refl
free_only (Some x) e = absurd (true≢false e)

limited_is : (a : Option ℤ) → is_some a ≡ true → a ≡ Some (unwrap_or a free_code)
limited_is None e = absurd (false≢true e)
limited_is (Some x) e = refl

free_alone : (a : Option ℤ) → is_some a ≡ true → limit_leq None a ≡ false
free_alone None e = absurd (false≢true e)
free_alone (Some x) e = refl

tied : (a b : Option ℤ) → limit_leq a b ≡ true → limit_leq b a ≡ true → unwrap_or a free_code ≡ unwrap_or b free_code
tied None None p q = refl
tied None (Some y) p q = absurd (false≢true p)
tied (Some x) None p q = absurd (false≢true q)
tied (Some x) (Some y) p q = omega (arith, ints)

sum_limited : (sum : ℤ → ℤ → ℤ) (a b : Option ℤ) → is_some (limit_sum sum a b) ≡ (is_some a && is_some b)
sum_limited sum None b = refl
sum_limited sum (Some x) None = refl
sum_limited sum (Some x) (Some y) = refl

opposite_limited : (opposite : ℤ → ℤ) (a : Option ℤ) → is_some a ≡ true → is_some (option_map opposite a) ≡ true
opposite_limited opposite None e = e
opposite_limited opposite (Some x) e = refl

same_code : (x y : ℤ) → x ≤ℤ y → y ≤ℤ x → x ≡ y
same_code x y p q = omega (arith, ints)

module _ {Counts : ℕ → Type 0} {weight : ℤ → ℕ} {greatest : ℤ → ℕ → ℤ} {most below : ℤ → ℤ} {sum : ℤ → ℤ → ℤ} {opposite : ℤ → ℤ} (scale : Scaled Counts weight greatest most below sum opposite) where
  -- ---- the constant of a limit
  made_bound : {S : Type 0} (x c : ℤ) → Made most below x c → Made (bound_made {S = S} most) (bound_made below) (bound_of (Some x)) c
  made_bound x c (inl e) = inl (ap (λ y. bound_of (Some y)) e)
  made_bound x c (inr e) = inr (ap (λ y. bound_of (Some y)) e)

  made_law : {S : Type 0} (a : Option ℤ) → is_some a ≡ true → (c : ℤ) × (unsigned_abs c ≤ option_map_or weight a 0) × Made (bound_made {S = S} most) (bound_made below) (bound_of a) c
  made_law None e = absurd (false≢true e)
  made_law (Some x) e = let (c, small, made) = scale.made x in (c, small, made_bound x c made)

  -- ---- the codes that are read back
  -- the greatest numbers of 'at most c' and 'below c' are c × N and 1 less
  made_greatest : (x c : ℤ) → Made most below x c → (N : ℕ) → Grid Counts N → ((c *ℤ pos N -ℤ pos 1) ≤ℤ greatest x N) × (greatest x N ≤ℤ (c *ℤ pos N))
  made_greatest x c (inl e) N g = rw (e, scale.most_greatest c N g) (omega (arith, ints), omega (arith, ints))
  made_greatest x c (inr e) N g = rw (e, scale.below_greatest c N g) (omega (arith, ints), omega (arith, ints))

  -- 'below k' is no higher than a limit made from a constant of k or more, and no lower than one of less
  from_below : (x c k : ℤ) → Made most below x c → k ≤ℤ c → below k ≤ℤ x
  from_below x c k made h =
      (scale.exact (below k) x).1 (λ N g. rw (scale.below_greatest k N g) (omega (arith, ints, (made_greatest x c made N g).0, times_order k c N h)))

  to_below : (x c k : ℤ) → Made most below x c → c <ℤ k → x ≤ℤ below k
  to_below x c k made h =
      (scale.exact x (below k)).1 (λ N g. rw (scale.below_greatest k N g) (omega (arith, ints, (made_greatest x c made N g).1, times_apart c k N h g.0)))

  -- the same of 'at most k'
  to_most : (x c k : ℤ) → Made most below x c → c ≤ℤ k → x ≤ℤ most k
  to_most x c k made h =
      (scale.exact x (most k)).1 (λ N g. rw (scale.most_greatest k N g) (omega (arith, ints, (made_greatest x c made N g).1, times_order c k N h)))

  from_most : (x c k : ℤ) → Made most below x c → k <ℤ c → most k ≤ℤ x
  from_most x c k made h =
      (scale.exact (most k) x).1 (λ N g. rw (scale.most_greatest k N g) (omega (arith, ints, (made_greatest x c made N g).0, times_apart k c N h g.0)))

  -- a limit that is read back is made from a constant within ±1,000,000
  near_made : (x c : ℤ) → Made most below x c → lowest below ≤ℤ x → x ≤ℤ highest most → (k : ℤ) × (unsigned_abs k ≤ widest) × Made most below x k
  near_made x c made low high =
      let wide = pos widest in
      by_lt_z c (neg_ℤ wide)
      (λ (less : c <ℤ neg_ℤ wide). (neg_ℤ wide, omega (arith, ints), inr (same_code x (lowest below) (to_below x c (neg_ℤ wide) made less) low)))
      (λ (more : neg_ℤ wide ≤ℤ c).
      by_lt_z wide c
      (λ (over : wide <ℤ c). (wide, omega (arith, ints), inl (same_code x (highest most) high (from_most x c wide made over))))
      (λ (within : c ≤ℤ wide). (c, omega (arith, ints), made)))

  made_read : {S : Type 0} (x c : ℤ) → Made most below x c → unsigned_abs c ≤ widest → FourBytes x × (bound_read {S = S} most below x ≡ Some (bound_of (Some x)))
  made_read x c made w =
      let low = from_below x c (neg_ℤ (pos widest)) made (omega (arith, ints)) in
      let high = to_most x c (pos widest) made (omega (arith, ints)) in
      let limited : int_eq x free_code ≡ false = false_from_ne_true (int_eq x free_code) (λ e. omega (arith, ints, scale.highest_fits, (Decides-int_eq x free_code).0 e)) in
      let filed : is_filed most below x ≡ true = and_from (int_le (lowest below) x) (int_le x (highest most)) (in_order (lowest below) x low) (in_order x (highest most) high) in
      ((omega (arith, ints, scale.lowest_fits), omega (arith, ints, scale.highest_fits)), rw (limited, filed) refl)

  filed_law : {S : Type 0} (b : Bound S) → Filed (bound_made most) (bound_made below) bound_free b → FourBytes (bound_code b) × (bound_read most below (bound_code b) ≡ Some b)
  filed_law b (inl e) = rw e ((omega (arith, ints), omega (arith, ints)), refl)
  filed_law b (inr (c, w, inl e)) = rw e (made_read (most c) c (inl refl) w)
  filed_law b (inr (c, w, inr e)) = rw e (made_read (below c) c (inr refl) w)

  differ_law : {S : Type 0} (a b : Bound S) → Filed (bound_made most) (bound_made below) bound_free a → Filed (bound_made most) (bound_made below) bound_free b → (Alike bound_leq a b → ⊥) → bound_code a ≢ bound_code b
  differ_law a b f g = read_differ bound_leq bound_code (bound_read most below) a b (filed_law a f).1 (filed_law b g).1 (alike a a refl).0

  filed_limit : {S : Type 0} (x : ℤ) → is_filed most below x ≡ true → Filed (bound_made {S = S} most) (bound_made below) bound_free (bound_of (Some x))
  filed_limit x filed =
      let (low, high) = and_parts (int_le (lowest below) x) (int_le x (highest most)) filed in
      let (c, _, made) = scale.made x in
      let (k, small, near) = near_made x c made (omega (arith, ints, low)) (omega (arith, ints, high)) in
      inr (k, small, made_bound x k near)

  read_back : {S : Type 0} (z : ℤ) (b : Bound S) → bound_read most below z ≡ Some b → (bound_code b ≡ z) × Filed (bound_made most) (bound_made below) bound_free b
  read_back z b e =
      ⊎_elim
      (λ (free : int_eq z free_code ≡ true).
      let is_free : bound_free ≡ b = same_Some bound_free b (rw free at e) in
      rw (← is_free) (sym ((Decides-int_eq z free_code).0 free), inl refl))
      (λ (limited : int_eq z free_code ≡ false).
      ⊎_elim
      (λ (filed : is_filed most below z ≡ true).
      let is_limit : bound_of (Some z) ≡ b = same_Some (bound_of (Some z)) b (rw (limited, filed) at e) in
      rw (← is_limit) (refl, filed_limit z filed))
      (λ (past : is_filed most below z ≡ false). absurd (none-some b (rw (limited, past) at e)))
      (cases_Bool (is_filed most below z)))
      (cases_Bool (int_eq z free_code))

  -- ---- the greatest numbers
  abbrev greatest_of : Option ℤ → ℕ → ℤ
  greatest_of a N = option_map_or (λ x. greatest x N) a (pos 0)

  exact_law : (a b : Option ℤ) → is_some a ≡ true → is_some b ≡ true → (limit_leq a b ≡ true) ↔ ((N : ℕ) → Grid Counts N → greatest_of a N ≤ℤ greatest_of b N)
  exact_law a None e f = absurd (false≢true f)
  exact_law None (Some y) e f = absurd (false≢true e)
  exact_law (Some x) (Some y) e f = (λ p. (scale.exact x y).0 (omega (arith, ints)), λ all. in_order x y ((scale.exact x y).1 all))

  sum_greatest : (a b : Option ℤ) → is_some a ≡ true → is_some b ≡ true → (N : ℕ) → Grid Counts N → (greatest_of a N +ℤ greatest_of b N) ≤ℤ greatest_of (limit_sum sum a b) N
  sum_greatest a None e f N g = absurd (false≢true f)
  sum_greatest None (Some y) e f N g = absurd (false≢true e)
  sum_greatest (Some x) (Some y) e f N g = scale.sum_greatest x y N g

  opposite_weight : (a : Option ℤ) → is_some a ≡ true → option_map_or weight (option_map opposite a) 0 ≤ option_map_or weight a 0 + 1
  opposite_weight None e = absurd (false≢true e)
  opposite_weight (Some x) e = scale.opposite_weight x

  opposite_greatest : (a : Option ℤ) → is_some a ≡ true → (N : ℕ) → Grid Counts N → greatest_of (option_map opposite a) N ≡ neg_ℤ (greatest_of a N) -ℤ pos 1
  opposite_greatest None e N g = absurd (false≢true e)
  opposite_greatest (Some x) e N g = scale.opposite_greatest x N g

  -- ---- a grid that is fine enough
  totals : {S : Type 0} (bs : List (Bound S)) → Each bound_limited bs → total (bound_sum sum) (bound_made most (pos 0)) bs ≡ bound_of (Some (total sum (most (pos 0)) (map bound_code bs)))
  totals [] e = refl
  totals (b ∷ bs) e = rw (totals bs e.1) (ap (λ a. bound_of (limit_sum sum a (Some (total sum (most (pos 0)) (map bound_code bs))))) (limited_is b.limit e.0))

  numbers : {S : Type 0} (bs : List (Bound S)) (N : ℕ) → Each bound_limited bs → totalℤ (λ b. bound_greatest greatest b N) bs ≡ totalℤ (λ x. greatest x N) (map bound_code bs)
  numbers [] N e = refl
  numbers (b ∷ bs) N e = rw (numbers bs N e.1) (ap (λ a. greatest_of a N +ℤ totalℤ (λ x. greatest x N) (map bound_code bs)) (limited_is b.limit e.0))

  enough : {S : Type 0} (n N : ℕ) → EnoughCodes greatest most sum n N → (bs : List (Bound S)) → length bs ≡ n → Each bound_limited bs → bound_leq (bound_made most (pos 0)) (total (bound_sum sum) (bound_made most (pos 0)) bs) ≡ true → pos 0 ≤ℤ totalℤ (λ b. bound_greatest greatest b N) bs
  enough n N fine bs len each least =
      let known : int_le (most (pos 0)) (total sum (most (pos 0)) (map bound_code bs)) ≡ true = rw (totals bs each) at least in
      rw (numbers bs N each) (fine (map bound_code bs) (length-map bs bound_code ∙ len) (omega (arith, ints)))

  pub bound_keeps : {S : Type 0} → Keeps {C = Bound S} bound_leq (bound_sum sum) (bound_made most (pos 0)) (bound_weight weight) Counts bound_limited (bound_greatest greatest) (bound_made most) (bound_made below) bound_free (bound_opposite opposite) bound_code (bound_read most below)
  bound_keeps = record {
    bounds = record {
      free_limited = refl;
      free_weight = refl;
      free_only = λ b _ e. ap bound_of (free_only b.limit e);
      most_limited = λ c _. refl;
      most_weight = λ c _. scale.most_weight c;
      below_limited = λ c _. refl;
      below_weight = λ c _. scale.below_weight c;
      made = λ b _. made_law b.limit;
    };
    first = scale.first;
    second = λ c _ N g. (scale.most_greatest c N g, scale.below_greatest c N g);
    third = record {
      order = (bound_laws scale).order;
      free_above = λ b _. refl;
      free_alone = λ b _. free_alone b.limit;
      alike_code = λ a b _ e. tied a.limit b.limit e.0 e.1;
      code_fits = λ b f. (filed_law b f).0;
      codes_differ = differ_law;
      read_code = λ b f. (filed_law b f).1;
      read_only = λ z b _. read_back z b;
      exact = λ a b _. exact_law a.limit b.limit;
    };
    fourth = record {
      sums = (bound_laws scale).sums;
      zero_made = refl;
      sum_limited = λ a b _. sum_limited sum a.limit b.limit;
      sum_greatest = λ a b _. sum_greatest a.limit b.limit;
    };
    fifth = record {
      opposite_limited = λ b _. opposite_limited opposite b.limit;
      opposite_weight = λ b _. opposite_weight b.limit;
      one_meets = λ b _ e N g d. opposites_meet (bound_greatest greatest b N) (bound_greatest greatest (bound_opposite opposite b) N) d (opposite_greatest b.limit e N g);
      never_both = λ b _ e N g d. opposites_part (bound_greatest greatest b N) (bound_greatest greatest (bound_opposite opposite b) N) d (opposite_greatest b.limit e N g);
    };
    sixth = λ n h. let (N, g, small, fine) = scale.fine n h in (N, g, small, λ bs len _. enough n N fine bs len);
  }
