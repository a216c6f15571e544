-- The labels of a mask, lowest first.
use Rattle.std.specs.Prelude.{◌≡◌, ℕ, zero, suc, ◌+◌, ◌-◌, ◌*◌, ◌/◌, ◌%◌, ◌^◌, ◌<◌, true, cond, List, [], ◌∷◌, length, Some, filter, ◌==◌, bit_and, refl}
use Rattle.std.proofs.Common.{sym, ap, ap₂, ◌∙◌, inl, inr, pow-suc, zero-add, add-one, arith, eqb-true}
use Rattle.std.proofs.Math.Arith.{lt-one}
use Rattle.std.specs.Int.Bits.{and_step, and_self}
use Rattle.std.specs.Int.Count.{ones, count_trailing_zeros, ones_step}
use Rattle.std.proofs.lemmas.Nat.{shr-shr, and_le_l, ones_le_self}
use Rattle.std.proofs.lemmas.Nat.Bits.{bit_at_above}
use Rattle.std.proofs.lemmas.Bool.{cases_lt, eq-eqb}
use Rattle.std.proofs.lemmas.List.Elements.{All-filter, All-from_get_or, filter_passes}
use Rattle.std.proofs.lemmas.List.FromFn.{length-range_with_len, get_or-range_with_len}
use Rattle.std.proofs.lemmas.Option.{slice_get-get_or}
use Rattle.std.specs.List.{slice_get, range_with_len, fold, All}
use Rattle.machines.specs.Automaton.{bit, has}
use Rattle.machines.specs.Deadline.{labels_in, IsLabel}
use Rattle.machines.specs.Laws.Lists.{all_at, stands_kept}

-- a mask of n bits has no bit from n on
pub bit_below : (n m b : ℕ) → m < 2 ^ n → bit m b ≡ 1 → b < n
bit_below n m b small on = elim (cases_lt b n) [ inl lt ↦ lt | inr le ↦ absurd (omega (arith, bit_at_above m n b small le, on)) ]

-- among the d labels from i on the mask has as many as it has ones there
kept_ones : (d i m : ℕ) → m / 2 ^ i < 2 ^ d → length (filter (has m) (range_with_len i d)) ≡ ones (m / 2 ^ i)
unfolding ones
kept_ones zero i m small = sym (ap ones (lt-one small))
kept_ones (suc d) i m small =
    let next : m / 2 ^ (i + 1) ≡ m / 2 ^ i / 2 = sym (shr-shr m i 1) in
    let rest = kept_ones d (i + 1) m (omega (arith, next, pow-suc 2 d)) ∙ ap ones next in
    go (bit m i) refl (filter (has m) (range_with_len (i + 1) d)) rest
  where
    go : (r : ℕ) → bit m i ≡ r → (xs : List ℕ) → length xs ≡ ones (m / 2 ^ i / 2) → length (cond (r == 1) (i ∷ xs) xs) ≡ ones (m / 2 ^ i)
    go zero e xs h = omega (arith, h, e, ones_step (m / 2 ^ i))
    go (suc zero) e xs h = omega (arith, h, e, ones_step (m / 2 ^ i))
    go (suc (suc r)) e xs h = absurd (omega arith)

pub length-labels : (m : ℕ) → m < 2 ^ 32 → length (labels_in m) ≡ ones m
unfolding labels_in
length-labels m small = let whole : m / 2 ^ 0 ≡ m = omega arith in kept_ones 32 0 m (omega (arith, whole)) ∙ ap ones whole

below : (n : ℕ) → All (λ l. l < n) (range_with_len 0 n)
below n = All-from_get_or (λ l. l < n) (range_with_len 0 n) 0 (λ i lt.
    let inside : i < n = omega (arith, length-range_with_len 0 n) in omega (arith, get_or-range_with_len 0 n i 0 inside))

pub label_is_set : (m k l : ℕ) → slice_get (labels_in m) k ≡ Some l → IsLabel m l
unfolding labels_in
label_is_set m k l e = (
  all_at (λ l. l < 32) (labels_in m) k l (All-filter (has m) (λ l. l < 32) (range_with_len 0 32) (below 32)) e,
  eqb-true (bit m l) 1 (all_at (λ l. has m l ≡ true) (labels_in m) k l (filter_passes (has m) (range_with_len 0 32)) e),
)

pub set_is_label : (m b : ℕ) → IsLabel m b → (k : ℕ) × (slice_get (labels_in m) k ≡ Some b)
unfolding labels_in
set_is_label m b h =
    let there = slice_get-get_or (range_with_len 0 32) b 0 (omega (arith, h.0, length-range_with_len 0 32)) ∙ ap (λ n. Some n) (get_or-range_with_len 0 32 b 0 h.0 ∙ zero-add b) in
    stands_kept (has m) (range_with_len 0 32) b b (eq-eqb (bit m b) 1 h.1) there

-- i in front, where the digit is set
abbrev pick : ℕ → ℕ → List ℕ → List ℕ
pick zero i rest = rest
pick (suc d) i rest = i ∷ rest

-- the places of the set bits among the d lowest of m, lowest first, counted from i
abbrev set_bits : ℕ → ℕ → ℕ → List ℕ
set_bits zero i m = []
set_bits (suc d) i m = pick (m % 2) i (set_bits d (suc i) (m / 2))

-- they are the numbers that the mask has
kept_set_bits : (d i m : ℕ) → filter (has m) (range_with_len i d) ≡ set_bits d i (m / 2 ^ i)
kept_set_bits zero i m = refl
kept_set_bits (suc d) i m =
    let next : m / 2 ^ (i + 1) ≡ m / 2 ^ i / 2 = sym (shr-shr m i 1) in
    go (bit m i) refl (kept_set_bits d (i + 1) m ∙ ap₂ (set_bits d) (add-one i) next)
  where
    go : (r : ℕ) → bit m i ≡ r → filter (has m) (range_with_len (i + 1) d) ≡ set_bits d (suc i) (m / 2 ^ i / 2)
        → cond (r == 1) (i ∷ filter (has m) (range_with_len (i + 1) d)) (filter (has m) (range_with_len (i + 1) d)) ≡ pick r i (set_bits d (suc i) (m / 2 ^ i / 2))
    go zero e rest = rest
    go (suc zero) e rest = ap (λ xs. i ∷ xs) rest
    go (suc (suc r)) e rest = absurd (omega arith)

labels_set_bits : (m : ℕ) → labels_in m ≡ set_bits 32 0 m
unfolding labels_in
labels_set_bits m = let whole : m / 2 ^ 0 ≡ m = omega arith in kept_set_bits 32 0 m ∙ ap (set_bits 32 0) whole

-- the lowest set bit, and what is left where it is cleared
lowest : (d i x : ℕ) → 0 < x → x < 2 ^ d → set_bits d i x ≡ (i + count_trailing_zeros d x) ∷ set_bits d i (bit_and x (x - 1))
unfolding count_trailing_zeros
lowest zero i x some h = absurd (omega arith)
lowest (suc d) i x some h = go (x % 2) refl (lowest d (suc i) (x / 2))
  where
    go : (r : ℕ) → x % 2 ≡ r → (0 < x / 2 → x / 2 < 2 ^ d → set_bits d (suc i) (x / 2) ≡ (suc i + count_trailing_zeros d (x / 2)) ∷ set_bits d (suc i) (bit_and (x / 2) (x / 2 - 1)))
        → set_bits (suc d) i x ≡ (i + count_trailing_zeros (suc d) x) ∷ set_bits (suc d) i (bit_and x (x - 1))
    go zero e ih =
        let h1 : (x - 1) / 2 ≡ x / 2 - 1 = omega arith in
        let h2 : (x - 1) % 2 ≡ 1 = omega arith in
        let y : bit_and x (x - 1) ≡ bit_and (x / 2) (x / 2 - 1) * 2 = and_step x (x - 1) ∙ rw (e, h1, h2) (omega arith) in
        let y1 : bit_and x (x - 1) / 2 ≡ bit_and (x / 2) (x / 2 - 1) = omega (arith, y) in
        let y2 : bit_and x (x - 1) % 2 ≡ 0 = omega (arith, y) in
        rw (y1, y2, e) (ih (omega arith) (omega (arith, pow-suc 2 d)) ∙ ap (λ n. n ∷ set_bits d (suc i) (bit_and (x / 2) (x / 2 - 1))) (omega arith))
    go (suc zero) e ih =
        let h1 : (x - 1) / 2 ≡ x / 2 = omega arith in
        let h2 : (x - 1) % 2 ≡ 0 = omega arith in
        let y : bit_and x (x - 1) ≡ x / 2 * 2 = and_step x (x - 1) ∙ rw (e, h1, h2, and_self (x / 2)) (omega arith) in
        let y1 : bit_and x (x - 1) / 2 ≡ x / 2 = omega (arith, y) in
        let y2 : bit_and x (x - 1) % 2 ≡ 0 = omega (arith, y) in
        rw (y1, y2, e) (ap (λ n. n ∷ set_bits d (suc i) (x / 2)) (omega arith))
    go (suc (suc r)) e ih = absurd (omega arith)

lowest_label : (m : ℕ) → 0 < m → m < 2 ^ 32 → labels_in m ≡ count_trailing_zeros 32 m ∷ labels_in (bit_and m (m - 1))
lowest_label m some h =
    labels_set_bits m ∙ lowest 32 0 m some h ∙ ap₂ (λ n xs. n ∷ xs) (zero-add (count_trailing_zeros 32 m)) (sym (labels_set_bits (bit_and m (m - 1))))

-- a mask with its lowest label cleared
abbrev pub without_lowest : ℕ → ℕ
without_lowest m = bit_and m ((m + (2 ^ 32 - 1)) % 2 ^ 32)

-- with its k lowest labels cleared, a mask has its k-th label as its lowest
pub nth_label : (xs : List ℕ) (m : ℕ) → m < 2 ^ 32 → length xs < ones m → slice_get (labels_in m) (length xs) ≡ Some (count_trailing_zeros 32 (fold (λ n x. without_lowest n) m xs))
nth_label [] m small more = ap (λ ls. slice_get ls 0) (lowest_label m (omega (arith, ones_le_self m)) small)
nth_label (x ∷ xs) m small more =
    let some : 0 < m = omega (arith, ones_le_self m) in
    let less : (m + (2 ^ 32 - 1)) % 2 ^ 32 ≡ m - 1 = omega arith in
    let first = lowest_label m some small in
    let below : bit_and m (m - 1) < 2 ^ 32 = omega (arith, and_le_l m (m - 1)) in
    let left : length xs < ones (bit_and m (m - 1)) = omega (arith, ap length first, length-labels m small, length-labels (bit_and m (m - 1)) below) in
    ap (λ ls. slice_get ls (suc (length xs))) first ∙ rw less (nth_label xs (bit_and m (m - 1)) below left)
