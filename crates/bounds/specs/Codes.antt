-- What codes and greatest numbers give: bounds that are read back have different codes, greatest numbers that add to −1 are opposite, and multiples of a constant are in its order.
use Rattle.std.specs.Prelude.{◌≡◌, ℕ, ◌+◌, ◌≤◌, Bool, true, ◌⊎◌, ℤ, pos, ◌-ℤ◌, ◌*ℤ◌, neg_ℤ, ◌≤ℤ◌, ◌<ℤ◌, Some, Option, ◌≢◌}
use Rattle.std.proofs.Common.{sym, ◌∙◌, ap, inl, inr, arith, mul-le-mul_right}
use borrow.Author.Differences.{up, down}
use Rattle.std.proofs.lemmas.Int.{ints, by_lt_z}
use Rattle.std.proofs.lemmas.Option.{same_Some}
use Rattle.bounds.specs.Keeps.{Alike}

pub read_differ : {C : Type 0} (leq : C → C → Bool) (code : C → ℤ) (read : ℤ → Option C) (a b : C) → read (code a) ≡ Some a → read (code b) ≡ Some b → leq a a ≡ true → (Alike leq a b → ⊥) → code a ≢ code b
read_differ leq code read a b p q r apart same =
    let one : b ≡ a = same_Some b a (sym q ∙ ap read (sym same) ∙ p) in
    apart (rw one (r, r))

pub opposites_meet : (g h d : ℤ) → h ≡ neg_ℤ g -ℤ pos 1 → (d ≤ℤ g) ⊎ (neg_ℤ d ≤ℤ h)
opposites_meet g h d e = by_lt_z g d (λ (over : g <ℤ d). inr (omega (arith, ints))) (λ (within : d ≤ℤ g). inl within)

pub opposites_part : (g h d : ℤ) → h ≡ neg_ℤ g -ℤ pos 1 → d ≤ℤ g → neg_ℤ d ≤ℤ h → ⊥
opposites_part g h d e p q = omega (arith, ints)

-- at grid 1
pub once : (x : ℤ) (N : ℕ) → N ≡ 1 → x *ℤ pos N ≡ x
once x N e = rw e (omega (arith, ints))

-- a lower constant has a lower multiple at each grid, by the grid or more
pub times_order : (c d : ℤ) (N : ℕ) → c ≤ℤ d → (c *ℤ pos N) ≤ℤ (d *ℤ pos N)
times_order c d N h =
    let apart : up c + down d ≤ up d + down c = omega (arith, ints) in
    let times = mul-le-mul_right N apart in
    omega (arith, ints)

pub times_apart : (c d : ℤ) (N : ℕ) → c <ℤ d → 1 ≤ N → (c *ℤ pos N) ≤ℤ (d *ℤ pos N -ℤ pos 1)
times_apart c d N h k =
    let apart : up c + 1 + down d ≤ up d + down c = omega (arith, ints) in
    let times = mul-le-mul_right N apart in
    omega (arith, ints)
