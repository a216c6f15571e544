-- What follows from the laws for every reading, while the constants stay small.
use Rattle.std.specs.Prelude.{◌≡◌, ℕ, ◌+◌, ◌*◌, ◌<◌, ◌≤◌, Bool, true, false, ℤ, pos, ◌-ℤ◌, neg_ℤ, ◌<ℤ◌}
use Rattle.bounds.specs.Keeps.{limit, Grid}

-- A bound below 'at most 0' has a negative greatest number at every counting grid.
abbrev pub BelowZero : {C : Type 0} → (C → C → Bool) → C → (C → ℕ) → (ℕ → Type 0) → (C → ℕ → ℤ) → Type 0
BelowZero {C = C} leq zero weight Counts greatest =
    (b : C) → weight b ≤ limit → leq zero b ≡ false → (N : ℕ) → Grid Counts N → greatest b N <ℤ pos 0

-- The opposite's greatest number is minus the bound's, minus 1, at every counting grid.
abbrev pub OppositeNumber : {C : Type 0} → (C → ℕ) → (ℕ → Type 0) → (C → Bool) → (C → ℕ → ℤ) → (C → C) → Type 0
OppositeNumber {C = C} weight Counts limited greatest opposite =
    (b : C) → weight b ≤ limit → limited b ≡ true → (N : ℕ) → Grid Counts N → greatest (opposite b) N ≡ neg_ℤ (greatest b N) -ℤ pos 1

-- Where b' is below b, b plus the opposite of b' is not below 'at most 0'.
abbrev pub Room : {C : Type 0} → (C → C → Bool) → (C → C → C) → C → (C → ℕ) → (C → C) → Type 0
Room {C = C} leq sum zero weight opposite =
    (b b' : C) → weight b + weight b' < limit → leq b b' ≡ false → leq zero (sum b (opposite b')) ≡ true

-- Where b is not above the limited b', it is.
abbrev pub NoRoom : {C : Type 0} → (C → C → Bool) → (C → C → C) → C → (C → ℕ) → (C → Bool) → (C → C) → Type 0
NoRoom {C = C} leq sum zero weight limited opposite =
    (b b' : C) → 2 * (weight b + weight b' + 1) ≤ limit → limited b' ≡ true → leq b b' ≡ true → leq zero (sum b (opposite b')) ≡ false
