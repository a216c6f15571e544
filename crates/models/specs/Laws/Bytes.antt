-- Past the end every number is 0.
use Rattle.std.specs.Prelude.{◌≡◌, ℕ, ◌+◌, ◌≤◌, List, length}
use Rattle.std.proofs.Common.{arith}
use Rattle.std.proofs.lemmas.List.{get_or_past}
use Rattle.models.specs.Numbers.{two_bytes, four_bytes}

pub two_past : (bs : List ℕ) (at : ℕ) → length bs ≤ at → two_bytes bs at ≡ 0
unfolding two_bytes
two_past bs at h = omega (arith, get_or_past bs at 0 h, get_or_past bs (at + 1) 0 (omega arith))

pub four_past : (bs : List ℕ) (at : ℕ) → length bs ≤ at → four_bytes bs at ≡ 0
unfolding four_bytes
four_past bs at h = omega (arith, two_past bs at h, two_past bs (at + 2) (omega arith))
