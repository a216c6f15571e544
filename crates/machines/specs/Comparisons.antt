-- The number and the sign of each comparison, and an atom as numbers.
use Rattle.std.specs.Prelude.{ℕ, zero, suc, List, codes}
use Rattle.machines.specs.declared.atom.Atom.{Atom}
use Rattle.machines.specs.declared.comparison.Comparison.{Comparison}
use Rattle.machines.specs.declared.comparison.Comparison.TheVariants.{Below, AtMost, Above, AtLeast}

abbrev pub code : Comparison → ℕ
code Below = 0
code AtMost = 1
code Above = 2
code AtLeast = 3

-- the comparison of a number: any above 2 is at least
abbrev pub coded : ℕ → Comparison
coded zero = Below
coded (suc zero) = AtMost
coded (suc (suc zero)) = Above
coded (suc (suc (suc n))) = AtLeast

abbrev pub sign_of : Comparison → List ℕ
sign_of Below = codes "<"
sign_of AtMost = codes "<="
sign_of Above = codes ">"
sign_of AtLeast = codes ">="

-- the clock, comparison and constant of an atom, as an automaton has them
abbrev pub numbers_of : Atom → ℕ × ℕ × ℕ
numbers_of a = (a.clock, code a.comparison, a.constant)
