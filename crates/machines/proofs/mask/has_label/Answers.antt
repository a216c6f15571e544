use Rattle.std.proofs.Common.{sym, arith, ne_eqb}
use Rattle.machines.specs.Automaton.{bit}
use Rattle.machines.specs.Laws.Masks.{bit_below}
use Rattle.machines.proofs.mask.has_label.Goals as goal

pub returns-then-label-gt31 : goal.returns-then-label-gt31
returns-then-label-gt31 c =
    sym (ne_eqb (bit c.args.mask c.args.label) 1 (λ on. omega (arith, bit_below 32 c.args.mask c.args.label c.ranges.mask.fits on)))
