use Rattle.std.proofs.Common.{sym, eqb-true}
use Rattle.machines.specs.Automaton.{bit}
use Rattle.machines.specs.Laws.Masks.{bit_below}
use Rattle.machines.proofs.deadline.Deadline.new.Goals as goal

pub invariant_of-result : goal.invariant_of-result
invariant_of-result c =
    let small = c.ranges.m.fits in
    let on-a = eqb-true (bit c.args.m c.args.a) 1 (sym c.if-not-has_label.ensures) in
    let on-b = eqb-true (bit c.args.m c.args.b) 1 (sym c.if-not-has_label-2.ensures) in
    record { ok = (c.if-a-b.false, (bit_below 32 _ _ small on-a, on-a), (bit_below 32 _ _ small on-b, on-b), small, c.if-c-gt100000.false) }
