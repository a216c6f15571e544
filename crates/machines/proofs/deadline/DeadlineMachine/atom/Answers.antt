use Rattle.std.proofs.Common.{arith}
use Rattle.machines.specs.Laws.Deadlines.{atom_answer, no_atom_answer}
use Rattle.machines.proofs.deadline.DeadlineMachine.atom.Goals as goal

pub returns-then-i-eq0 : goal.returns-then-i-eq0
returns-then-i-eq0 c =
    let d = c.args.self.now in atom_answer d.a d.b d.m d.c d.ok.3 _ _ _ c.if-location-eq1.true c.if-k-count.true c.if-i-eq0.true

pub returns-else-location-eq1 : goal.returns-else-location-eq1
returns-else-location-eq1 c =
    let d = c.args.self.now in no_atom_answer d.a d.b d.m d.c d.ok.3 c.args.location c.args.k c.args.i (omega (arith, c.else-location-eq1.either))
