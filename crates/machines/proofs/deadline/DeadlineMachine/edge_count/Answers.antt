use Rattle.std.proofs.Common.{◌∙◌}
use Rattle.machines.specs.Laws.Deadlines.{count_answer}
use Rattle.machines.proofs.deadline.DeadlineMachine.edge_count.Goals as goal

pub returns : goal.returns
returns c = let d = c.args.self.now in c.then_some.ensures ∙ count_answer d.a d.b d.m d.c d.ok.3 c.args.location
