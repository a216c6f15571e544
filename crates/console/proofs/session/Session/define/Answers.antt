use Rattle.std.proofs.Common.{rules}
use Rattle.console.proofs.Standing.{after_define, whole_define}
use Rattle.console.proofs.session.Session.define.Goals as goal

pub returns-else-is_err-clause-given : goal.returns-else-is_err-clause-given
returns-else-is_err-clause-given c = after_define c.bind-bound.result c.args.self.now c.bind-bound.new.self c.args.name.now c.args.part (search rules)

pub returns-else-is_err-clause-whole : goal.returns-else-is_err-clause-whole
returns-else-is_err-clause-whole c = whole_define c.bind-bound.result c.args.self.now c.bind-bound.new.self c.args.name.now c.args.part (search rules) (search rules)
