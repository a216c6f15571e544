use Rattle.console.proofs.Standing.{after_join_parts, whole_join_parts}
use Rattle.console.proofs.session.Session.join_parts.Goals as goal

pub returns-clause-given : goal.returns-clause-given
returns-clause-given c = after_join_parts c.bind.result c.args.self.now c.bind.new.self c.args.name.now c.args.left c.args.right c.bind.ensures.parts c.bind.ensures.names

pub returns-clause-whole : goal.returns-clause-whole
returns-clause-whole c = whole_join_parts c.bind.result c.args.self.now c.bind.new.self c.args.name.now c.args.left c.args.right c.bind.ensures.parts c.bind.ensures.names c.bind.ensures.err
