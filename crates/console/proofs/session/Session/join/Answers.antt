use Rattle.std.proofs.Common.{rules}
use Rattle.console.proofs.Standing.{ok_join, after_join, whole_join}
use Rattle.console.proofs.session.Session.join.Goals as goal

pub returns-else-is_err-clause-ok : goal.returns-else-is_err-clause-ok
returns-else-is_err-clause-ok c = ok_join c.join_new-joined.result c.args.self.now c.join_new-joined.new.self c.args.name.now c.in_ok-left.left c.in_ok-right.right c.args.left.value c.args.right.value c.join_new-joined.ensures.ok c.in_ok-left.ensures c.in_ok-right.ensures

pub returns-else-is_err-clause-given : goal.returns-else-is_err-clause-given
returns-else-is_err-clause-given c = after_join c.join_new-joined.result c.args.self.now c.join_new-joined.new.self c.args.name.now c.in_ok-left.left c.in_ok-right.right c.args.left.value c.args.right.value c.join_new-joined.ensures.ok c.in_ok-left.ensures c.in_ok-right.ensures

pub returns-else-is_err-clause-whole : goal.returns-else-is_err-clause-whole
returns-else-is_err-clause-whole c = whole_join c.join_new-joined.result c.args.self.now c.join_new-joined.new.self c.args.name.now c.in_ok-left.left c.in_ok-right.right c.args.left.value c.args.right.value c.join_new-joined.ensures.ok c.in_ok-left.ensures c.in_ok-right.ensures (search rules)
