use Rattle.std.proofs.Common.{rules}
use Rattle.console.specs.Laws.Standing.{empty_whole}
use Rattle.console.proofs.session.Session.new.Goals as goal

pub returns-clause-whole : goal.returns-clause-whole
returns-clause-whole c = empty_whole _ (search rules)
