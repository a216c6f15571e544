use Rattle.std.proofs.lemmas.Option.{slice_get-get_or}
use Rattle.models.specs.Laws.Questions.{place_within}
use Rattle.models.proofs.table.Table.edge.Goals as goal

pub returns-clause-within : goal.returns-clause-within
returns-clause-within c =
    let bs = c.args.self.now.edges.bytes.now in
    let found = c.in_ok-at.ensures.lookup in
    let read = slice_get-get_or c.leaving.result.now c.args.k c.in_ok-at.at.now found.3.0 in
    place_within bs c.args.self.now.edges.accepted c.args.location c.args.k c.record.result.at (cc)
