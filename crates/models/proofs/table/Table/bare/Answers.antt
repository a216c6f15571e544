use Rattle.std.proofs.Common.{refl, ap, rules}
use Rattle.models.specs.Numbers.{two_bytes}
use Rattle.models.specs.Format.{head_verdict, edges_verdict, verdict}
use Rattle.models.specs.Model.{places_from, places_of, widest, labels_of, model}
use Rattle.models.specs.Laws.Files.{lawful_from}
use Rattle.models.proofs.table.Table.bare.Goals as goal

pub unwrap-requires : goal.unwrap-requires
unfolding two_bytes head_verdict edges_verdict verdict
unwrap-requires c = search (rules, c.read.ensures.lawful.1 (lawful_from _ refl))

pub returns : goal.returns
unfolding two_bytes places_from places_of widest labels_of
returns c = ap model (rw c.unwrap.ensures at c.read.ensures.answer)
