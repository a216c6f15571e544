use Rattle.std.proofs.Common.{ℕ, rules, tests, arith}
use Rattle.std.proofs.lemmas.Iterator.{YieldsList-from_range}
use Rattle.std.proofs.lemmas.Iterator.Search.{all_from_yields_List}
use Rattle.models.specs.Format.{atom_has_shape, place_of_atom}
use Rattle.models.proofs.record.Record.edge_has_shape.Goals as goal

pub returns-then-spare-eq0 : goal.returns-then-spare-eq0
returns-then-spare-eq0 c =
    let test = λ (i : ℕ). atom_has_shape c.args.self.now.bytes.now (place_of_atom c.args.self.now.at i) in
    let atoms = all_from_yields_List test _ _ c.all.result c.all.ensures.ran (YieldsList-from_range 0 c.count-then-spare-eq0.result c.count-then-spare-eq0.result (cc) (omega arith)) (λ i b q k. search (rules, tests)) in
    search (rules, tests, atoms)
