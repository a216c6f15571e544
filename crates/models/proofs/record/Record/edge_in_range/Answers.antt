use Rattle.std.proofs.Common.{ℕ, rules, tests, arith}
use Rattle.std.proofs.lemmas.Iterator.{YieldsList-from_range}
use Rattle.std.proofs.lemmas.Iterator.Search.{all_from_yields_List}
use Rattle.models.specs.Format.{atom_in_range, place_of_atom}
use Rattle.models.proofs.record.Record.edge_in_range.Goals as goal

pub returns-then-count-le4 : goal.returns-then-count-le4
returns-then-count-le4 c =
    let test = λ (i : ℕ). atom_in_range c.args.self.now.bytes.now (place_of_atom c.args.self.now.at i) in
    let atoms = all_from_yields_List test _ _ c.all.result c.all.ensures.ran (YieldsList-from_range 0 c.count-then-count-le4.result c.count-then-count-le4.result (cc) (omega arith)) (λ i b q k. search (rules, tests)) in
    search (rules, tests, atoms)
