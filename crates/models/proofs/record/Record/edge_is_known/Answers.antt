use Rattle.std.proofs.Common.{ℕ, rules, tests, arith}
use Rattle.std.proofs.lemmas.Iterator.{YieldsList-from_range}
use Rattle.std.proofs.lemmas.Iterator.Search.{all_from_yields_List}
use Rattle.models.specs.Format.{atom_is_known, place_of_atom}
use Rattle.models.proofs.record.Record.edge_is_known.Goals as goal

pub returns-then-resets_are_known : goal.returns-then-resets_are_known
returns-then-resets_are_known c =
    let test = λ (i : ℕ). atom_is_known c.args.self.now.bytes.now (place_of_atom c.args.self.now.at i) in
    let atoms = all_from_yields_List test _ _ c.all.result c.all.ensures.ran (YieldsList-from_range 0 c.count.result c.count.result (cc) (omega arith)) (λ i b q k. search (rules, tests)) in
    search (rules, tests, atoms)
