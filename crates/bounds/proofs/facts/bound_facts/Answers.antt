use Rattle.bounds.proofs.FromLaws.{below_zero, opposite_number, room, no_room}
use Rattle.bounds.proofs.facts.bound_facts.Goals as goal

pub returns : goal.returns
returns g c =
    let laws = g.met.R.Cell.lawful in
    let K = g.met.R.Reading.keeps in
    record { below_zero = below_zero laws K; opposite_number = opposite_number laws K; room = room laws K; no_room = no_room laws K }
