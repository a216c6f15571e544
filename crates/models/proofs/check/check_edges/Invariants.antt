use Rattle.std.proofs.Common.{◌≡◌, ◌-◌, ◌≤◌, ◌++◌, length}
use Rattle.models.specs.Format.{edges_verdict}
use Rattle.models.specs.Model.{places_from, places_of}
use Rattle.models.proofs.check.check_edges.Given as goal

-- what is left to check from here is the whole answer, and the places so far and those from here on are all
abbrev pub invariant-loop-at : goal.invariant-loop-at
invariant-loop-at l = record {
  within : l.at ≤ length l.bytes;
  same : edges_verdict 1024 l.bytes 8 0 ≡ edges_verdict (1024 - length l.places.items) l.bytes l.at l.previous;
  all : l.places.items ++ places_from (1024 - length l.places.items) l.bytes l.at ≡ places_of l.bytes;
}

abbrev pub decreases-loop-at : goal.decreases-loop-at
decreases-loop-at l = length l.bytes - l.at
