use Rattle.std.proofs.Common.{◌≡◌, ℕ, ◌<◌, ◌≤◌, length, slice_index}
use Rattle.models.specs.Format.{from_of}
use Rattle.models.specs.Model.{below}
use Rattle.models.proofs.edges.Edges.new.Given as goal

abbrev pub invariant-loop-l : goal.invariant-loop-l
invariant-loop-l l = record {
  done : (k : ℕ) → k < l.l → slice_index l.slot-items k ≡ below l.bytes k;
  within : l.count ≤ length l.places.items;
  known : (k : ℕ) → k < l.count → from_of l.bytes (slice_index l.places.items k) < l.l;
}
