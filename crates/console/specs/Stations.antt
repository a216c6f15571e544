-- The machines that a script makes, and what they are answered.
use Rattle.std.specs.Prelude.{◌≡◌, ℕ, true, false, cond, List, length, is_ok, Ok, Err, vec_items, Result, MatchResult}
use Rattle.std.specs.Borrow.{Bor}
use Rattle.machines.specs.Automaton.{Automaton, bare}
use Rattle.machines.specs.Deadline.{deadline}
use Rattle.models.specs.Format.{verdict}
use Rattle.models.specs.Model.{model, places_of}
use Rattle.machines.specs.declared.machine.Summary.{Summary}
use Rattle.machines.specs.declared.refusal.Refusal.{Refusal}
use Rattle.machines.specs.Refusals.{Refused}
use Rattle.pairs.specs.Product.{fits_limits, pair_of, product}
use Rattle.machines.specs.declared.choice.Choice.{Choice}
use Rattle.machines.specs.declared.choice.Choice.TheVariants.{Both, First, Second}
use Rattle.machines.specs.declared.deadline.Deadline.{Deadline}
use Rattle.models.specs.declared.table.Table.{Table}
use Rattle.pairs.specs.declared.pair.Pair.{Pair}
use Rattle.console.specs.declared.part.Part.{Part}
use Rattle.console.specs.declared.part.Part.TheVariants as part
use Rattle.console.specs.declared.named.Named.{Named}
use Rattle.console.specs.declared.named.Named.TheVariants as named

-- the automaton that the file or the deadline says; one bare location where the file is refused
abbrev pub part_automaton : Part → Automaton
part_automaton part.Bare = bare
part_automaton (part.Table file) = cond (is_ok (verdict (vec_items file))) (model (vec_items file)) bare
part_automaton (part.Deadline d) = deadline d.a d.b d.m d.c

-- the automaton of a part, or of the pair of two
abbrev pub named_automaton : Named Part → Automaton
named_automaton (named.Part p) = part_automaton p
named_automaton (named.Pair l r) = pair_of (part_automaton l) (part_automaton r)

-- the automaton of a table or a deadline as machines
abbrev pub station_automaton : Choice Table Deadline → Automaton
station_automaton (First t) = model t.edges.bytes.now
station_automaton (Second d) = deadline d.a d.b d.m d.c
station_automaton (Both t d takes) = cond takes (deadline d.a d.b d.m d.c) (model t.edges.bytes.now)

-- and that of one, or of the pair of two
abbrev pub machine_automaton : Choice (Choice Table Deadline) (Pair (Choice Table Deadline) (Choice Table Deadline)) → Automaton
machine_automaton (First s) = station_automaton s
machine_automaton (Second p) = pair_of (station_automaton p.left) (station_automaton p.right)
machine_automaton (Both s p takes) = cond takes (pair_of (station_automaton p.left) (station_automaton p.right)) (station_automaton s)

-- the parts that are lent
abbrev pub lent : Named (Bor Part) → Named Part
lent (named.Part p) = named.Part p.now
lent (named.Pair l r) = named.Pair l.now r.now

-- the numbers of the automaton as a whole
abbrev pub Sums : Summary → Automaton → Type 0
Sums s A = (s.locations ≡ A.locations) × (s.clocks ≡ A.clocks) × (s.width ≡ A.width) × (s.labels ≡ A.labels)

-- what a model file is answered: the numbers of its machine and how many edges it has, or its refusal
abbrev pub ModelRead : List ℕ → Result (Summary × ℕ) Refusal → Type 0
ModelRead file r = MatchResult r (λ p. (verdict file ≡ Ok tt) × Sums p.0 (model file) × (p.1 ≡ length (places_of file))) (λ e. verdict file ≡ Err e)

-- what the pair of two automata is answered: its numbers, or 7 where it would be too large
abbrev pub Paired : Automaton → Automaton → Result Summary Refusal → Type 0
Paired A B r = MatchResult r (λ s. (fits_limits A B ≡ true) × Sums s (product A B)) (λ e. (fits_limits A B ≡ false) × Refused e 7 0)
