-- A timed automaton, as a list of edges for each location, and what each question about one answers.
use Rattle.std.specs.Prelude.{◌≡◌, ℕ, ◌+◌, ◌/◌, ◌%◌, ◌^◌, ◌<◌, ◌≤◌, Bool, cond, List, [], ◌∷◌, length, Some, None, Option, ◌==◌, slice_index_or}
use Rattle.std.specs.List.{slice_get}
use Rattle.std.specs.Option.{option_map}

-- The comparison of a clock with a constant: 0 is <, 1 is ≤, 2 is > and 3 is ≥. The constant is in ticks.
pub record Atom : Type 0 where
  pub clock : ℕ
  pub comparison : ℕ
  pub constant : ℕ

-- Bit i of resets is set where clock i is reset.
pub record Edge : Type 0 where
  pub label : ℕ
  pub target : ℕ
  pub resets : ℕ
  pub atoms : List Atom

-- Location 0 is the start. Bit i of labels is set where an edge has label i.
pub record Automaton : Type 0 where
  pub locations : ℕ
  pub clocks : ℕ
  pub width : ℕ
  pub labels : ℕ
  pub edges : List (List Edge)

-- bit i of n
abbrev pub bit : ℕ → ℕ → ℕ
bit n i = n / 2 ^ i % 2

-- whether the mask has i
abbrev pub has : ℕ → ℕ → Bool
has mask i = bit mask i == 1

-- the edges that leave location l, none past the end
abbrev pub leaving : Automaton → ℕ → List Edge
leaving A l = slice_index_or A.edges l []

abbrev pub edge_at : Automaton → ℕ → ℕ → Option Edge
edge_at A l k = slice_get (leaving A l) k

-- ---- what the questions answer

abbrev pub edge_count : Automaton → ℕ → Option ℕ
edge_count A l = option_map length (slice_get A.edges l)

abbrev pub head : Edge → ℕ × ℕ × ℕ × ℕ
head e = (e.label, e.target, e.resets, length e.atoms)

abbrev pub head_at : Automaton → ℕ → ℕ → Option (ℕ × ℕ × ℕ × ℕ)
head_at A l k = option_map head (edge_at A l k)

abbrev pub parts : Atom → ℕ × ℕ × ℕ
parts a = (a.clock, a.comparison, a.constant)

abbrev pub atom_of : Option Edge → ℕ → Option (ℕ × ℕ × ℕ)
atom_of None i = None
atom_of (Some e) i = option_map parts (slice_get e.atoms i)

abbrev pub atom_at : Automaton → ℕ → ℕ → ℕ → Option (ℕ × ℕ × ℕ)
atom_at A l k i = atom_of (edge_at A l k) i

-- ---- the ranges

-- how many atoms are on clock x
abbrev pub on_clock : ℕ → List Atom → ℕ
on_clock x [] = 0
on_clock x (a ∷ more) = cond (a.clock == x) 1 0 + on_clock x more

pub record LawfulAtom (A : Automaton) (a : Atom) : Type 0 where
  pub clock_exists : a.clock < A.clocks
  pub comparison_range : a.comparison < 4
  pub constant_range : a.constant ≤ 100000

pub record LawfulEdge (A : Automaton) (e : Edge) : Type 0 where
  pub label_range : e.label < 32
  pub label_listed : bit A.labels e.label ≡ 1
  pub target_exists : e.target < A.locations
  pub resets_exist : e.resets < 2 ^ A.clocks
  pub atoms_lawful : (i : ℕ) (a : Atom) → slice_get e.atoms i ≡ Some a → LawfulAtom A a
  pub few_atoms : (x : ℕ) → on_clock x e.atoms ≤ 4

-- label b belongs to A: an edge with it, and where that stands
pub record Carried (A : Automaton) (b : ℕ) : Type 0 where
  pub location : ℕ
  pub index : ℕ
  pub edge : Edge
  pub stands : edge_at A location index ≡ Some edge
  pub carries : edge.label ≡ b

pub record Lawful (A : Automaton) : Type 0 where
  pub some_location : 1 ≤ A.locations
  pub few_locations : A.locations ≤ 65536
  pub each_location : length A.edges ≡ A.locations
  pub few_clocks : A.clocks ≤ 6
  pub width_range : A.width ≤ 65535
  pub wide_enough : (l : ℕ) → length (leaving A l) ≤ A.width
  pub edges_lawful : (l k : ℕ) (e : Edge) → edge_at A l k ≡ Some e → LawfulEdge A e
  pub labels_range : A.labels < 2 ^ 32
  pub labels_carried : (b : ℕ) → bit A.labels b ≡ 1 → Carried A b

-- one location and nothing else
abbrev pub bare : Automaton
bare = record { locations = 1; clocks = 0; width = 0; labels = 0; edges = [] ∷ [] }
