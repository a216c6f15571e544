-- The deadline automaton: from a label a, and until the next b, that b included, labels come only within c ticks of that a; a further
-- a does not start the time anew.
use Rattle.std.specs.Prelude.{◌≡◌, ℕ, ◌^◌, ◌<◌, ◌≤◌, cond, List, [], ◌∷◌, map, filter, ◌==◌, ◌≢◌, count_ones}
use Rattle.std.specs.List.{range_with_len}
use Rattle.machines.specs.Automaton.{Atom, Edge, Automaton, bit, has}

-- the labels of the mask, lowest first
unfoldable pub labels_in : ℕ → List ℕ
labels_in m = filter (has m) (range_with_len 0 32)

-- clock 0 is at most c
abbrev pub within : ℕ → Atom
within c = record { clock = 0; comparison = 1; constant = c }

abbrev pub idle_edge : ℕ → ℕ → Edge
idle_edge a l = record { label = l; target = cond (l == a) 1 0; resets = cond (l == a) 1 0; atoms = [] }

abbrev pub armed_edge : ℕ → ℕ → ℕ → Edge
armed_edge b c l = record { label = l; target = cond (l == b) 0 1; resets = 0; atoms = within c ∷ [] }

abbrev pub deadline : ℕ → ℕ → ℕ → ℕ → Automaton
deadline a b m c = record {
  locations = 2;
  clocks = 1;
  width = count_ones m;
  labels = m;
  edges = map (idle_edge a) (labels_in m) ∷ map (armed_edge b c) (labels_in m) ∷ [];
}

-- l is a label of the mask m
abbrev pub IsLabel : ℕ → ℕ → Type 0
IsLabel m l = (l < 32) × (bit m l ≡ 1)

-- what the four numbers of a deadline have to be
abbrev pub DeadlineArguments : ℕ → ℕ → ℕ → ℕ → Type 0
DeadlineArguments a b m c = (a ≢ b) × IsLabel m a × IsLabel m b × (m < 2 ^ 32) × (c ≤ 100000)
