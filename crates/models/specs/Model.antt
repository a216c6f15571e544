-- The automaton that a lawful file is.
use Rattle.std.specs.Prelude.{ℕ, zero, suc, ◌+◌, ◌^◌, max, cond, List, [], ◌∷◌, map, length, fold, filter, ◌==◌, bit_or, nat_eq, nat_lt}
use Rattle.std.specs.List.{range_with_len}
use Rattle.machines.specs.Automaton.{Atom, Edge, Automaton}
use Rattle.models.specs.Format.{size_of, locations_of, clocks_of, from_of, to_of, label_of, resets_of, count_of, place_of_atom, clock_of, comparison_of, constant_of}

-- the places of the edges from a place to the end of the file, at most `room` of them
unfoldable pub places_from : ℕ → List ℕ → ℕ → List ℕ
places_from zero bs at = []
places_from (suc room) bs at = cond (at == length bs) [] (at ∷ places_from room bs (at + size_of bs at))

-- the places of the edges, in the order of the file
unfoldable pub places_of : List ℕ → List ℕ
places_of bs = places_from 1024 bs 8

-- the places of the edges that leave location l, in the order of the file
abbrev pub places_at : List ℕ → ℕ → List ℕ
places_at bs l = filter (λ at. nat_eq (from_of bs at) l) (places_of bs)

-- how many edges leave a location below l
unfoldable pub below : List ℕ → ℕ → ℕ
below bs l = length (filter (λ at. nat_lt (from_of bs at) l) (places_of bs))

abbrev pub atom_read : List ℕ → ℕ → Atom
atom_read bs p = record { clock = clock_of bs p; comparison = comparison_of bs p; constant = constant_of bs p }

abbrev pub edge_read : List ℕ → ℕ → Edge
edge_read bs at = record {
  label = label_of bs at;
  target = to_of bs at;
  resets = resets_of bs at;
  atoms = map (λ i. atom_read bs (place_of_atom at i)) (range_with_len 0 (count_of bs at));
}

-- the largest number of edges that leave one of the first n locations
unfoldable pub widest : List ℕ → ℕ → ℕ
widest bs n = fold max 0 (map (λ l. length (places_at bs l)) (range_with_len 0 n))

-- the labels on edges, as a mask
unfoldable pub labels_of : List ℕ → ℕ
labels_of bs = fold (λ mask at. bit_or mask (2 ^ label_of bs at)) 0 (places_of bs)

abbrev pub model : List ℕ → Automaton
model bs = record {
  locations = locations_of bs;
  clocks = clocks_of bs;
  width = widest bs (locations_of bs);
  labels = labels_of bs;
  edges = map (λ l. map (edge_read bs) (places_at bs l)) (range_with_len 0 (locations_of bs));
}
