-- The format of a model file: which files are lawful, and with which refusal each other file is met.
use Rattle.std.specs.Prelude.{◌≡◌, ℕ, zero, suc, ◌+◌, ◌*◌, ◌^◌, ◌<◌, ◌≤◌, Bool, true, false, cond, ◌&&◌, List, length, is_ok, Ok, Err, Result, ◌==◌, nat_le, nat_lt}
use Rattle.std.specs.List.{list_all, range_with_len}
use Rattle.machines.specs.declared.refusal.Refusal.{Refusal}
use Rattle.machines.specs.declared.refusal.Refusal.TheVariants.{Frame, Kind, Shape, Range, Missing, Order}
use Rattle.models.specs.Numbers.{byte, two_bytes, four_bytes}

-- ---- the fields of the record at a place

abbrev pub size_of : List ℕ → ℕ → ℕ
size_of bs at = two_bytes bs at

abbrev pub kind_of : List ℕ → ℕ → ℕ
kind_of bs at = two_bytes bs (at + 2)

-- of the head, which stands at 0; byte 7 is spare

abbrev pub locations_of : List ℕ → ℕ
locations_of bs = two_bytes bs 4

abbrev pub clocks_of : List ℕ → ℕ
clocks_of bs = byte bs 6

-- of an edge; byte 11 is spare

abbrev pub from_of : List ℕ → ℕ → ℕ
from_of bs at = two_bytes bs (at + 4)

abbrev pub to_of : List ℕ → ℕ → ℕ
to_of bs at = two_bytes bs (at + 6)

abbrev pub label_of : List ℕ → ℕ → ℕ
label_of bs at = byte bs (at + 8)

abbrev pub resets_of : List ℕ → ℕ → ℕ
resets_of bs at = byte bs (at + 9)

abbrev pub count_of : List ℕ → ℕ → ℕ
count_of bs at = byte bs (at + 10)

-- the place of atom i of the edge at a place, and the fields of the atom at a place; its bytes 2 and 3 are spare

abbrev pub place_of_atom : ℕ → ℕ → ℕ
place_of_atom at i = at + 12 + 8 * i

abbrev pub clock_of : List ℕ → ℕ → ℕ
clock_of bs p = byte bs p

abbrev pub comparison_of : List ℕ → ℕ → ℕ
comparison_of bs p = byte bs (p + 1)

abbrev pub constant_of : List ℕ → ℕ → ℕ
constant_of bs p = four_bytes bs (p + 4)

-- ---- a lawful file in the format's own words: a head, and then a chain of edges

pub record HeadRecord (bs : List ℕ) : Type 0 where
  pub whole : 8 ≤ length bs
  pub size : size_of bs 0 ≡ 8
  pub kind : kind_of bs 0 ≡ 1
  pub spare : byte bs 7 ≡ 0
  pub some_location : 1 ≤ locations_of bs
  pub few_locations : locations_of bs ≤ 256
  pub few_clocks : clocks_of bs ≤ 4

pub record AtomRecord (bs : List ℕ) (p : ℕ) : Type 0 where
  pub spare : two_bytes bs (p + 2) ≡ 0
  pub comparison : comparison_of bs p ≤ 3
  pub constant : constant_of bs p ≤ 100000
  pub clock : clock_of bs p < clocks_of bs

pub record EdgeRecord (bs : List ℕ) (at : ℕ) : Type 0 where
  pub whole : at + size_of bs at ≤ length bs
  pub kind : kind_of bs at ≡ 2
  pub size : size_of bs at ≡ 12 + 8 * count_of bs at
  pub spare : byte bs (at + 11) ≡ 0
  pub label : label_of bs at ≤ 31
  pub few_atoms : count_of bs at ≤ 4
  pub from : from_of bs at < locations_of bs
  pub to : to_of bs at < locations_of bs
  pub resets : resets_of bs at < 2 ^ clocks_of bs
  pub atoms : (i : ℕ) → i < count_of bs at → AtomRecord bs (place_of_atom at i)

-- edges from a place to the end of the file, at most `room` of them; none leaves a location below `previous`, which the one before it leaves
pub data Chain (bs : List ℕ) : ℕ → ℕ → ℕ → Type 0 where
  ended : (room previous at : ℕ) → at ≡ length bs → Chain bs room previous at
  edged : (room previous at : ℕ) → EdgeRecord bs at → previous ≤ from_of bs at
      → Chain bs room (from_of bs at) (at + size_of bs at) → Chain bs (suc room) previous at

pub record LawfulFile (bs : List ℕ) : Type 0 where
  pub small : length bs ≤ 65536
  pub head : HeadRecord bs
  pub edges : Chain bs 1024 0 8

-- ---- the tests of a record, each under the number of its refusal

-- 1: four bytes are left for the record, and it is 4 bytes or more and ends within the file
abbrev pub framed : List ℕ → ℕ → Bool
framed bs at = nat_le (at + 4) (length bs) && nat_le 4 (size_of bs at) && nat_le (at + size_of bs at) (length bs)

-- of the head

-- 2: it is a head
abbrev pub head_has_kind : List ℕ → Bool
head_has_kind bs = kind_of bs 0 == 1

-- 3: its length is 8, and its spare byte is zero
abbrev pub head_has_shape : List ℕ → Bool
head_has_shape bs = size_of bs 0 == 8 && byte bs 7 == 0

-- 4: there are 1 to 256 locations and at most 4 clocks
abbrev pub head_in_range : List ℕ → Bool
head_in_range bs = nat_le 1 (locations_of bs) && nat_le (locations_of bs) 256 && nat_le (clocks_of bs) 4

-- of an edge, with its atoms

-- the test holds of each of the first n atoms of the edge at a place
abbrev pub each_atom : (List ℕ → ℕ → Bool) → List ℕ → ℕ → ℕ → Bool
each_atom test bs at n = list_all (λ i. test bs (place_of_atom at i)) (range_with_len 0 n)

-- 2: it is an edge, and there is room for one
abbrev pub edge_has_kind : List ℕ → ℕ → ℕ → Bool
edge_has_kind bs at room = kind_of bs at == 2 && nat_lt 0 room

-- 3: its length fits its count, which that of a record too short for a count never does, and its spare bytes are zero
abbrev pub atom_has_shape : List ℕ → ℕ → Bool
atom_has_shape bs p = two_bytes bs (p + 2) == 0

abbrev pub edge_has_shape : List ℕ → ℕ → Bool
edge_has_shape bs at =
    (size_of bs at == 12 + 8 * count_of bs at) && byte bs (at + 11) == 0 && each_atom atom_has_shape bs at (count_of bs at)

-- 4: its label is at most 31, it has at most 4 atoms, and each compares by 0 to 3 with at most 100,000
abbrev pub atom_in_range : List ℕ → ℕ → Bool
atom_in_range bs p = nat_le (comparison_of bs p) 3 && nat_le (constant_of bs p) 100000

abbrev pub edge_in_range : List ℕ → ℕ → Bool
edge_in_range bs at = nat_le (label_of bs at) 31 && nat_le (count_of bs at) 4 && each_atom atom_in_range bs at (count_of bs at)

-- 5: there are the locations, the clocks that it resets, and the clock of each atom
abbrev pub atom_is_known : List ℕ → ℕ → Bool
atom_is_known bs p = nat_lt (clock_of bs p) (clocks_of bs)

abbrev pub edge_is_known : List ℕ → ℕ → Bool
edge_is_known bs at =
    nat_lt (from_of bs at) (locations_of bs) && nat_lt (to_of bs at) (locations_of bs) && nat_lt (resets_of bs at) (2 ^ clocks_of bs)
    && each_atom atom_is_known bs at (count_of bs at)

-- 6: it leaves no location below the one that the edge before it leaves
abbrev pub edge_order : List ℕ → ℕ → ℕ → Bool
edge_order bs at previous = nat_le previous (from_of bs at)

-- ---- the tests in their order

abbrev pub Outcome : Type 0
Outcome = Result (Unit {0}) Refusal

-- what follows, or where the test fails its refusal
abbrev pub try : Bool → Refusal → Outcome → Outcome
try true e next = next
try false e next = Err e

-- one outcome, and where that is no refusal the next
abbrev pub then : Outcome → Outcome → Outcome
then (Ok u) next = next
then (Err e) next = Err e

unfoldable pub head_verdict : List ℕ → Outcome
head_verdict bs =
    try (framed bs 0) (Frame 0)
    (try (head_has_kind bs) (Kind 0)
    (try (head_has_shape bs) (Shape 0)
    (try (head_in_range bs) (Range 0) (Ok tt))))

-- of the edge at a place, where `room` more may come, and the edge before it leaves `previous`
unfoldable pub edge_verdict : List ℕ → ℕ → ℕ → ℕ → Outcome
edge_verdict bs at room previous =
    try (framed bs at) (Frame at)
    (try (edge_has_kind bs at room) (Kind at)
    (try (edge_has_shape bs at) (Shape at)
    (try (edge_in_range bs at) (Range at)
    (try (edge_is_known bs at) (Missing at)
    (try (edge_order bs at previous) (Order at) (Ok tt))))))

-- of the edges from a place to the end of the file; where no more may come the first is refused
unfoldable pub edges_verdict : ℕ → List ℕ → ℕ → ℕ → Outcome
edges_verdict zero bs at previous = cond (at == length bs) (Ok tt) (edge_verdict bs at 0 previous)
edges_verdict (suc room) bs at previous =
    cond (at == length bs) (Ok tt)
    (then (edge_verdict bs at (suc room) previous) (edges_verdict room bs (at + size_of bs at) (from_of bs at)))

-- of a file: at most 65,536 bytes, of which there are some, a head, and at most 1,024 edges
unfoldable pub verdict : List ℕ → Outcome
verdict bs =
    try (nat_le (length bs) 65536) (Frame 0)
    (try (nat_lt 0 (length bs)) (Kind 0)
    (then (head_verdict bs) (edges_verdict 1024 bs 8 0)))

abbrev pub Accepted : List ℕ → Type 0
Accepted bs = is_ok (verdict bs) ≡ true
