-- The automaton of an accepted file is lawful.
use Rattle.std.specs.Prelude.{◌≡◌, ℕ, zero, suc, ◌+◌, ◌^◌, ◌<◌, ◌≤◌, max, Bool, true, false, cond, List, [], ◌∷◌, map, length, Some, fold, ◌==◌, nat_eq, refl}
use Rattle.std.proofs.Common.{sym, ap, ◌∙◌, arith}
use Rattle.std.proofs.Math.Path.{subst}
use Rattle.std.proofs.Math.Logic.{inl, inr}
use Rattle.std.proofs.Math.Nat.{le-max_left, le-max_right, max-le}
use Rattle.std.proofs.lemmas.List.FromFn.{length-map-range_with_len, get_or-map-range_with_len}
use Rattle.std.proofs.ByRecursion.{all_kept_by, All-map, All-get_or, All-weaker}
use Rattle.std.proofs.lemmas.List.{length-map, get_or_past}
use Rattle.std.proofs.lemmas.Option.{slice_get-map}
use Rattle.std.proofs.lemmas.Bool.{cases_lt, eq-eqb, ne_eqb}
use Rattle.std.proofs.lemmas.Nat.Bits.{bit_at-zero}
use Rattle.std.specs.List.{slice_get, range_with_len, AllByRecursion}
use Rattle.std.specs.Option.{option_map}
use Rattle.machines.specs.Automaton.{Atom, Edge, bit, leaving, edge_at, on_clock, LawfulAtom, LawfulEdge, Carried, Lawful}
use Rattle.machines.specs.Laws.Lists.{from_map, all_nth, Stands, stands_kept, length-kept}
use Rattle.models.specs.Format.{locations_of, from_of, label_of, count_of, place_of_atom, HeadRecord, EdgeRecord, Accepted}
use Rattle.models.specs.Model.{places_of, places_at, atom_read, edge_read, widest, labels_of, model}
use Rattle.models.specs.Laws.Files.{accepted_parts}
use Rattle.models.specs.Laws.Places.{places_lawful, low_labels, few_edges}
use Rattle.models.specs.Laws.Sorted.{none_kept}
use Rattle.models.specs.Laws.Unions.{union_has, union_from, union_small}

-- ---- lists

largest_keeps : (n : ℕ) (ns : List ℕ) → n ≤ fold max n ns
largest_keeps n [] = omega arith
largest_keeps n (m ∷ ns) = omega (arith, le-max_left n m, largest_keeps (max n m) ns)

largest_has : (n : ℕ) (ns : List ℕ) → AllByRecursion (λ m. m ≤ fold max n ns) ns
largest_has n [] = tt
largest_has n (m ∷ ns) = (omega (arith, le-max_right n m, largest_keeps (max n m) ns), largest_has (max n m) ns)

largest_small : (k n : ℕ) (ns : List ℕ) → n ≤ k → AllByRecursion (λ m. m ≤ k) ns → fold max n ns ≤ k
largest_small k n [] h a = h
largest_small k n (m ∷ ns) h a = largest_small k (max n m) ns (max-le h a.0) a.1

counting_below : (a n : ℕ) → AllByRecursion (λ j. j < a + n) (range_with_len a n)
counting_below a zero = tt
counting_below a (suc n) = (omega arith, subst (λ m. AllByRecursion (λ j. j < m) (range_with_len (a + 1) n)) (omega arith) (counting_below (a + 1) n))

all_any : {X : Type 0} (P : X → Type 0) → ((x : X) → P x) → (xs : List X) → AllByRecursion P xs
all_any P h [] = tt
all_any P h (x ∷ xs) = (h x, all_any P h xs)

few_on_clock : (x : ℕ) (atoms : List Atom) → on_clock x atoms ≤ length atoms
few_on_clock x [] = omega arith
few_on_clock x (a ∷ atoms) = go (a.clock == x) (few_on_clock x atoms)
  where
    go : (b : Bool) → on_clock x atoms ≤ length atoms → cond b 1 0 + on_clock x atoms ≤ suc (length atoms)
    go true h = omega arith
    go false h = omega arith

all_both : (P Q R : ℕ → Type 0) → ((x : ℕ) → P x → Q x → R x) → (xs : List ℕ) → AllByRecursion P xs → AllByRecursion Q xs → AllByRecursion R xs
all_both P Q R f [] p q = tt
all_both P Q R f (x ∷ xs) p q = (f x p.0 q.0, all_both P Q R f xs p.1 q.1)

module _ (bs : List ℕ) (ok : Accepted bs) where
  head : HeadRecord bs
  head = (accepted_parts bs ok).1

  -- no edge leaves a location that there is not
  pub none_past : (l : ℕ) → locations_of bs ≤ l → places_at bs l ≡ []
  none_past l h =
      none_kept (λ at. nat_eq (from_of bs at) l) (places_of bs)
      (All-weaker (EdgeRecord bs) (λ at. (from_of bs at == l) ≡ false) (λ at e. ne_eqb _ _ (λ same. omega (arith, e.from))) (places_of bs) (places_lawful bs ok))

  pub leaving_is : (l : ℕ) → leaving (model bs) l ≡ map (edge_read bs) (places_at bs l)
  leaving_is l =
      elim (cases_lt l (locations_of bs)) [
        | inl lt ↦ get_or-map-range_with_len (λ l. map (edge_read bs) (places_at bs l)) 0 (locations_of bs) l l [] lt (omega arith)
        | inr ge ↦
            let long = length-map-range_with_len (λ l. map (edge_read bs) (places_at bs l)) 0 (locations_of bs) in
            get_or_past (model bs).edges l [] (omega (arith, long)) ∙ sym (ap (map (edge_read bs)) (none_past l ge))
      ]

  pub edge_at_is : (l k : ℕ) → edge_at (model bs) l k ≡ option_map (edge_read bs) (slice_get (places_at bs l) k)
  edge_at_is l k = ap (λ es. slice_get es k) (leaving_is l) ∙ slice_get-map (edge_read bs) (places_at bs l) k

  pub few_leaving : (l : ℕ) → length (places_at bs l) ≤ 1024
  few_leaving l = omega (arith, length-kept (λ at. nat_eq (from_of bs at) l) (places_of bs), few_edges bs)

  pub narrow : widest bs (locations_of bs) ≤ 1024
  unfolding widest
  narrow =
      largest_small 1024 0 (map (λ l. length (places_at bs l)) (range_with_len 0 (locations_of bs))) (omega arith)
      (All-map (λ m. m ≤ 1024) (λ l. length (places_at bs l)) (range_with_len 0 (locations_of bs)) (all_any (λ l. length (places_at bs l) ≤ 1024) few_leaving (range_with_len 0 (locations_of bs))))

  wide : (l : ℕ) → l < locations_of bs → length (places_at bs l) ≤ widest bs (locations_of bs)
  unfolding widest
  wide l lt =
      let counts = map (λ l. length (places_at bs l)) (range_with_len 0 (locations_of bs)) in
      let long = length-map-range_with_len (λ l. length (places_at bs l)) 0 (locations_of bs) in
      let here = get_or-map-range_with_len (λ l. length (places_at bs l)) 0 (locations_of bs) l l 0 lt (omega arith) in
      let most = All-get_or (λ m. m ≤ fold max 0 counts) counts l 0 (omega (arith, long)) (largest_has 0 counts) in
      subst (λ m. m ≤ fold max 0 counts) here most

  wide_enough : (l : ℕ) → length (leaving (model bs) l) ≤ widest bs (locations_of bs)
  wide_enough l =
      let same = ap length (leaving_is l) ∙ length-map (places_at bs l) (edge_read bs) in
      elim (cases_lt l (locations_of bs)) [
        | inl lt ↦ omega (arith, same, wide l lt)
        | inr ge ↦ omega (arith, same, ap length (none_past l ge))
      ]

  -- ---- the edges

  listed : AllByRecursion (λ at. bit (labels_of bs) (label_of bs at) ≡ 1) (places_of bs)
  unfolding labels_of
  listed = union_has (label_of bs) 0 (places_of bs)

  atom_lawful : (at : ℕ) → EdgeRecord bs at → (i : ℕ) (a : Atom) → slice_get (edge_read bs at).atoms i ≡ Some a → LawfulAtom (model bs) a
  atom_lawful at e i a is =
      let p = from_map (λ i. atom_read bs (place_of_atom at i)) (range_with_len 0 (count_of bs at)) i a is in
      let low = all_nth (λ j. j < 0 + count_of bs at) (range_with_len 0 (count_of bs at)) i p.0 (counting_below 0 (count_of bs at)) p.1 in
      let r = e.atoms p.0 (omega (arith, low)) in
      subst (LawfulAtom (model bs)) p.2 (record { clock_exists = r.clock; comparison_range = omega (arith, r.comparison); constant_range = r.constant })

  edge_lawful : (at : ℕ) → EdgeRecord bs at → bit (labels_of bs) (label_of bs at) ≡ 1 → LawfulEdge (model bs) (edge_read bs at)
  edge_lawful at e on = record {
    label_range = omega (arith, e.label);
    label_listed = on;
    target_exists = e.to;
    resets_exist = e.resets;
    atoms_lawful = atom_lawful at e;
    few_atoms = λ x. omega (arith, few_on_clock x (edge_read bs at).atoms, length-map-range_with_len (λ i. atom_read bs (place_of_atom at i)) 0 (count_of bs at), e.few_atoms);
  }

  each_lawful : AllByRecursion (λ at. LawfulEdge (model bs) (edge_read bs at)) (places_of bs)
  each_lawful =
      all_both (EdgeRecord bs) (λ at. bit (labels_of bs) (label_of bs at) ≡ 1) (λ at. LawfulEdge (model bs) (edge_read bs at)) edge_lawful (places_of bs) (places_lawful bs ok) listed

  edges_lawful : (l k : ℕ) (e : Edge) → edge_at (model bs) l k ≡ Some e → LawfulEdge (model bs) e
  edges_lawful l k e is =
      let p = from_map (edge_read bs) (places_at bs l) k e (ap (λ es. slice_get es k) (sym (leaving_is l)) ∙ is) in
      let each = all_kept_by (λ at. nat_eq (from_of bs at) l) (λ at. LawfulEdge (model bs) (edge_read bs at)) (places_of bs) each_lawful in
      subst (LawfulEdge (model bs)) p.2 (all_nth (λ at. LawfulEdge (model bs) (edge_read bs at)) (places_at bs l) k p.0 each p.1)

  -- ---- the labels

  pub labels_small : labels_of bs < 2 ^ 32
  unfolding labels_of
  labels_small = union_small (label_of bs) 0 (places_of bs) (omega arith) (low_labels bs ok)

  label_from : (b : ℕ) → bit (labels_of bs) b ≡ 1 → (at : ℕ) × Stands (places_of bs) at × (label_of bs at ≡ b)
  unfolding labels_of
  label_from b on =
      elim (union_from (label_of bs) 0 (places_of bs) b on) [
        | inl none ↦ absurd (omega (arith, bit_at-zero b, none))
        | inr p ↦ p
      ]

  labels_carried : (b : ℕ) → bit (labels_of bs) b ≡ 1 → Carried (model bs) b
  labels_carried b on =
      let p = label_from b on in
      let here = stands_kept (λ at. nat_eq (from_of bs at) (from_of bs p.0)) (places_of bs) p.0 p.1.0 (eq-eqb _ _ refl) p.1.1 in
      record {
        location = from_of bs p.0;
        index = here.0;
        edge = edge_read bs p.0;
        stands = edge_at_is (from_of bs p.0) here.0 ∙ ap (option_map (edge_read bs)) here.1;
        carries = p.2;
      }

  pub model_lawful : Lawful (model bs)
  model_lawful = record {
    some_location = head.some_location;
    few_locations = omega (arith, head.few_locations);
    each_location = length-map-range_with_len (λ l. map (edge_read bs) (places_at bs l)) 0 (locations_of bs);
    few_clocks = omega (arith, head.few_clocks);
    width_range = omega (arith, narrow);
    wide_enough = wide_enough;
    edges_lawful = edges_lawful;
    labels_range = labels_small;
    labels_carried = labels_carried;
  }
