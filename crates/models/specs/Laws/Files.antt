-- A file is accepted exactly where it is lawful in the format's own words.
use Rattle.std.specs.Prelude.{◌≡◌, ℕ, zero, suc, ◌+◌, ◌-◌, ◌*◌, ◌^◌, ◌<◌, ◌≤◌, Bool, true, false, ◌&&◌, List, length, is_ok, Ok, Err, ◌==◌, ◌≢◌, nat_le, nat_lt, refl}
use Rattle.std.proofs.Math.Path.{sym, ap}
use Rattle.std.proofs.Common.{◌∙◌, inl, inr}
use native.Mathlib.Omega.{arith}
use Rattle.std.proofs.lemmas.Bool.{cases_eq, and_parts, and_from, and_right, leb-true, ltb-true, eqb-true, le-leb, lt-ltb, eq-eqb, ne_eqb, cond-true, cond-false}
use Rattle.machines.specs.declared.refusal.Refusal.{Refusal}
use Rattle.machines.specs.declared.refusal.Refusal.TheVariants.{Frame, Kind}
use Rattle.models.specs.Numbers.{byte}
use Rattle.models.specs.Format.{size_of, kind_of, locations_of, clocks_of, from_of, to_of, label_of, resets_of, count_of, place_of_atom, comparison_of, constant_of, HeadRecord, AtomRecord, EdgeRecord, Chain, ended, edged, LawfulFile, framed, each_atom, edge_has_kind, atom_has_shape, edge_has_shape, atom_in_range, edge_in_range, atom_is_known, edge_is_known, Outcome, try, then, head_verdict, edge_verdict, edges_verdict, verdict, Accepted}
use Rattle.models.specs.Laws.Atoms.{each_holds, each_from}

-- ---- verdicts

tried : (b : Bool) (e : Refusal) (next : Outcome) → try b e next ≡ Ok tt → (b ≡ true) × (next ≡ Ok tt)
tried true e next h = (refl, h)
tried false e next h = absurd (let z : ◌≡◌ {A = ℕ} 0 1 = cc in omega arith)

passed : (b : Bool) (e : Refusal) (next : Outcome) → b ≡ true → next ≡ Ok tt → try b e next ≡ Ok tt
passed b e next t h = ap (λ b. try b e next) t ∙ h

both_ok : (r next : Outcome) → then r next ≡ Ok tt → (r ≡ Ok tt) × (next ≡ Ok tt)
both_ok (Ok u) next h = (refl, h)
both_ok (Err e) next h = absurd (let z : ◌≡◌ {A = ℕ} 0 1 = cc in omega arith)

ok_from : (r : Outcome) → is_ok r ≡ true → r ≡ Ok tt
ok_from (Ok u) h = refl
ok_from (Err e) h = absurd (let z : ◌≡◌ {A = ℕ} 0 1 = cc in omega arith)

-- a refusal stands, whatever follows
stands : (a b : Bool) (e f : Refusal) (rest next : Outcome) → b ≡ false → then (try a e (try b f rest)) next ≡ try a e (try b f rest)
stands false b e f rest next h = refl
stands true false e f rest next h = refl
stands true true e f rest next h = absurd (let z : ◌≡◌ {A = ℕ} 0 1 = cc in omega arith)

three : (x y z : Bool) → x && y && z ≡ true → (x ≡ true) × (y ≡ true) × (z ≡ true)
three true true true h = (refl, refl, refl)
three true true false h = absurd (let z : ◌≡◌ {A = ℕ} 0 1 = cc in omega arith)
three true false z h = absurd (let z : ◌≡◌ {A = ℕ} 0 1 = cc in omega arith)
three false y z h = absurd (let z : ◌≡◌ {A = ℕ} 0 1 = cc in omega arith)

module _ (bs : List ℕ) where
  -- ---- what a test that is passed tells

  frame_from : (at : ℕ) → framed bs at ≡ true → (4 ≤ size_of bs at) × (at + size_of bs at ≤ length bs)
  frame_from at h = let p = three (nat_le (at + 4) (length bs)) (nat_le 4 (size_of bs at)) (nat_le (at + size_of bs at) (length bs)) h in (leb-true _ _ p.1, leb-true _ _ p.2)

  pub head_from : head_verdict bs ≡ Ok tt → HeadRecord bs
  unfolding head_verdict
  head_from h =
      let t1 = tried (framed bs 0) _ _ h in
      let t2 = tried (kind_of bs 0 == 1) _ _ t1.1 in
      let t3 = tried (size_of bs 0 == 8 && byte bs 7 == 0) _ _ t2.1 in
      let t4 = tried (nat_le 1 (locations_of bs) && nat_le (locations_of bs) 256 && nat_le (clocks_of bs) 4) _ _ t3.1 in
      let frame = frame_from 0 t1.0 in
      let shape = and_parts (size_of bs 0 == 8) (byte bs 7 == 0) t3.0 in
      let range = three (nat_le 1 (locations_of bs)) (nat_le (locations_of bs) 256) (nat_le (clocks_of bs) 4) t4.0 in
      let size = eqb-true (size_of bs 0) 8 shape.0 in
      record {
        whole = omega (arith, frame.1);
        size = size;
        kind = eqb-true _ _ t2.0;
        spare = eqb-true _ _ shape.1;
        some_location = leb-true _ _ range.0;
        few_locations = leb-true _ _ range.1;
        few_clocks = leb-true _ _ range.2;
      }

  atom_from : (p : ℕ) → atom_has_shape bs p ≡ true → atom_in_range bs p ≡ true → atom_is_known bs p ≡ true → AtomRecord bs p
  atom_from p shape range known =
      let ranges = and_parts (nat_le (comparison_of bs p) 3) (nat_le (constant_of bs p) 100000) range in
      record {
        spare = eqb-true _ _ shape;
        comparison = leb-true _ _ ranges.0;
        constant = leb-true _ _ ranges.1;
        clock = ltb-true _ _ known;
      }

  kind_from : (at room : ℕ) → edge_has_kind bs at room ≡ true → (kind_of bs at ≡ 2) × (0 < room)
  kind_from at room h = let p = and_parts (kind_of bs at == 2) (nat_lt 0 room) h in (eqb-true _ _ p.0, ltb-true _ _ p.1)

  shape_from : (at : ℕ) → edge_has_shape bs at ≡ true → (size_of bs at ≡ 12 + 8 * count_of bs at) × (byte bs (at + 11) ≡ 0) × (each_atom atom_has_shape bs at (count_of bs at) ≡ true)
  shape_from at h =
      let p = three (size_of bs at == 12 + 8 * count_of bs at) (byte bs (at + 11) == 0) (each_atom atom_has_shape bs at (count_of bs at)) h in
      (eqb-true _ _ p.0, eqb-true _ _ p.1, p.2)

  range_from : (at : ℕ) → edge_in_range bs at ≡ true → (label_of bs at ≤ 31) × (count_of bs at ≤ 4) × (each_atom atom_in_range bs at (count_of bs at) ≡ true)
  range_from at h =
      let p = three (nat_le (label_of bs at) 31) (nat_le (count_of bs at) 4) (each_atom atom_in_range bs at (count_of bs at)) h in
      (leb-true _ _ p.0, leb-true _ _ p.1, p.2)

  known_from : (at : ℕ) → edge_is_known bs at ≡ true → (from_of bs at < locations_of bs) × (to_of bs at < locations_of bs) × (resets_of bs at < 2 ^ clocks_of bs) × (each_atom atom_is_known bs at (count_of bs at) ≡ true)
  known_from at h =
      let p = three (nat_lt (from_of bs at) (locations_of bs) && nat_lt (to_of bs at) (locations_of bs)) (nat_lt (resets_of bs at) (2 ^ clocks_of bs)) (each_atom atom_is_known bs at (count_of bs at)) h in
      let q = and_parts (nat_lt (from_of bs at) (locations_of bs)) (nat_lt (to_of bs at) (locations_of bs)) p.0 in
      (ltb-true _ _ q.0, ltb-true _ _ q.1, ltb-true _ _ p.1, p.2)

  pub edge_from : (at room previous : ℕ) → edge_verdict bs at room previous ≡ Ok tt → EdgeRecord bs at × (0 < room) × (previous ≤ from_of bs at)
  unfolding edge_verdict
  edge_from at room previous h =
      let t1 = tried (framed bs at) _ _ h in
      let t2 = tried (edge_has_kind bs at room) _ _ t1.1 in
      let t3 = tried (edge_has_shape bs at) _ _ t2.1 in
      let t4 = tried (edge_in_range bs at) _ _ t3.1 in
      let t5 = tried (edge_is_known bs at) _ _ t4.1 in
      let t6 = tried (nat_le previous (from_of bs at)) _ _ t5.1 in
      let kind = kind_from at room t2.0 in
      let shape = shape_from at t3.0 in
      let range = range_from at t4.0 in
      let known = known_from at t5.0 in
      let n = count_of bs at in (
        record {
          whole = (frame_from at t1.0).1;
          kind = kind.0;
          size = shape.0;
          spare = shape.1;
          label = range.0;
          few_atoms = range.1;
          from = known.0;
          to = known.1;
          resets = known.2;
          atoms = λ i l. atom_from (place_of_atom at i) (each_holds atom_has_shape bs at n i l shape.2) (each_holds atom_in_range bs at n i l range.2) (each_holds atom_is_known bs at n i l known.3);
        },
        kind.1,
        leb-true _ _ t6.0,
      )

  -- ---- what is lawful passes the tests

  frame_to : (at : ℕ) → 4 ≤ size_of bs at → at + size_of bs at ≤ length bs → framed bs at ≡ true
  frame_to at long whole =
      let left : at + 4 ≤ length bs = omega arith in and_from _ _ (and_from _ _ (le-leb _ _ left) (le-leb _ _ long)) (le-leb _ _ whole)

  head_to : HeadRecord bs → head_verdict bs ≡ Ok tt
  unfolding head_verdict
  head_to h =
      let size : size_of bs 0 ≡ 8 = h.size in
      passed _ _ _ (frame_to 0 (omega (arith, size)) (omega (arith, size, h.whole)))
      (passed _ _ _ (eq-eqb _ _ h.kind)
      (passed _ _ _ (and_from _ _ (eq-eqb _ _ size) (eq-eqb _ _ h.spare))
      (passed _ _ _ (and_from _ _ (and_from _ _ (le-leb _ _ h.some_location) (le-leb _ _ h.few_locations)) (le-leb _ _ h.few_clocks)) refl)))

  atom_shape_to : (p : ℕ) → AtomRecord bs p → atom_has_shape bs p ≡ true
  atom_shape_to p a = eq-eqb _ _ a.spare

  atom_range_to : (p : ℕ) → AtomRecord bs p → atom_in_range bs p ≡ true
  atom_range_to p a = and_from _ _ (le-leb _ _ a.comparison) (le-leb _ _ a.constant)

  atom_known_to : (p : ℕ) → AtomRecord bs p → atom_is_known bs p ≡ true
  atom_known_to p a = lt-ltb _ _ a.clock

  module _ (at : ℕ) (e : EdgeRecord bs at) where
    kind_to : (room : ℕ) → edge_has_kind bs at (suc room) ≡ true
    kind_to room = and_from _ _ (eq-eqb _ _ e.kind) (lt-ltb _ _ (omega arith))

    shape_to : edge_has_shape bs at ≡ true
    shape_to =
        and_from _ _ (and_from _ _ (eq-eqb _ _ e.size) (eq-eqb _ _ e.spare))
        (each_from atom_has_shape bs at (count_of bs at) (λ i l. atom_shape_to (place_of_atom at i) (e.atoms i l)))

    range_to : edge_in_range bs at ≡ true
    range_to =
        and_from _ _ (and_from _ _ (le-leb _ _ e.label) (le-leb _ _ e.few_atoms))
        (each_from atom_in_range bs at (count_of bs at) (λ i l. atom_range_to (place_of_atom at i) (e.atoms i l)))

    known_to : edge_is_known bs at ≡ true
    known_to =
        and_from _ _ (and_from _ _ (and_from _ _ (lt-ltb _ _ e.from) (lt-ltb _ _ e.to)) (lt-ltb _ _ e.resets))
        (each_from atom_is_known bs at (count_of bs at) (λ i l. atom_known_to (place_of_atom at i) (e.atoms i l)))

    edge_to : (room previous : ℕ) → previous ≤ from_of bs at → edge_verdict bs at (suc room) previous ≡ Ok tt
    unfolding edge_verdict
    edge_to room previous h =
        passed _ _ _ (frame_to at (omega (arith, e.size)) e.whole) (passed _ _ _ (kind_to room) (passed _ _ _ shape_to (passed _ _ _ range_to (passed _ _ _ known_to (passed _ _ _ (le-leb _ _ h) refl)))))

  -- ---- the edges one after another

  pub edges_done : (room at previous : ℕ) → at ≡ length bs → edges_verdict room bs at previous ≡ Ok tt
  unfolding edges_verdict
  edges_done zero at previous h = cond-true (at == length bs) _ _ (eq-eqb _ _ h)
  edges_done (suc room) at previous h = cond-true (at == length bs) _ _ (eq-eqb _ _ h)

  no_room : (at previous : ℕ) (next : Outcome) → then (edge_verdict bs at 0 previous) next ≡ edge_verdict bs at 0 previous
  unfolding edge_verdict
  no_room at previous next = stands (framed bs at) (kind_of bs at == 2 && nat_lt 0 0) (Frame at) (Kind at) _ next (and_right _ _ refl)

  -- before the end the edge is checked, and then those after it
  pub edges_step : (room at previous : ℕ) → (at ≢ length bs)
      → edges_verdict room bs at previous ≡ then (edge_verdict bs at room previous) (edges_verdict (room - 1) bs (at + size_of bs at) (from_of bs at))
  unfolding edges_verdict
  edges_step zero at previous h = cond-false (at == length bs) _ _ (ne_eqb _ _ h) ∙ sym (no_room at previous _)
  edges_step (suc room) at previous h =
      let less : room ≡ suc room - 1 = omega arith in
      cond-false (at == length bs) _ _ (ne_eqb _ _ h)
      ∙ ap (λ n. then (edge_verdict bs at (suc room) previous) (edges_verdict n bs (at + size_of bs at) (from_of bs at))) less

  -- a refused edge is the answer
  pub edges_refused : (room at previous : ℕ) (e : Refusal) → (at ≢ length bs) → edge_verdict bs at room previous ≡ Err e → edges_verdict room bs at previous ≡ Err e
  edges_refused room at previous e ne h = edges_step room at previous ne ∙ ap (λ r. then r (edges_verdict (room - 1) bs (at + size_of bs at) (from_of bs at))) h

  -- after an accepted edge the others are
  pub edges_passed : (room at previous : ℕ) → (at ≢ length bs) → edge_verdict bs at room previous ≡ Ok tt
      → edges_verdict room bs at previous ≡ edges_verdict (room - 1) bs (at + size_of bs at) (from_of bs at)
  edges_passed room at previous ne h = edges_step room at previous ne ∙ ap (λ r. then r (edges_verdict (room - 1) bs (at + size_of bs at) (from_of bs at))) h

  -- where the edges from a place are accepted, and it is before the end: so is the edge there, and what follows it
  pub edges_next : (room at previous : ℕ) → (at ≢ length bs) → edges_verdict room bs at previous ≡ Ok tt
      → EdgeRecord bs at × (0 < room) × (previous ≤ from_of bs at) × (edges_verdict (room - 1) bs (at + size_of bs at) (from_of bs at) ≡ Ok tt)
  edges_next room at previous ne h =
      let p = both_ok _ _ (sym (edges_step room at previous ne) ∙ h) in
      let q = edge_from at room previous p.0 in (q.0, q.1, q.2, p.1)

  chain_from : (room at previous : ℕ) → edges_verdict room bs at previous ≡ Ok tt → Chain bs room previous at
  chain_from zero at previous h =
      elim (cases_eq at (length bs)) [
        | inl e ↦ ended 0 previous at e
        | inr ne ↦ absurd (omega (arith, (edges_next 0 at previous ne h).1))
      ]
  chain_from (suc room) at previous h =
      elim (cases_eq at (length bs)) [
        | inl e ↦ ended (suc room) previous at e
        | inr ne ↦
            let next = edges_next (suc room) at previous ne h in
            let less : room ≡ suc room - 1 = omega arith in
            let rest = ap (λ n. edges_verdict n bs (at + size_of bs at) (from_of bs at)) less ∙ next.3 in
            edged room previous at next.0 next.2 (chain_from room (at + size_of bs at) (from_of bs at) rest)
      ]

  chain_to : (room previous at : ℕ) → Chain bs room previous at → edges_verdict room bs at previous ≡ Ok tt
  chain_to room previous at (ended _ _ _ e) = edges_done room at previous e
  chain_to _ previous at (edged room _ _ e h rest) =
      let ne : at ≡ length bs → ⊥ = λ same. omega (arith, e.whole, e.size) in
      let less : suc room - 1 ≡ room = omega arith in
      edges_step (suc room) at previous ne
      ∙ ap (λ r. then r (edges_verdict (suc room - 1) bs (at + size_of bs at) (from_of bs at))) (edge_to at e room previous h)
      ∙ ap (λ n. edges_verdict n bs (at + size_of bs at) (from_of bs at)) less ∙ chain_to room (from_of bs at) (at + size_of bs at) rest

  -- ---- the file

  -- an accepted file is small, and its head and its edges are accepted
  pub accepted_parts : Accepted bs → (length bs ≤ 65536) × HeadRecord bs × (edges_verdict 1024 bs 8 0 ≡ Ok tt)
  unfolding verdict
  accepted_parts h =
      let t1 = tried (nat_le (length bs) 65536) _ _ (ok_from (verdict bs) h) in
      let t2 = tried (nat_lt 0 (length bs)) _ _ t1.1 in
      let p = both_ok (head_verdict bs) _ t2.1 in (leb-true _ _ t1.0, head_from p.0, p.1)

  pub lawful_from : Accepted bs → LawfulFile bs
  lawful_from h = let p = accepted_parts h in record { small = p.0; head = p.1; edges = chain_from 1024 8 0 p.2 }

  pub lawful_to : LawfulFile bs → Accepted bs
  unfolding verdict
  lawful_to w =
      ap is_ok (passed _ _ _ (le-leb _ _ w.small) (passed _ _ _ (lt-ltb _ _ (omega (arith, w.head.whole)))
      (ap (λ r. then r (edges_verdict 1024 bs 8 0)) (head_to w.head) ∙ chain_to 1024 0 8 w.edges)))
