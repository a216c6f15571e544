-- What the deadline automaton answers, and that it is lawful.
use Rattle.std.specs.Prelude.{◌≡◌, ℕ, zero, suc, ◌^◌, ◌<◌, ◌≤◌, Bool, true, false, cond, [], ◌∷◌, length, Some, None, Option, ◌==◌, ◌≢◌, count_ones, nat_lt, refl}
use Rattle.std.proofs.Common.{sym, ap, subst, ◌∙◌, arith}
use Rattle.std.proofs.lemmas.Nat.{ones-le}
use Rattle.std.proofs.lemmas.List.{length-map}
use Rattle.std.proofs.lemmas.Option.{slice_get-get_or, slice_get-map, slice_get_within}
use Rattle.std.proofs.lemmas.Bool.{le-ltb}
use Rattle.std.specs.Bool.{then_some}
use Rattle.std.specs.List.{slice_get}
use Rattle.std.specs.Option.{option_map}
use Rattle.machines.specs.Automaton.{Atom, Edge, edge_at, LawfulAtom, LawfulEdge, Lawful, Carried, leaving, edge_count, atom_of, atom_at}
use Rattle.machines.specs.Deadline.{labels_in, IsLabel, DeadlineArguments, deadline, idle_edge, armed_edge, within}
use Rattle.machines.specs.Laws.Lists.{from_map}
use Rattle.machines.specs.Laws.Masks.{length-labels, label_is_set, set_is_label, bit_below}

choice : (b : Bool) (m n k : ℕ) → m < k → n < k → cond b m n < k
choice true m n k h g = h
choice false m n k h g = g

one : (b : Bool) → cond b 1 0 ≤ 1
one true = omega arith
one false = omega arith

module _ (a b m c : ℕ) (ok : DeadlineArguments a b m c) where
  idle : (l : ℕ) → IsLabel m l → LawfulEdge (deadline a b m c) (idle_edge a l)
  idle l h = record {
    label_range = h.0;
    label_listed = h.1;
    target_exists = choice (l == a) 1 0 2 (omega arith) (omega arith);
    resets_exist = choice (l == a) 1 0 2 (omega arith) (omega arith);
    atoms_lawful = λ i x e. absurd (let z : ◌≡◌ {A = ℕ} 0 1 = cc in omega arith);
    few_atoms = λ x. omega arith;
  }

  the_atom : (i : ℕ) (x : Atom) → slice_get (within c ∷ []) i ≡ Some x → LawfulAtom (deadline a b m c) x
  the_atom zero x e =
      let same : within c ≡ x = cc in
      subst (LawfulAtom (deadline a b m c)) same (record { clock_exists = omega arith; comparison_range = omega arith; constant_range = ok.4 })
  the_atom (suc i) x e = absurd (let z : ◌≡◌ {A = ℕ} 0 1 = cc in omega arith)

  armed : (l : ℕ) → IsLabel m l → LawfulEdge (deadline a b m c) (armed_edge b c l)
  armed l h = record {
    label_range = h.0;
    label_listed = h.1;
    target_exists = choice (l == b) 0 1 2 (omega arith) (omega arith);
    resets_exist = omega arith;
    atoms_lawful = the_atom;
    few_atoms = λ x. omega (arith, one (0 == x));
  }

  wide : (l : ℕ) → length (leaving (deadline a b m c) l) ≤ count_ones m
  wide zero = omega (arith, length-map (labels_in m) (idle_edge a), length-labels m ok.3)
  wide (suc zero) = omega (arith, length-map (labels_in m) (armed_edge b c), length-labels m ok.3)
  wide (suc (suc l)) = omega arith

  each_edge : (l k : ℕ) (e : Edge) → edge_at (deadline a b m c) l k ≡ Some e → LawfulEdge (deadline a b m c) e
  each_edge zero k e is =
      let p = from_map (idle_edge a) (labels_in m) k e is in
      subst (LawfulEdge (deadline a b m c)) p.2 (idle p.0 (label_is_set m k p.0 p.1))
  each_edge (suc zero) k e is =
      let p = from_map (armed_edge b c) (labels_in m) k e is in
      subst (LawfulEdge (deadline a b m c)) p.2 (armed p.0 (label_is_set m k p.0 p.1))
  each_edge (suc (suc l)) k e is = absurd (let z : ◌≡◌ {A = ℕ} 0 1 = cc in omega arith)

  carried : (l : ℕ) → IsLabel m l → Carried (deadline a b m c) l
  carried l h =
      let p = set_is_label m l h in
      record { location = 0; index = p.0; edge = idle_edge a l; stands = slice_get-map (idle_edge a) (labels_in m) p.0 ∙ ap (option_map (idle_edge a)) p.1; carries = refl }

  pub deadline_lawful : Lawful (deadline a b m c)
  deadline_lawful = record {
    some_location = omega arith;
    few_locations = omega arith;
    each_location = refl;
    few_clocks = omega arith;
    width_range = omega (arith, ones-le 32 m ok.3);
    wide_enough = wide;
    edges_lawful = each_edge;
    labels_range = ok.3;
    labels_carried = λ l e. carried l (bit_below 32 m l ok.3 e, e);
  }

module _ (a b m c : ℕ) where
  pub count_answer : m < 2 ^ 32 → (l : ℕ) → then_some (nat_lt l 2) (count_ones m) ≡ edge_count (deadline a b m c) l
  count_answer small zero = ap (λ n. Some n) (sym (length-map (labels_in m) (idle_edge a) ∙ length-labels m small))
  count_answer small (suc zero) = ap (λ n. Some n) (sym (length-map (labels_in m) (armed_edge b c) ∙ length-labels m small))
  count_answer small (suc (suc l)) = rw (le-ltb (suc (suc l)) 2 (omega arith)) refl

  pub atom_answer : m < 2 ^ 32 → (l k i : ℕ) → l ≡ 1 → k < count_ones m → i ≡ 0 → Some (0, 1, c) ≡ atom_at (deadline a b m c) l k i
  atom_answer small l k i here some first =
      let read = slice_get-get_or (labels_in m) k 0 (omega (arith, length-labels m small)) in
      rw (here, first, slice_get-map (armed_edge b c) (labels_in m) k, read)

  pub no_atom_answer : m < 2 ^ 32 → (l k i : ℕ) → (l ≡ 1 → k < count_ones m → i ≢ 0) → None ≡ atom_at (deadline a b m c) l k i
  no_atom_answer small zero k i h = rw (slice_get-map (idle_edge a) (labels_in m) k) (go (slice_get (labels_in m) k))
    where
      go : (o : Option ℕ) → None ≡ atom_of (option_map (idle_edge a) o) i
      go None = refl
      go (Some x) = refl
  no_atom_answer small (suc zero) k i h = rw (slice_get-map (armed_edge b c) (labels_in m) k) (go i (slice_get (labels_in m) k) refl (h refl))
    where
      go : (i : ℕ) (o : Option ℕ) → slice_get (labels_in m) k ≡ o → (k < count_ones m → i ≢ 0) → None ≡ atom_of (option_map (armed_edge b c) o) i
      go i None e h = refl
      go (suc i) (Some x) e h = refl
      go zero (Some x) e h = absurd (h (subst (λ n. k < n) (length-labels m small) (slice_get_within (labels_in m) k x e)) refl)
  no_atom_answer small (suc (suc l)) k i h = refl
