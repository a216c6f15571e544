-- What the questions answer of an accepted file.
use Rattle.std.specs.Prelude.{◌≡◌, ℕ, zero, suc, ◌<◌, ◌≤◌, List, map, length, Some, None, nat_eq, refl}
use Rattle.std.proofs.Common.{sym, ap, ◌∙◌, arith}
use Rattle.std.proofs.lemmas.List.FromFn.{length-range_with_len, length-map-range_with_len, get_or-range_with_len}
use Rattle.std.proofs.ByRecursion.{all_kept_by}
use Rattle.std.proofs.lemmas.List.{length-map}
use Rattle.std.proofs.lemmas.Option.{slice_get-get_or, slice_get-map, slice_get_past}
use Rattle.std.specs.List.{slice_get, range_with_len}
use Rattle.std.specs.Option.{option_map}
use Rattle.machines.specs.Automaton.{edge_count, head, head_at, parts, atom_of, atom_at}
use Rattle.machines.specs.Comparisons.{code, coded}
use Rattle.machines.specs.Laws.Lists.{all_nth}
use Rattle.models.specs.Format.{locations_of, from_of, to_of, label_of, resets_of, count_of, place_of_atom, clock_of, comparison_of, constant_of, EdgeRecord, Accepted}
use Rattle.models.specs.Model.{places_of, places_at, atom_read, edge_read, model}
use Rattle.models.specs.Laws.Files.{accepted_parts}
use Rattle.models.specs.Laws.Models.{edge_at_is}
use Rattle.models.specs.Laws.Places.{places_lawful}

code-coded : (n : ℕ) → n ≤ 3 → code (coded n) ≡ n
code-coded zero h = refl
code-coded (suc zero) h = refl
code-coded (suc (suc zero)) h = refl
code-coded (suc (suc (suc zero))) h = refl
code-coded (suc (suc (suc (suc n)))) h = absurd (omega arith)

nth_counted : {X : Type 0} (f : ℕ → X) (n i : ℕ) → i < n → slice_get (map f (range_with_len 0 n)) i ≡ Some (f i)
nth_counted f n i h =
    slice_get-map f (range_with_len 0 n) i
    ∙ ap (option_map f) (slice_get-get_or (range_with_len 0 n) i 0 (omega (arith, length-range_with_len 0 n)) ∙ ap Some (get_or-range_with_len 0 n i 0 h ∙ omega arith))

module _ (bs : List ℕ) (ok : Accepted bs) where
  pub count_answer : (l : ℕ) → l < locations_of bs → Some (length (places_at bs l)) ≡ edge_count (model bs) l
  count_answer l h =
      sym (ap (option_map length) (nth_counted (λ l. map (edge_read bs) (places_at bs l)) (locations_of bs) l h) ∙ ap Some (length-map (places_at bs l) (edge_read bs)))

  pub no_count_answer : (l : ℕ) → locations_of bs ≤ l → None ≡ edge_count (model bs) l
  no_count_answer l h =
      let long = length-map-range_with_len (λ l. map (edge_read bs) (places_at bs l)) 0 (locations_of bs) in
      sym (ap (option_map length) (slice_get_past (model bs).edges l (omega (arith, long))))

  lawful_at : (l k at : ℕ) → slice_get (places_at bs l) k ≡ Some at → EdgeRecord bs at
  lawful_at l k at e = all_nth (EdgeRecord bs) (places_at bs l) k at (all_kept_by (λ at. nat_eq (from_of bs at) l) (EdgeRecord bs) (places_of bs) (places_lawful bs ok)) e

  -- an edge stands within the file
  pub place_within : (l k at : ℕ) → slice_get (places_at bs l) k ≡ Some at → at ≤ 65536
  place_within l k at e = omega (arith, (lawful_at l k at e).whole, (accepted_parts bs ok).0)

  module _ (l k at : ℕ) (e : Some at ≡ slice_get (places_at bs l) k) where
    pub head_answer : Some (label_of bs at, to_of bs at, resets_of bs at, count_of bs at) ≡ head_at (model bs) l k
    head_answer =
        let atoms = length-map-range_with_len (λ i. atom_read bs (place_of_atom at i)) 0 (count_of bs at) in
        sym (ap (option_map head) (edge_at_is bs ok l k ∙ ap (option_map (edge_read bs)) (sym e))
        ∙ ap (λ n. Some (label_of bs at, to_of bs at, resets_of bs at, n)) atoms)

    atom_is : (i : ℕ) → atom_at (model bs) l k i ≡ option_map parts (slice_get (edge_read bs at).atoms i)
    atom_is i = ap (λ o. atom_of o i) (edge_at_is bs ok l k ∙ ap (option_map (edge_read bs)) (sym e))

    pub atom_answer : (i : ℕ) → i < count_of bs at
        → Some (clock_of bs (place_of_atom at i), code (coded (comparison_of bs (place_of_atom at i))), constant_of bs (place_of_atom at i)) ≡ atom_at (model bs) l k i
    atom_answer i h =
        let lawful = (lawful_at l k at (sym e)).atoms i h in
        ap (λ n. Some (clock_of bs (place_of_atom at i), n, constant_of bs (place_of_atom at i))) (code-coded (comparison_of bs (place_of_atom at i)) lawful.comparison)
        ∙ sym (atom_is i ∙ ap (option_map parts) (nth_counted (λ i. atom_read bs (place_of_atom at i)) (count_of bs at) i h))

    pub no_atom_answer : (i : ℕ) → count_of bs at ≤ i → None ≡ atom_at (model bs) l k i
    no_atom_answer i h =
        let long = length-map-range_with_len (λ i. atom_read bs (place_of_atom at i)) 0 (count_of bs at) in
        sym (atom_is i ∙ ap (option_map parts) (slice_get_past (edge_read bs at).atoms i (omega (arith, long))))

  module _ (l k : ℕ) (e : None ≡ slice_get (places_at bs l) k) where
    pub no_edge_head : None ≡ head_at (model bs) l k
    no_edge_head = sym (ap (option_map head) (edge_at_is bs ok l k ∙ ap (option_map (edge_read bs)) (sym e)))

    pub no_edge_atom : (i : ℕ) → None ≡ atom_at (model bs) l k i
    no_edge_atom i = sym (ap (λ o. atom_of o i) (edge_at_is bs ok l k ∙ ap (option_map (edge_read bs)) (sym e)))

-- what each question is proved by
pub ruleset answers = (count_answer, no_count_answer, head_answer, no_edge_head, atom_answer, no_atom_answer, no_edge_atom)
