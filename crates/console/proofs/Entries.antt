-- The names that a map is read as.
use Rattle.std.proofs.Common.{◌≡◌, ℕ, List, [], ◌∷◌, map, Vec, vec_items, Some, cond, refl, ap, sym, ◌∙◌}
use Rattle.std.specs.Ordering.{nat_cmp, match_ordering}
use Rattle.std.specs.declared.cmp.Ordering.TheVariants.{Less, Equal, Greater}
use Rattle.std.specs.Cmp.Lexicographic.{slice_cmp, nat_list_cmp_total}
use Rattle.std.specs.FinMap.{get, insert, find, put, get-from_entries, get-insert, same_map, slice_cmp-IsAntisymmetric, nat_cmp-IsAntisymmetric}
use Rattle.std.specs.FinMap.Entries.{by_order, find-put}
use Rattle.std.specs.Map.{lookup}
use Rattle.std.specs.BTreeMap.{BTreeMap, get_by, is_at, insert_entry}
use Rattle.console.specs.Names.{entry, read}

module _ {X Y : Type 0} where
  found : (q : List ℕ) (es : List (Vec ℕ Y × X)) → find (slice_cmp nat_cmp) q (map entry es) ≡ lookup (is_at (λ k. slice_cmp nat_cmp q (vec_items k))) es
  found q [] = refl
  found q (e ∷ es) = ap (cond (is_at (λ k. slice_cmp nat_cmp q (vec_items k)) e.0) (Some e.1)) (found q es)

  -- a name is read as what it has in the map
  pub get-read : (m : BTreeMap (Vec ℕ Y) X) (q : List ℕ) → get (read m) q ≡ get_by (λ k. slice_cmp nat_cmp q (vec_items k)) m
  get-read m q = get-from_entries nat_list_cmp_total (map entry m.entries) q ∙ found q m.entries

  putting : (k : Vec ℕ Y) (v : X) (es : List (Vec ℕ Y × X)) → map entry (insert_entry (λ x y. slice_cmp nat_cmp (vec_items x) (vec_items y)) es k v) ≡ put (slice_cmp nat_cmp) (vec_items k) v (map entry es)
  putting k v [] = refl
  putting k v (e ∷ es) =
      elim (slice_cmp nat_cmp (vec_items k) (vec_items e.0)) as (λ o. map entry (match_ordering o ((k, v) ∷ e ∷ es) ((e.0, v) ∷ es) (e ∷ insert_entry (λ x y. slice_cmp nat_cmp (vec_items x) (vec_items y)) es k v))
      ≡ by_order o ((vec_items k, v) ∷ map entry (e ∷ es)) ((vec_items e.0, v) ∷ map entry es) (entry e ∷ put (slice_cmp nat_cmp) (vec_items k) v (map entry es))) [
        | Less ↦ refl
        | Equal ↦ refl
        | Greater ↦ ap (λ rest. entry e ∷ rest) (putting k v es)
      ]

  -- a map with a name more is read as the names with that one
  pub read-insert : (m n : BTreeMap (Vec ℕ Y) X) (k : Vec ℕ Y) (v : X) → n.entries ≡ insert_entry (λ x y. slice_cmp nat_cmp (vec_items x) (vec_items y)) m.entries k v → read n ≡ insert (read m) (vec_items k) v
  read-insert m n k v is =
      same_map nat_list_cmp_total (slice_cmp-IsAntisymmetric nat_cmp-IsAntisymmetric) (read n) (insert (read m) (vec_items k) v) (λ q.
      get-from_entries nat_list_cmp_total (map entry n.entries) q
      ∙ ap (find (slice_cmp nat_cmp) q) (ap (map entry) is ∙ putting k v m.entries)
      ∙ find-put (slice_cmp nat_cmp) nat_list_cmp_total q (vec_items k) v (map entry m.entries)
      ∙ sym (get-insert nat_list_cmp_total (read m) (vec_items k) v q ∙ ap (cond _ (Some v)) (get-from_entries nat_list_cmp_total (map entry m.entries) q)))

-- what a session's map has at a name, and after a name is given
pub ruleset reading = (get-read, read-insert)
