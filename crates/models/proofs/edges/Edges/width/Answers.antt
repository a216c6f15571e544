use Rattle.std.proofs.Common.{◌≡◌, ℕ, List, max, map, length, unwrap_or, sym, ap, ◌∙◌, arith, rules}
use Rattle.std.proofs.lemmas.Iterator.{YieldsList-from_range, YieldsList-from_map}
use Rattle.std.proofs.lemmas.Iterator.Consumers.{reduce_from_yields_List}
use Rattle.std.proofs.lemmas.List.Folds.{max_of_map, fold-map}
use Rattle.std.specs.List.{range_with_len, reduce}
use Rattle.std.specs.Ordering.{nat_cmp, max_by_ordering}
use Rattle.models.specs.Format.{locations_of}
use Rattle.models.specs.Model.{places_at, widest}
use Rattle.models.proofs.edges.Edges.width.Goals as goal

abbrev greater : ℕ → ℕ → ℕ
greater m n = max_by_ordering (nat_cmp m n) m n

abbrev count : List ℕ → ℕ → ℕ
count bs l = length (places_at bs l)

most : (bs : List ℕ) (n : ℕ) → unwrap_or (reduce greater (map (count bs) (range_with_len 0 n))) 0 ≡ widest bs n
unfolding widest
most bs n = max_of_map (count bs) (range_with_len 0 n) ∙ sym (fold-map max (count bs) 0 (range_with_len 0 n))

pub returns : goal.returns
returns c =
    let bs = c.args.self.now.bytes.now in
    let n = locations_of bs in
    let best = reduce_from_yields_List greater _ c.max.result c.max.ensures.ran
    (YieldsList-from_map _ (count bs) (YieldsList-from_range 0 n n (search rules) (omega arith)) c.map.ensures.closure (λ x r q k. search rules)) in
    c.unwrap_or.ensures ∙ ap (λ o. unwrap_or o 0) best ∙ most bs n
