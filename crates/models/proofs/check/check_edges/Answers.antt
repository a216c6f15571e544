use Rattle.std.proofs.Common.{◌≡◌, ℕ, ◌+◌, ◌-◌, ◌<◌, List, [], ◌∷◌, ◌++◌, length, ◌≢◌, sym, ap, ◌∙◌, arith}
use Rattle.std.proofs.lemmas.List.{append-nil, append_assoc}
use Rattle.models.specs.Format.{size_of, from_of, edges_verdict}
use Rattle.models.specs.Model.{places_from}
use Rattle.models.specs.Laws.Files.{edge_from, edges_done, edges_passed}
use Rattle.models.specs.Laws.Places.{places_done, places_step}
use Rattle.models.proofs.check.check_edges.Goals as goal

-- one place more
more_places : (bs ps : List ℕ) (room at : ℕ) → (at ≢ length bs) → 0 < room → (ps ++ at ∷ []) ++ places_from (room - 1) bs (at + size_of bs at) ≡ ps ++ places_from room bs at
more_places bs ps room at ne h = append_assoc ps (at ∷ []) (places_from (room - 1) bs (at + size_of bs at)) ∙ ap (λ qs. ps ++ qs) (sym (places_step bs room at ne h))

pub loop-at-preserved : goal.loop-at-preserved
loop-at-preserved c =
    let bs = c.args.bytes.now in
    let ps = c.loop-at.places.items in
    let at = c.loop-at.at in
    let room = c.remaining_capacity.result in
    let accepted = sym c.check_edge.ensures ∙ c.in_ok-check_edge.was in
    let e = edge_from bs at room c.loop-at.previous accepted in
    let ne : at ≢ length bs = omega arith in
    let before : 1024 - length ps ≡ room = omega arith in
    let after : 1024 - length c.push.new.self.items ≡ room - 1 = omega arith in
    let passed : edges_verdict (1024 - length ps) bs at c.loop-at.previous ≡ edges_verdict (room - 1) bs (at + size_of bs at) (from_of bs at) = rw before (edges_passed bs room at c.loop-at.previous ne accepted) in
    let more = more_places bs ps room at ne e.1 in
    rw (after, c.push.ensures.items, c.size.ensures) (record {
      within = omega (arith, e.0.whole);
      same = c.loop-at.invariant.same ∙ passed ∙ (cc);
      all = more ∙ rw (← before) c.loop-at.invariant.all;
    })

pub returns : goal.returns
returns c =
    let bs = c.args.bytes.now in
    let last : c.loop-at.at ≡ length bs = omega arith in
    let room = 1024 - length c.loop-at.places.items in (
      c.loop-at.invariant.same ∙ edges_done bs room c.loop-at.at c.loop-at.previous last,
      sym (append-nil _) ∙ ap (λ ps. c.loop-at.places.items ++ ps) (sym (places_done bs room c.loop-at.at last)) ∙ c.loop-at.invariant.all,
    )
