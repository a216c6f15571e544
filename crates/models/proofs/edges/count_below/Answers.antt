use Rattle.std.proofs.Common.{◌≡◌, ℕ, ◌+◌, ◌-◌, ◌<◌, ◌≤◌, List, length, drop, slice_index, sym, ap, subst, ◌∙◌, arith, rules, tests, inl, inr}
use Rattle.std.proofs.lemmas.Bool.{cases_lt}
use Rattle.std.proofs.lemmas.Iterator.{YieldsList-from_slice, IsFirst-from_position}
use Rattle.std.proofs.lemmas.List.{get_or-drop, length-drop, take_rest}
use Rattle.std.specs.List.{AllWithin}
use Rattle.models.specs.Format.{from_of, Accepted}
use Rattle.models.specs.Model.{places_of, below}
use Rattle.models.specs.Laws.Counts.{below_is}
use Rattle.models.specs.Laws.Places.{few_edges}
use Rattle.models.proofs.edges.count_below.Goals as goal

module _ (bs places : List ℕ) (l : ℕ) where
  -- an edge that leaves a lower location
  abbrev low : ℕ → Type 0
  low at = from_of bs at < l

  -- all before n are low, where the first `known` are, and those from there on up to n
  goes_on : (known n : ℕ) → ((k : ℕ) → k < known → low (slice_index places k)) → AllWithin low (drop known places) 0 (n - known) → (k : ℕ) → k < n → low (slice_index places k)
  goes_on known n before more k h =
      elim (cases_lt k known) [
        | inl lt ↦ before k lt
        | inr ge ↦
            let same : known + (k - known) ≡ k = omega arith in
            subst low (get_or-drop known places (k - known) 0 ∙ ap (λ i. slice_index places i) same) (more (k - known) 0 (omega arith) (omega arith))
      ]

  counted : (i : ℕ) → Accepted bs → places ≡ places_of bs → i ≤ length places
      → ((k : ℕ) → k < i → low (slice_index places k)) → (i < length places → l ≤ from_of bs (slice_index places i)) → i ≡ below bs l
  counted i ok is =
      subst (λ ps. i ≤ length ps → ((k : ℕ) → k < i → low (slice_index ps k)) → (i < length ps → l ≤ from_of bs (slice_index ps i)) → i ≡ below bs l) (sym is)
      (λ h before here. sym (below_is bs ok l i h before here))

pub returns-in-Some : goal.returns-in-Some
returns-in-Some c =
    let bs = c.args.bytes.now in
    let places = c.args.places.now in
    let l = c.args.location in
    let known = c.args.known in
    let first = rw c.in-Some.is at (IsFirst-from_position _ _ c.position-more.result (λ at. l ≤ from_of bs at) (λ at. from_of bs at < l) c.position-more.ensures.ran (YieldsList-from_slice (drop known places) (cc (take_rest places known))) (λ x q k. search (rules, tests)) (λ x q k. search (rules, tests))) in
    let long = length-drop known places in
    let before = goes_on bs places l known (known + c.in-Some.more) c.requires.known.1 (λ k d a h. first.2 k d a (omega arith)) in
    let here : l ≤ from_of bs (slice_index places (known + c.in-Some.more)) = subst (λ at. l ≤ from_of bs at) (get_or-drop known places c.in-Some.more 0) (first.1 0) in
    let within : known + c.in-Some.more ≤ length places = omega (arith, first.0, long, c.requires.known.0) in
    record {
      count = counted bs places l _ c.requires.accepted.0 c.requires.accepted.1 within before (λ h. here);
      few = omega (arith, within, ap length c.requires.accepted.1, few_edges bs);
      known = (within, before);
    }

pub returns-in-None : goal.returns-in-None
returns-in-None c =
    let bs = c.args.bytes.now in
    let places = c.args.places.now in
    let l = c.args.location in
    let known = c.args.known in
    let all = rw c.in-None.is at (IsFirst-from_position _ _ c.position-more.result (λ at. l ≤ from_of bs at) (λ at. from_of bs at < l) c.position-more.ensures.ran (YieldsList-from_slice (drop known places) (cc (take_rest places known))) (λ x q k. search (rules, tests)) (λ x q k. search (rules, tests))) in
    let before = goes_on bs places l known (length places) c.requires.known.1 (λ k d a h. all k d a (omega (arith, length-drop known places))) in
    record {
      count = counted bs places l _ c.requires.accepted.0 c.requires.accepted.1 (omega arith) before (λ h. absurd (omega arith));
      few = omega (arith, ap length c.requires.accepted.1, few_edges bs);
      known = (omega arith, before);
    }
