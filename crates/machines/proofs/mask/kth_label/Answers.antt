use Rattle.std.proofs.Common.{Some, ◌<◌, length, sym, refl, ap, ◌∙◌, arith, rules}
use Rattle.std.proofs.lemmas.Iterator.{YieldsList-from_range}
use Rattle.std.proofs.lemmas.Iterator.Consumers.{fold_from_yields_List}
use Rattle.std.proofs.lemmas.List.FromFn.{length-range_with_len}
use Rattle.std.proofs.lemmas.Option.{slice_get_past}
use Rattle.std.specs.Int.Count.{count_trailing_zeros, ones}
use Rattle.std.specs.List.{slice_get, range_with_len}
use Rattle.machines.specs.Deadline.{labels_in}
use Rattle.machines.specs.Laws.Masks.{length-labels, nth_label, without_lowest}
use Rattle.machines.proofs.mask.kth_label.Goals as goal

pub returns-then-k-mask : goal.returns-then-k-mask
returns-then-k-mask c = sym (slice_get_past (labels_in c.args.mask) c.args.k (omega (arith, length-labels c.args.mask c.ranges.mask.fits)))

pub returns : goal.returns
returns c =
    let turns = range_with_len 0 c.args.k in
    let count = length-range_with_len 0 c.args.k in
    let rest = fold_from_yields_List _ (λ m _. without_lowest m) c.args.mask c.fold-rest.result c.fold-rest.ensures.ran (YieldsList-from_range 0 c.args.k c.args.k refl (omega arith)) (λ a x b q k. search rules) in
    let more : length turns < ones c.args.mask = omega (arith, count) in
    ap (λ n. Some (count_trailing_zeros 32 n)) rest ∙ sym (nth_label turns c.args.mask c.ranges.mask.fits more) ∙ ap (slice_get (labels_in c.args.mask)) count
