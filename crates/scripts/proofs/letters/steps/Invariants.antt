use Rattle.std.proofs.Common.{◌≡◌, map, take, drop, vec_items}
use Rattle.scripts.specs.Letters.{LettersAre}
use Rattle.scripts.proofs.letters.steps.Given as goal

abbrev pub invariant-loop-word : goal.invariant-loop-word
invariant-loop-word l = record {
  fourth_on : l.word-items ≡ drop 3 l.words;
  so_far : LettersAre (map (λ x. x.now) (take l.word-index l.word-items)) (vec_items l.all);
}
