use Rattle.words.proofs.Splits.{pair_words_lem}
use Rattle.words.proofs.laws.pair_words.Goals as goal

pub returns : goal.returns
returns g c =
    let l = c.args.left.now in
    let r = c.args.right.now in
    pair_words_lem (g.L.Machine.meaning l) (g.R.Machine.meaning r) (g.L.Machine.lawful l) (g.R.Machine.lawful r)
