use Rattle.words.proofs.Runs.{empty_is_word, prefix_is_word, runs_join}
use Rattle.words.proofs.laws.run_laws.Goals as goal

pub returns : goal.returns
returns g c = let A = g.M.Machine.meaning c.args.m.now in record { empty = empty_is_word A; prefix = prefix_is_word A; join = runs_join A }
