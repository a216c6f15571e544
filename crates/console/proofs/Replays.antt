-- What a word is answered.
use Rattle.std.proofs.Common.{◌≡◌, ℕ, Bool, List, Result, subst, ap₂}
use Rattle.machines.specs.Automaton.{Automaton}
use Rattle.pairs.specs.Product.{pair_of}
use Rattle.machines.specs.declared.refusal.Refusal.{Refusal}
use Rattle.words.specs.Words.{Letter}
use Rattle.words.specs.Replays.{Replayed}

-- the same automaton is answered alike
pub on_same : (A B : Automaton) (N : ℕ) (w : List Letter) (r : Result Bool Refusal) → Replayed A N w r → A ≡ B → Replayed B N w r
on_same A B N w r h is = subst (λ A. Replayed A N w r) is h

-- and so are the pairs of the same automata
pub on_pair : (A B C D : Automaton) (N : ℕ) (w : List Letter) (r : Result Bool Refusal) → Replayed (pair_of A B) N w r → A ≡ C → B ≡ D → Replayed (pair_of C D) N w r
on_pair A B C D N w r h left right = on_same (pair_of A B) (pair_of C D) N w r h (ap₂ pair_of left right)
