-- One of two lawful automata is lawful.
use Rattle.std.specs.Prelude.{Bool, true, false, cond}
use Rattle.machines.specs.Automaton.{Automaton, Lawful}

pub chosen_lawful : (b : Bool) {A B : Automaton} → Lawful A → Lawful B → Lawful (cond b A B)
chosen_lawful true p q = p
chosen_lawful false p q = q
