-- Which of two machines answers.
use Rattle.std.specs.Prelude.{if◌then◌else◌}
use Rattle.machines.specs.declared.choice.Choice.{Choice}
use Rattle.machines.specs.declared.choice.Choice.TheVariants.{Both, First, Second}

-- the choice of the machine that answers, alone
abbrev pub taken : {A B : Type 0} → Choice A B → Choice A B
taken (First m) = First m
taken (Second m) = Second m
taken (Both first second takes) = if takes then Second second else First first
