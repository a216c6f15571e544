-- What the faults of a line are called, and which come from others.
use Rattle.std.specs.Prelude.{ℕ, List, codes}
use Rattle.hex.specs.declared.error.FromHexError.{FromHexError}
use Rattle.hex.specs.declared.error.FromHexError.TheVariants.{OutOfMemory}
use Rattle.scripts.specs.declared.fault.Fault.{Fault}
use Rattle.scripts.specs.declared.fault.Fault.TheVariants.{Memory, Unknown, Words, Number, Hex, Step, Missing, Paired, File}

-- what is printed of each
abbrev pub message : Fault → List ℕ
message Memory = codes "out of memory"
message Unknown = codes "unknown statement"
message Words = codes "wrong number of words"
message Number = codes "not a number of 32 bits"
message Hex = codes "not pairs of hexadecimal digits"
message Step = codes "not a delay, a colon and a label"
message Missing = codes "no machine has this name"
message Paired = codes "a pair is no part of a pair"
message File = codes "the file cannot be read"

-- the fault of a text that was not decoded
abbrev pub fault_of : FromHexError → Fault
fault_of OutOfMemory = Memory
fault_of _ = Hex
