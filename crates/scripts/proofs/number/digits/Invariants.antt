use Rattle.std.proofs.Common.{◌≡◌, ◌^◌, ◌<◌, take}
use Rattle.std.specs.Str.Parse.{digits_value, AllDigits}
use Rattle.scripts.proofs.number.digits.Given as goal

-- the digits so far, and their number
abbrev pub invariant-loop-b : goal.invariant-loop-b
invariant-loop-b l = record {
  small : l.sum < 2 ^ 32;
  digits : AllDigits l.radix (take l.b-index l.text);
  number : l.sum ≡ digits_value l.radix (take l.b-index l.text);
}
