-- The number, the place and the text of each refusal.
use Rattle.std.specs.Prelude.{◌≡◌, ℕ, List, ◌++◌, codes}
use Rattle.std.specs.Fmt.{decimal}
use Rattle.machines.specs.declared.refusal.Refusal.{Refusal}
use Rattle.machines.specs.declared.refusal.Refusal.TheVariants.{Frame, Kind, Shape, Range, Missing, Order, Pair, Deadline, Word, Crowd}

abbrev pub number_of : Refusal → ℕ
number_of (Frame at) = 1
number_of (Kind at) = 2
number_of (Shape at) = 3
number_of (Range at) = 4
number_of (Missing at) = 5
number_of (Order at) = 6
number_of Pair = 7
number_of Deadline = 8
number_of Word = 13
number_of (Crowd step) = 24

-- the first byte of the record that is refused, or the number of the step, or 0 where there is neither
abbrev pub place_of : Refusal → ℕ
place_of (Frame at) = at
place_of (Kind at) = at
place_of (Shape at) = at
place_of (Range at) = at
place_of (Missing at) = at
place_of (Order at) = at
place_of Pair = 0
place_of Deadline = 0
place_of Word = 0
place_of (Crowd step) = step

-- a refusal with this number and place
abbrev pub Refused : Refusal → ℕ → ℕ → Type 0
Refused e number place = (number_of e ≡ number) × (place_of e ≡ place)

abbrev pub text_of : Refusal → List ℕ
text_of e = codes "refused " ++ decimal (number_of e) ++ codes " at " ++ decimal (place_of e)
