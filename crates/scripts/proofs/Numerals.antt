-- The digits of a number, one by one.
use Rattle.std.proofs.Common.{◌≡◌, ℕ, zero, suc, ◌+◌, ◌*◌, ◌^◌, ◌<◌, List, [], ◌∷◌, length, get_or, take, ap, arith}
use Rattle.std.proofs.lemmas.Int.Digits.{digits_value_more}
use Rattle.std.proofs.lemmas.Str.Parse.{digits_value-take-le}
use Rattle.std.specs.Str.Parse.{digits_value, AllDigits}
use Rattle.std.specs.Char.{digit_value}
use Rattle.scripts.specs.Numbers.{Numeral}

pub digit_below : (radix : ℕ) (ds : List ℕ) (i : ℕ) → AllDigits radix ds → i < length ds → digit_value (get_or ds i 0) < radix
digit_below radix [] i all h = absurd (omega arith)
digit_below radix (d ∷ ds) zero all h = all.0
digit_below radix (d ∷ ds) (suc i) all h = digit_below radix ds i all.1 (omega arith)

-- the number up to a digit and with it fits, where that of all digits does
pub next_fits : (radix : ℕ) (ds : List ℕ) (i sum : ℕ) → 0 < radix → Numeral radix ds → i < length ds → sum ≡ digits_value radix (take i ds) → sum * radix + digit_value (get_or ds i 0) < 2 ^ 32
next_fits radix ds i sum h all lt is =
    let here = ap (λ n. n * radix) is in omega (arith, here, digits_value_more radix ds i lt, digits_value-take-le radix ds (i + 1) h, all.2)
