-- Numbers as a script writes them.
use Rattle.std.specs.Prelude.{◌≡◌, ℕ, ◌+◌, ◌*◌, ◌%◌, ◌^◌, ◌<◌, Bool, cond, ◌&&◌, List, [], ◌∷◌, length, drop, ◌==◌, slice_index}
use Rattle.std.specs.Str.Parse.{digits_value, AllDigits}
use Rattle.std.specs.Char.{digit_value}

-- digits in a base, whose number fits 32 bits
abbrev pub Numeral : ℕ → List ℕ → Type 0
Numeral radix ds = (0 < length ds) × AllDigits radix ds × (digits_value radix ds < 2 ^ 32)

-- the word begins with 0x
abbrev pub prefixed : List ℕ → Bool
prefixed w = slice_index w 1 == 120 && slice_index w 0 == 48

-- decimal digits, or hexadecimal ones after 0x
abbrev pub Written : List ℕ → Type 0
Written w = cond (prefixed w) (Numeral 16 (drop 2 w)) (Numeral 10 w)

abbrev pub written : List ℕ → ℕ
written w = cond (prefixed w) (digits_value 16 (drop 2 w)) (digits_value 10 w)

-- the word writes the number n
abbrev pub Writes : List ℕ → ℕ → Type 0
Writes w n = Written w × (n ≡ written w)

-- pairs of hexadecimal digits
abbrev pub IsHex : List ℕ → Type 0
IsHex ds = (length ds % 2 ≡ 0) × AllDigits 16 ds

-- the bytes that they write
abbrev pub unhexed : List ℕ → List ℕ
unhexed [] = []
unhexed (a ∷ []) = []
unhexed (a ∷ b ∷ more) = (digit_value a * 16 + digit_value b) ∷ unhexed more
