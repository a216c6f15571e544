-- Texts that are decoded, and those that are not.
use Rattle.std.proofs.Common.{◌≡◌, ℕ, ◌+◌, ◌*◌, ◌<◌, ◌≤◌, true, List, [], ◌∷◌, nat_lt, Some, Ok, Err, ◌⊎◌, inl, inr, refl, ap, ◌∙◌, sym, arith}
use Rattle.std.proofs.lemmas.Bool.{cases_lt, ltb-true, agree_below_at}
use Rattle.std.proofs.lemmas.List.Elements.{All-head, All-tail}
use Rattle.std.specs.Char.{digit_value}
use Rattle.std.specs.List.{AllPass}
use Rattle.std.specs.Str.Parse.{AllDigits}
use Rattle.hex.specs.declared.error.FromHexError.{FromHexError}
use Rattle.hex.specs.Hex.{decode_of, decode_pairs, hex_digit_value, is_hex_digit, pair_value}
use Rattle.hex.proofs.HexLemmas.{decode_of-err, decode_of-even, decode_of-ok, decode_of-same}
use Rattle.hex.proofs.Pairs.{cons_byte, decode_pairs-ok_pair}
use Rattle.hex.specs.declared.error.FromHexError.TheVariants.{OutOfMemory}
use Rattle.scripts.specs.declared.fault.Fault.TheVariants.{Hex, Memory}
use Rattle.scripts.specs.Faults.{fault_of}
use Rattle.scripts.specs.Numbers.{IsHex, unhexed}

-- the library and the definitions read a digit alike
digit_reads : (c : ℕ) → digit_value c < 16 → hex_digit_value c ≡ Some (digit_value c)
digit_reads c h = grind arith

past_z : (c : ℕ) → 123 ≤ c → is_hex_digit c ≡ nat_lt (digit_value c) 16
past_z c h = grind arith

tests_agree : (c : ℕ) → is_hex_digit c ≡ nat_lt (digit_value c) 16
tests_agree c = elim (cases_lt c 123) [ inl below ↦ agree_below_at is_hex_digit (λ d. nat_lt (digit_value d) 16) 123 c refl below | inr past ↦ past_z c past ]

hex_digit_below : (c : ℕ) → is_hex_digit c ≡ true → digit_value c < 16
hex_digit_below c h = ltb-true (digit_value c) 16 (sym (tests_agree c) ∙ h)

all_digits : (ds : List ℕ) → AllPass is_hex_digit ds → AllDigits 16 ds
all_digits [] all = tt
all_digits (d ∷ ds) all = (hex_digit_below d (All-head (λ c. is_hex_digit c ≡ true) d ds all), all_digits ds (All-tail (λ c. is_hex_digit c ≡ true) d ds all))

pairs_read : (i : ℕ) (ds : List ℕ) → IsHex ds → decode_pairs i ds ≡ Ok (unhexed ds)
unfolding decode_pairs
pairs_read i [] hex = refl
pairs_read i (a ∷ []) hex = absurd (omega arith)
pairs_read i (a ∷ b ∷ ds) hex =
    let pair : pair_value a b i ≡ Ok (digit_value a * 16 + digit_value b) = rw (digit_reads a hex.1.0, digit_reads b hex.1.1.0) refl in
    decode_pairs-ok_pair i a b _ ds pair ∙ ap (cons_byte (digit_value a * 16 + digit_value b)) (pairs_read (i + 2) ds (omega arith, hex.1.1.1))

hex_is_read : (ds : List ℕ) → IsHex ds → decode_of ds ≡ Ok (unhexed ds)
hex_is_read ds hex = decode_of-even ds hex.0 ∙ pairs_read 0 ds hex

pub read_is_hex : (ds bytes : List ℕ) → decode_of ds ≡ Ok bytes → IsHex ds × (bytes ≡ unhexed ds)
read_is_hex ds bytes read =
    let parts = decode_of-ok ds bytes read in
    let hex : IsHex ds = (parts.0, all_digits ds parts.1) in
    (hex, decode_of-same ds bytes (unhexed ds) read (hex_is_read ds hex))

not_hex : (ds : List ℕ) (e : FromHexError) → decode_of ds ≡ Err e → IsHex ds → ⊥
not_hex ds e unread hex = cc (sym unread ∙ hex_is_read ds hex)

pub unread : (ds : List ℕ) (e : FromHexError) → (e ≡ OutOfMemory) ⊎ (decode_of ds ≡ Err e) → (fault_of e ≡ Memory) ⊎ ((fault_of e ≡ Hex) × (IsHex ds → ⊥))
unread ds e (inl full) = rw full (inl refl)
unread ds e (inr refused) =
    elim (decode_of-err ds e refused) [ inl odd ↦ inr (ap fault_of odd.1, not_hex ds e refused) | inr bad ↦ inr (ap fault_of bad.1, not_hex ds e refused) ]

-- what the library decodes is what the definitions read
pub ruleset decoding = (read_is_hex, unread)
