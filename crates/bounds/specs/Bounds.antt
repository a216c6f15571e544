-- Bounds over a scale: a limit, which has a code, or no limit.
use Rattle.std.specs.Prelude.{ℕ, Bool, true, false, ◌&&◌, if◌then◌else◌, ℤ, pos, Some, None, Option, is_some, int_le}
use Rattle.std.specs.Option.{option_map, option_map_or, unwrap_or}
use Rattle.std.specs.Ordering.{int_eq}
use Rattle.bounds.specs.declared.bound.Bound.{Bound}
use Rattle.bounds.specs.Scales.{free_code, lowest, highest}

-- limits are in the order of their codes, and no limit is above every limit
abbrev pub limit_leq : Option ℤ → Option ℤ → Bool
limit_leq a None = true
limit_leq None (Some y) = false
limit_leq (Some x) (Some y) = int_le x y

-- a sum with no limit is no limit
abbrev pub limit_sum : (ℤ → ℤ → ℤ) → Option ℤ → Option ℤ → Option ℤ
limit_sum sum None b = None
limit_sum sum (Some x) None = None
limit_sum sum (Some x) (Some y) = Some (sum x y)

-- a code of a limit that is read back
abbrev pub is_filed : (ℤ → ℤ) → (ℤ → ℤ) → ℤ → Bool
is_filed most below x = int_le (lowest below) x && int_le x (highest most)

module _ {S : Type 0} where
  abbrev pub bound_of : Option ℤ → Bound S
  bound_of limit = record { limit = limit; scale = record {} }

  abbrev pub bound_leq : Bound S → Bound S → Bool
  bound_leq a b = limit_leq a.limit b.limit

  abbrev pub bound_sum : (ℤ → ℤ → ℤ) → Bound S → Bound S → Bound S
  bound_sum sum a b = bound_of (limit_sum sum a.limit b.limit)

  abbrev pub bound_weight : (ℤ → ℕ) → Bound S → ℕ
  bound_weight weight b = option_map_or weight b.limit 0

  abbrev pub bound_limited : Bound S → Bool
  bound_limited b = is_some b.limit

  abbrev pub bound_greatest : (ℤ → ℕ → ℤ) → Bound S → ℕ → ℤ
  bound_greatest greatest b N = option_map_or (λ x. greatest x N) b.limit (pos 0)

  -- the limit made from c, whose code is `most c` or `below c`
  abbrev pub bound_made : (ℤ → ℤ) → ℤ → Bound S
  bound_made code c = bound_of (Some (code c))

  abbrev pub bound_free : Bound S
  bound_free = bound_of None

  abbrev pub bound_opposite : (ℤ → ℤ) → Bound S → Bound S
  bound_opposite opposite b = bound_of (option_map opposite b.limit)

  abbrev pub bound_code : Bound S → ℤ
  bound_code b = unwrap_or b.limit free_code

  abbrev pub bound_read : (ℤ → ℤ) → (ℤ → ℤ) → ℤ → Option (Bound S)
  bound_read most below z =
      if int_eq z free_code then Some bound_free
      else (if is_filed most below z then Some (bound_of (Some z)) else None)
