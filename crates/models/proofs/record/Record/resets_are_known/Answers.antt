use Rattle.std.proofs.Common.{◌≡◌, ℕ, ◌^◌, ◌<◌, ltb, min, ap, arith, inl, inr}
use Rattle.std.proofs.lemmas.Bool.{cases_lt}
use Rattle.std.proofs.lemmas.Bool.Decides.{nat_tests}
use Rattle.std.proofs.lemmas.Nat.{one_shl}
use Rattle.std.proofs.Math.Pow.{pow_mono}
use Rattle.models.proofs.record.Record.resets_are_known.Goals as goal

-- a mask of eight bits has none past the eighth
capped : (mask n : ℕ) → mask < 256 → ltb mask (2 ^ min n 8) ≡ ltb mask (2 ^ n)
capped mask n h =
    elim (cases_lt n 8) [
      | inl lt ↦ let same : min n 8 ≡ n = omega arith in ap (λ m. ltb mask (2 ^ m)) same
      | inr ge ↦ let same : min n 8 ≡ 8 = omega arith in let more = pow_mono {i = 8} {j = n} ge in grind (arith, nat_tests)
    ]

pub returns : goal.returns
returns c =
    let shift = one_shl c.min-clocks.result 32 (omega arith) in
    let same = capped c.resets.result c.clocks.result (omega arith) in
    cc
