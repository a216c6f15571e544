use Rattle.std.proofs.Common.{◌*◌, ap, arith}
use Rattle.std.proofs.lemmas.Int.Digits.{digits_value_more, digits_more}
use Rattle.scripts.proofs.Numerals.{digit_below, next_fits}
use Rattle.scripts.proofs.number.digits.Goals as goal

pub returns-in_err-digit : goal.returns-in_err-digit
returns-in_err-digit c =
    rw c.from_residual.ensures (λ all. c.in_err-digit.ensures.value (digit_below c.args.radix c.args.text.now c.loop-b.b-index all.1 c.loop-b-test.true))

pub returns-in_err-checked_mul : goal.returns-in_err-checked_mul
returns-in_err-checked_mul c =
    rw c.from_residual-in_err-checked_mul.ensures
    (λ all. c.in_err-checked_mul.ensures (omega (arith, next_fits c.args.radix c.args.text.now c.loop-b.b-index c.loop-b.sum (omega arith) all c.loop-b-test.true c.loop-b.invariant.number)))

pub returns-in_err-sum : goal.returns-in_err-sum
returns-in_err-sum c =
    rw c.from_residual-in_err-sum.ensures
    (λ all. c.in_err-sum.ensures (omega (arith, next_fits c.args.radix c.args.text.now c.loop-b.b-index c.loop-b.sum (omega arith) all c.loop-b-test.true c.loop-b.invariant.number, c.in_ok-checked_mul.ensures, c.in_ok-digit.ensures.value)))

pub loop-b-preserved : goal.loop-b-preserved
loop-b-preserved c =
    let ds = c.args.text.now in
    let radix = c.args.radix in
    let digit = c.in_ok-digit.ensures.value in
    let here = ap (λ n. n * radix) c.loop-b.invariant.number in record {
      small = omega (arith, c.in_ok-sum.ensures);
      digits = digits_more radix ds c.loop-b.b-index c.loop-b-test.true c.loop-b.invariant.digits digit.0;
      number = omega (arith, c.in_ok-sum.ensures, c.in_ok-checked_mul.ensures, digit.1, here, digits_value_more radix ds c.loop-b.b-index c.loop-b-test.true);
    }
