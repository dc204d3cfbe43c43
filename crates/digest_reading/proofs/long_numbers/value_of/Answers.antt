use Rattle.std.proofs.Common.{arith}
use Rattle.digest_reading.proofs.DigitLemmas.{digits_grow, digits_over}
use Rattle.digest_reading.proofs.long_numbers.value_of.Goals as goal

pub returns-then-value-from : goal.returns-then-value-from
returns-then-value-from c =
    digits_over c.args.digits.now _ _ (digits_grow c.args.digits.now c.loop-digit.digit-index c.loop-digit.value c.from.result c.requires c.loop-digit-test.true c.loop-digit.invariant.value c.from.ensures) (omega arith)

pub loop-digit-preserved : goal.loop-digit-preserved
loop-digit-preserved c = record {
  value = digits_grow c.args.digits.now c.loop-digit.digit-index c.loop-digit.value c.from.result c.requires c.loop-digit-test.true c.loop-digit.invariant.value c.from.ensures;
  small = omega arith;
}
