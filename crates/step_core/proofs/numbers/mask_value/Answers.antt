use Rattle.std.proofs.Common.{arith}
use Rattle.std.proofs.lemmas.Int.Digits.{digits_value_more}
use Rattle.step_core.proofs.DigitLemmas.{mask_grows}
use Rattle.step_core.proofs.numbers.mask_value.Goals as goal

pub overflow_mul-value : goal.overflow_mul-value
overflow_mul-value c = omega (arith, (mask_grows c.loop-digit.value c.loop-digit.digit-index _ 0 c.loop-digit.invariant.small c.loop-digit-test.true c.requires.few (omega arith)).1)

pub overflow_add-value : goal.overflow_add-value
overflow_add-value c = omega (arith, (mask_grows c.loop-digit.value c.loop-digit.digit-index _ c.from.result c.loop-digit.invariant.small c.loop-digit-test.true c.requires.few (omega arith)).1)

pub loop-digit-preserved : goal.loop-digit-preserved
loop-digit-preserved c = record {
  value = omega (arith, digits_value_more 16 c.args.digits.now c.loop-digit.digit-index c.loop-digit-test.true, c.loop-digit.invariant.value, c.from.ensures, c.digit_value.ensures.value);
  small = (mask_grows c.loop-digit.value c.loop-digit.digit-index _ c.from.result c.loop-digit.invariant.small c.loop-digit-test.true c.requires.few (omega arith)).0;
}
