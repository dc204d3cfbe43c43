use Rattle.std.proofs.Common.{arith}
use Rattle.page_rows.proofs.NumberLemmas.{digits_grow, digit_small, value_grows, value_small}
use Rattle.page_rows.proofs.fields.value_of.Goals as goal

pub overflow_mul-value : goal.overflow_mul-value
overflow_mul-value c =
    let h = (value_grows _ _ _ 0 c.loop-digit.invariant.small c.loop-digit-test.true c.requires.few (omega arith)).1 in
    omega (arith, h)

pub overflow_add-value : goal.overflow_add-value
overflow_add-value c =
    let h = (value_grows _ _ _ _ c.loop-digit.invariant.small c.loop-digit-test.true c.requires.few (digit_small c.args.digits.now c.loop-digit.digit-index _ c.requires.digits c.loop-digit-test.true c.from.ensures)).1 in
    omega (arith, h)

pub loop-digit-preserved : goal.loop-digit-preserved
loop-digit-preserved c = record {
  value = digits_grow c.args.digits.now c.loop-digit.digit-index c.loop-digit.value c.from.result c.requires.digits c.loop-digit-test.true c.loop-digit.invariant.value c.from.ensures;
  small = (value_grows _ _ _ _ c.loop-digit.invariant.small c.loop-digit-test.true c.requires.few (digit_small c.args.digits.now c.loop-digit.digit-index _ c.requires.digits c.loop-digit-test.true c.from.ensures)).0;
}

pub returns-clause-small : goal.returns-clause-small
returns-clause-small c = value_small _ _ c.loop-digit.invariant.small (omega arith)
