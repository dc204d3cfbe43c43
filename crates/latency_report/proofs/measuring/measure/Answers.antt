use Rattle.std.proofs.Common.{◌-◌, ◌/◌, length, refl}
use Rattle.trace_rules.specs.Numbers.{IsMedian}
use Rattle.latency_report.proofs.MedianLemmas.{median_from_split, or_zero}
use Rattle.latency_report.proofs.measuring.measure.Goals as goal

pub returns : goal.returns
returns c =
    let numbers = c.args.numbers.now in
    let parts = c.select_nth_unstable-low.result in
    let says = c.select_nth_unstable-low.ensures in
    record {
      count = refl;
      sum = c.sum_and_greatest-sum.ensures.sum;
      median = or_zero IsMedian numbers parts.1.now c.if-count-eq0.false (median_from_split numbers parts.0.now parts.2.now parts.1.now ((length numbers - 1) / 2) refl says.permutation says.front_len says.partitioned);
      greatest = c.sum_and_greatest-sum.ensures.greatest;
    }
