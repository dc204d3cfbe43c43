use Rattle.std.proofs.Common.{◌≡◌, ◌≤◌, ◌*◌, ◌^◌, take}
use Rattle.std.specs.Prelude.{sum}
use Rattle.trace_rules.specs.Numbers.{IsGreatest, OrZero}
use Rattle.latency_report.proofs.measuring.sum_and_greatest.Given as goal

abbrev pub invariant-numbers : goal.invariant-numbers
invariant-numbers l = record {
  sum : l.sum ≡ sum (take l.number-index l.numbers);
  bound : l.sum ≤ l.number-index * 2 ^ 64;
  greatest : OrZero IsGreatest (take l.number-index l.numbers) l.greatest;
}
