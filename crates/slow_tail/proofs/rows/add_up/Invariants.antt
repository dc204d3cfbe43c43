use Rattle.std.proofs.Common.{◌≡◌, ◌≤◌, ◌*◌, ◌^◌, take}
use Rattle.std.specs.Prelude.{sum}
use Rattle.slow_tail.proofs.rows.add_up.Given as goal

abbrev pub invariant-numbers : goal.invariant-numbers
invariant-numbers l = record {
  sum : l.sum ≡ sum (take l.number-index l.numbers);
  bound : l.sum ≤ l.number-index * 2 ^ 64;
}
