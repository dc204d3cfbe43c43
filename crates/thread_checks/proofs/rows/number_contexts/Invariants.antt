use Rattle.std.proofs.Common.{◌≡◌, ◌<◌, All, length}
use Rattle.thread_checks.proofs.rows.number_contexts.Given as goal

abbrev pub invariant-contexts : goal.invariant-contexts
invariant-contexts l = record {
  size : length l.numbers.items ≡ l.at;
  within : All (λ x. x < l.count) l.numbers.items;
}
