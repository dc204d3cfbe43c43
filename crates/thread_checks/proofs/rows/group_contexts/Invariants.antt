use Rattle.std.proofs.Common.{◌≡◌, ◌<◌, All, length}
use Rattle.thread_checks.proofs.rows.group_contexts.Given as goal

abbrev pub invariant-contexts : goal.invariant-contexts
invariant-contexts l = record {
  size : length l.groups.items ≡ l.at;
  within : All (λ x. x < l.count) l.groups.items;
}
