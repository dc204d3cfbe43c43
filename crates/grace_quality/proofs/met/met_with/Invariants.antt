use Rattle.std.proofs.Common.{◌≡◌, ◌*◌, ◌≤◌}
use Rattle.std.specs.List.{range_with_len, sum_by}
use Rattle.name_meetings.specs.Tables.{figures_of}
use Rattle.grace_quality.specs.Near.{met_of}
use Rattle.grace_quality.proofs.met.met_with.Given as goal

-- those with the names so far
abbrev pub invariant-seconds : goal.invariant-seconds
invariant-seconds l = record {
  count : l.met ≡ sum_by (λ b. met_of l.first b (figures_of l.table l.first b)) (range_with_len 0 l.second);
  few : l.met ≤ 2 * l.second;
}
