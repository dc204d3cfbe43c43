use Rattle.std.proofs.Common.{◌≡◌, ◌*◌, ◌≤◌}
use Rattle.std.specs.List.{range_with_len, sum_by}
use Rattle.name_meetings.specs.Tables.{figures_of}
use Rattle.grace_quality.specs.inner.Listings.{met_with}
use Rattle.grace_quality.proofs.met.count_met.Given as goal

-- those of the names so far
abbrev pub invariant-firsts : goal.invariant-firsts
invariant-firsts l = record {
  count : l.met ≡ sum_by (met_with (figures_of l.table) l.names) (range_with_len 0 l.first);
  few : l.met ≤ 1024 * l.first;
}
