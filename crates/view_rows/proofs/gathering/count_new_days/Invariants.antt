use Rattle.std.proofs.Common.{◌≤◌, take}
use Rattle.view_rows.specs.inner.Gathered.{CountsOthers, days_in}
use Rattle.view_rows.proofs.gathering.count_new_days.Given as goal

abbrev pub invariant-loop-place : goal.invariant-loop-place
invariant-loop-place l = record {
  so_far : CountsOthers l.listed (days_in (take l.place l.book.book.days)) l.count;
  few : l.count ≤ l.place;
}
