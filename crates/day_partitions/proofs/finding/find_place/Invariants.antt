use Rattle.std.proofs.Common.{ℕ, ◌-◌, ◌<◌, ◌≤◌, length, get_or}
use Rattle.day_partitions.specs.declared.day.Day.{Day}
use Rattle.day_partitions.proofs.finding.find_place.Given as goal

abbrev pub invariant-days : goal.invariant-days
invariant-days l =
    record {
      within : l.place ≤ length l.days;
      below : (k : ℕ) (e : Day) → k < l.place → (get_or l.days k e).day < l.day;
    }

abbrev pub decreases-days : goal.decreases-days
decreases-days l = length l.initial.days - l.place
