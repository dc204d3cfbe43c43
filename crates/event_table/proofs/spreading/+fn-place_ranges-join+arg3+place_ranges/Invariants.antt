use Rattle.std.proofs.Common.{◌-◌}
use Rattle.event_table.proofs.spreading.+fn-place_ranges-join+arg3+place_ranges.Given as goal

abbrev pub decreases-place_ranges : goal.decreases-place_ranges
decreases-place_ranges g l = l.ranges

abbrev pub decreases-join+arg3 : goal.decreases-join+arg3
decreases-join+arg3 g l = l.ranges - 1
