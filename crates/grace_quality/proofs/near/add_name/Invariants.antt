use Rattle.std.proofs.Common.{◌≡◌, ◌++◌}
use Rattle.std.specs.List.{flat_map, range_with_len}
use Rattle.name_meetings.specs.Tables.{figures_of}
use Rattle.grace_quality.specs.Near.{near_of}
use Rattle.grace_quality.proofs.near.add_name.Given as goal

-- the rows of the names so far stand behind the others
abbrev pub invariant-seconds : goal.invariant-seconds
invariant-seconds l = l.rows.items ≡ l.initial.rows.items ++ flat_map (λ b. near_of l.first b (figures_of l.table l.first b)) (range_with_len 0 l.second)
