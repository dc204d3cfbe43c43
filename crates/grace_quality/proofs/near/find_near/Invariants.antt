use Rattle.std.proofs.Common.{◌≡◌}
use Rattle.std.specs.List.{flat_map, range_with_len}
use Rattle.name_meetings.specs.Tables.{figures_of}
use Rattle.grace_quality.specs.inner.Listings.{rows_of_name}
use Rattle.grace_quality.proofs.near.find_near.Given as goal

-- the rows of the names so far
abbrev pub invariant-firsts : goal.invariant-firsts
invariant-firsts l = l.rows.items ≡ flat_map (rows_of_name (figures_of l.table) l.names) (range_with_len 0 l.first)
