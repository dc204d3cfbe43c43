-- The kinds of rows of two names, and the figures of names by their places in a list of numbers.
use Rattle.std.specs.Prelude.{ℕ, List, slice_index}
use Rattle.evidence_rules.specs.EvidenceRows.{Listing, is_exclusion, is_nearly_exclusion}
use Rattle.evidence_rules.specs.EvidenceRows.{is_nearly_order, is_order}
use Rattle.evidence_rules.specs.declared.between.Between.{Between}
use Rattle.evidence_rules.specs.declared.pair_row.PairRow.{PairRow}
use Rattle.name_meetings.specs.Tables.{TableState, figures_of}
use Rattle.name_rows.specs.declared.kind.NameKind.{NameKind}
use Rattle.name_rows.specs.declared.kind.NameKind.TheVariants.{Order, Exclusion, NearlyOrder}
use Rattle.name_rows.specs.declared.kind.NameKind.TheVariants.{NearlyExclusion}
use Rattle.name_rows.specs.declared.listing.NameLists.{NameLists}

-- the rows of a kind
abbrev pub rows_in : NameLists → NameKind → List (PairRow Between)
rows_in lists Order = lists.orders.items
rows_in lists Exclusion = lists.exclusions.items
rows_in lists NearlyOrder = lists.nearly_orders.items
rows_in lists NearlyExclusion = lists.nearly_exclusions.items

-- which figures tell a relation of a kind
abbrev pub is_told : NameKind → Listing Between
is_told Order a b f = is_order a b f
is_told Exclusion a b f = is_exclusion a b f
is_told NearlyOrder a b f = is_nearly_order a b f
is_told NearlyExclusion a b f = is_nearly_exclusion a b f

-- the figures of the names at two places of a list of numbers
abbrev pub between_at : TableState → List ℕ → ℕ → ℕ → Between
between_at table names a b = figures_of table (slice_index names a) (slice_index names b)

-- how many traces have both names
abbrev pub traces_of : Between → ℕ
traces_of f = f.traces
