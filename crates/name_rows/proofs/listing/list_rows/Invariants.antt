use Rattle.std.proofs.Common.{◌≡◌, flat_map, length}
use Rattle.std.specs.List.{range_with_len}
use Rattle.name_rows.specs.Kinds.{rows_in}
use Rattle.name_rows.specs.declared.kind.NameKind.{NameKind}
use Rattle.name_rows.specs.inner.Listings.{rows_of_place}
use Rattle.name_rows.proofs.listing.list_rows.Given as goal

abbrev pub invariant-firsts : goal.invariant-firsts
invariant-firsts l = (kind : NameKind) → rows_in l.lists kind ≡ flat_map (rows_of_place l.table l.names kind l.least (length l.names)) (range_with_len 0 l.first)
