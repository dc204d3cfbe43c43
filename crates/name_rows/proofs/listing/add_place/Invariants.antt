use Rattle.std.proofs.Common.{◌≡◌, ◌++◌}
use Rattle.name_rows.specs.Kinds.{rows_in}
use Rattle.name_rows.specs.declared.kind.NameKind.{NameKind}
use Rattle.name_rows.specs.inner.Listings.{rows_of_place}
use Rattle.name_rows.proofs.listing.add_place.Given as goal

abbrev pub invariant-seconds : goal.invariant-seconds
invariant-seconds l = (kind : NameKind) → rows_in l.lists kind ≡ rows_in l.fn.lists kind ++ rows_of_place l.table l.names kind l.least l.second l.first
