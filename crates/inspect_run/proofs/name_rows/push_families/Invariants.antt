use Rattle.std.proofs.Common.{◌≡◌, ◌++◌, take}
use Rattle.std.specs.List.{flat_map}
use Rattle.inspect_run.specs.NameRows.{family_row}
use Rattle.inspect_run.specs.inner.Listing.{labels_at, patterns_at}
use Rattle.inspect_run.proofs.name_rows.push_families.Given as goal

-- the rows so far were appended
abbrev pub invariant-families : goal.invariant-families
invariant-families l =
    l.text.items ≡ l.initial.text.items ++ flat_map (family_row l.listed.subject (labels_at l.listed l.listed.groups.now) (patterns_at l.listed l.listed.groups.now)) (take l.index l.families)
