use Rattle.std.proofs.Common.{◌≡◌, ◌++◌, map, take}
use Rattle.std.specs.List.{flat_map}
use Rattle.near_relations.specs.NearRelations.{named_request}
use Rattle.inspect_run.specs.GraceRows.{near_row}
use Rattle.inspect_run.proofs.near_rows.push_nears.Given as goal

-- the rows so far were appended
abbrev pub invariant-told : goal.invariant-told
invariant-told l = l.text.items ≡ l.initial.text.items ++ flat_map (near_row l.catalogue.names (map named_request l.traces)) (take l.index l.told)
