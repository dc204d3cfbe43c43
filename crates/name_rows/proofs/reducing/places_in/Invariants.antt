use Rattle.std.proofs.Common.{◌≡◌, map, take}
use Rattle.evidence_rules.specs.EvidenceRows.{places_of}
use Rattle.name_rows.proofs.reducing.places_in.Given as goal

abbrev pub invariant-rows : goal.invariant-rows
invariant-rows l = l.pairs.items ≡ map places_of (take l.row-index l.rows)
