use Rattle.std.proofs.Common.{◌≡◌, map, take}
use Rattle.evidence_text.specs.Naming.{trace_fields}
use Rattle.evidence_printing.specs.inner.Places.{places_of}
use Rattle.evidence_printing.proofs.places.list_places.Given as goal

-- the days so far
abbrev pub invariant-days : goal.invariant-days
invariant-days l = map trace_fields l.places.items ≡ places_of (take l.place l.book.book.days)
