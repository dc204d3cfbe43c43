use Rattle.std.proofs.Common.{◌≡◌, ◌++◌, map, take}
use Rattle.evidence_text.specs.Naming.{trace_fields}
use Rattle.evidence_printing.specs.inner.Places.{places_from}
use Rattle.evidence_printing.proofs.places.add_places.Given as goal

-- the traces so far
abbrev pub invariant-traces : goal.invariant-traces
invariant-traces l = map trace_fields l.places.items ≡ map trace_fields l.fn.places.items ++ places_from 0 (take l.index l.traces)
