use Rattle.std.proofs.Common.{map, refl, sym}
use Rattle.std.proofs.lemmas.List.{append-nil}
use Rattle.evidence_text.specs.Naming.{trace_fields}
use Rattle.evidence_printing.proofs.ListLemmas.{places_more}
use Rattle.evidence_printing.proofs.places.add_places.Goals as goal

pub traces-init : goal.traces-init
traces-init c = sym (append-nil (map trace_fields c.args.places.now.items))

pub traces-preserved : goal.traces-preserved
traces-preserved c = rw c.in_ok-push.ensures.items
    (places_more (map trace_fields c.args.places.now.items) c.args.traces.now c.traces.index c.index-traces-index.result c.traces.places.items _ c.traces-test.true c.index-traces-index.is c.traces.invariant refl)
