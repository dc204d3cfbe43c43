use Rattle.std.proofs.Common.{◌+◌, ◌++◌, length, take, map, arith, sym, ap, ◌∙◌}
use Rattle.std.proofs.lemmas.List.{length-append, take_all}
use Rattle.day_partitions.specs.Books.{all_traces}
use Rattle.evidence_text.specs.Naming.{trace_fields}
use Rattle.trace_paths.proofs.BookLemmas.{days_more, days_part}
use Rattle.evidence_printing.specs.inner.Places.{places_from, places_of}
use Rattle.evidence_printing.proofs.ListLemmas.{day_there, days_placed}
use Rattle.evidence_printing.proofs.places.list_places.Goals as goal

pub add_places-requires : goal.add_places-requires
add_places-requires c =
    let days = c.args.book.now.book.days in
    let end = c.days-place-end.ensures.count in
    let more = days_more days c.days.place c.traces.result.now (omega arith) c.traces.ensures.traces in
    let part = days_part days (c.days.place + 1) in
    let few = c.days-place-end.ensures.kept.book.counted in
    omega (arith, ap length more, length-append (all_traces (take c.days.place days)) c.traces.result.now)

pub days-preserved : goal.days-preserved
days-preserved c =
    let days = c.args.book.now.book.days in
    let end = c.days-place-end.ensures.count in
    let k = day_there days c.days.place c.traces.result.now (omega arith) c.traces.ensures.traces in
    days_placed days c.days.place k.0 (map trace_fields c.days.places.items) (map trace_fields c.add_places.new.places.items) (omega arith) k.1 c.days.invariant
    (c.in_ok-add_places.ensures ∙ ap (λ ts. map trace_fields c.days.places.items ++ places_from 0 ts) (sym k.2))

pub returns : goal.returns
returns c =
    let days = c.args.book.now.book.days in
    let end = c.days-place-end.ensures.count in
    c.days.invariant ∙ ap places_of (take_all c.days.place days (omega (arith, c.days-test.false)))
