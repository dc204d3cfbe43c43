use Rattle.std.proofs.Common.{ℕ, [], List}
use Rattle.certificates.specs.declared.matter.Matter.TheVariants as matter
use Rattle.text_rows.specs.Printing.{PrintsText}
use Rattle.trace_types.specs.Segments.{SegmentName}
use Rattle.certificate_rows.specs.inner.Numbered.{place_row}
use Rattle.certificate_rows.proofs.TextLemmas.{at_numbers}
use Rattle.certificate_rows.proofs.row_texts.print_refuted.Goals as goal

pub returns-in-Before : goal.returns-in-Before
returns-in-Before g c = rw c.in-Before.is
    (at_numbers (λ (a b : SegmentName). PrintsText g.S.Sink.written g.S.Sink.faults c.print_names.result c.args.sink.now c.print_names.new.sink c.args.buffer.now c.print_names.new.buffer (place_row (matter.Before a b) c.args.place.0 c.args.place.1 c.args.request.now))
    c.args.catalogue.now.names ([], [], []) c.args.pair.0 c.args.pair.1 c.text_of-first.result.now c.text_of-second.result.now c.text_of-first.ensures c.text_of-second.ensures c.print_names.ensures)

pub returns-in-Exclusive : goal.returns-in-Exclusive
returns-in-Exclusive g c = rw c.in-Exclusive.is
    (at_numbers (λ (a b : SegmentName). PrintsText g.S.Sink.written g.S.Sink.faults c.print_names-in-Exclusive.result c.args.sink.now c.print_names-in-Exclusive.new.sink c.args.buffer.now c.print_names-in-Exclusive.new.buffer (place_row (matter.Exclusive a b) c.args.place.0 c.args.place.1 c.args.request.now))
    c.args.catalogue.now.names ([], [], []) c.args.pair.0 c.args.pair.1 c.text_of-first-in-Exclusive.result.now c.text_of-second-in-Exclusive.result.now c.text_of-first-in-Exclusive.ensures c.text_of-second-in-Exclusive.ensures c.print_names-in-Exclusive.ensures)

pub returns-in-Pipe : goal.returns-in-Pipe
returns-in-Pipe g c = rw c.in-Pipe.is
    (at_numbers (λ (t u : List ℕ). PrintsText g.S.Sink.written g.S.Sink.faults c.print_tasks.result c.args.sink.now c.print_tasks.new.sink c.args.buffer.now c.print_tasks.new.buffer (place_row (matter.Pipe t u) c.args.place.0 c.args.place.1 c.args.request.now))
    c.args.catalogue.now.tasks [] c.args.pair.0 c.args.pair.1 c.task_text-from.result.now c.task_text-to.result.now c.task_text-from.ensures c.task_text-to.ensures c.print_tasks.ensures)
