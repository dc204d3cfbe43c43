use Rattle.std.proofs.Common.{◌≡◌, ℕ, ◌<◌, List, length, map, All, get_or, sym, ap, ◌∙◌, subst}
use Rattle.std.specs.Borrow.{Bor}
use Rattle.std.proofs.lemmas.List.{length-map}
use Rattle.std.proofs.lemmas.List.Elements.{Contains-get_or}
use Rattle.certificate_rows.specs.Orders.{numbered_name, numbered_task}
use Rattle.evidence_rules.specs.RowTexts.{Fields, evidence_text}
use Rattle.evidence_text.specs.Naming.{fields_of, rows_of, trace_fields}
use Rattle.evidence_text.specs.declared.naming.Naming.{Naming}
use Rattle.kept_books.specs.KeptBooks.{traces_in}
use Rattle.name_rows.specs.Kinds.{between_at}
use Rattle.task_rows.specs.Kinds.{sharing_at}
use Rattle.text_rows.specs.Printing.{PrintsText}
use Rattle.trace_types.specs.Parts.{by_number}
use Rattle.trace_types.specs.Segments.{SegmentName}
use Rattle.evidence_printing.proofs.FieldLemmas.{fields_are}
use Rattle.evidence_printing.proofs.NamedLemmas.{rows_named}
use Rattle.evidence_printing.proofs.PlaceLemmas.{places_long}
use Rattle.evidence_printing.proofs.TableLemmas.{figures_at, sharings_at}
use Rattle.evidence_printing.proofs.printing.print_rows.Goals as goal

pub list_texts-requires-clause-names : goal.list_texts-requires-clause-names
list_texts-requires-clause-names g c = λ k d lt. ((c.requires.numbers.names_are.exactly (get_or c.args.names.now k d)).0 (Contains-get_or c.args.names.now k d lt)).0

pub list_texts-requires-clause-tasks : goal.list_texts-requires-clause-tasks
list_texts-requires-clause-tasks g c = λ k d lt. ((c.requires.numbers.tasks_are.exactly (get_or c.args.tasks.now k d)).0 (Contains-get_or c.args.tasks.now k d lt)).0

pub print_evidence_rows-requires : goal.print_evidence_rows-requires
print_evidence_rows-requires g c =
    let known = c.args.book.now.known in
    let traces = traces_in c.args.book.now in
    let meetings = c.args.tables.now.meetings in
    let sharings = c.args.tables.now.sharings in
    let names = c.args.names.now in
    let tasks = c.args.tasks.now in
    let texts = c.in_ok-texts.texts in
    let many_names = ap length c.deref.ensures.value ∙ (sym (length-map texts.names.items (λ (n : Bor SegmentName). n.now)) ∙ (ap length c.in_ok-texts.ensures.names ∙ length-map names (numbered_name known))) in
    let many_tasks = ap length c.deref-2.ensures.value ∙ (sym (length-map texts.tasks.items (λ (t : Bor (List ℕ)). t.now)) ∙ (ap length c.in_ok-texts.ensures.tasks ∙ length-map tasks (numbered_task known))) in
    let many = ap length c.deref-3.ensures.value ∙ (sym (length-map texts.traces.items trace_fields) ∙ (ap length c.in_ok-texts.ensures.traces ∙ places_long c.args.book.now.book.days)) in
    rows_named c.requires.rows.0 traces names tasks (rows_of c.args.rows.now) _ (between_at meetings names) (sharing_at sharings tasks)
    (figures_at known traces meetings sharings names tasks c.requires.tables c.requires.numbers)
    (sharings_at known traces meetings sharings names tasks c.requires.tables c.requires.numbers)
    c.requires.rows.1 many_names many_tasks many (c.the_first_trace_refutes.ensures.orders by_number _) (c.the_first_trace_refutes.ensures.exclusions by_number _)

pub returns : goal.returns
returns g c =
    let known = c.args.book.now.known in
    let days = c.args.book.now.book.days in
    let rows = rows_of c.args.rows.now in
    let of_names = ap (map (λ (n : Bor SegmentName). n.now)) c.deref.ensures.value ∙ c.in_ok-texts.ensures.names in
    let of_tasks = ap (map (λ (t : Bor (List ℕ)). t.now)) c.deref-2.ensures.value ∙ c.in_ok-texts.ensures.tasks in
    let of_traces = ap (map trace_fields) c.deref-3.ensures.value ∙ c.in_ok-texts.ensures.traces in
    let naming : Naming = record { names = c.deref.result; tasks = c.deref-2.result; traces = c.deref-3.result } in
    let fields = fields_are known days c.args.names.now c.args.tasks.now naming of_names of_tasks of_traces in
    let same = ap (λ (n : ℕ). evidence_text n (fields_of naming) rows) c.trace_count.ensures.count ∙ ap (λ (f : Fields). evidence_text (length (traces_in c.args.book.now)) f rows) fields in
    subst (PrintsText g.S.Sink.written g.S.Sink.faults c.print_evidence_rows.result c.args.sink.now c.print_evidence_rows.new.sink c.args.buffer.now c.print_evidence_rows.new.buffer) same c.print_evidence_rows.ensures
