use Rattle.std.proofs.Common.{◌≡◌, ◌∙◌, ℕ, ◌+◌, List, ◌++◌, length, ap, subst}
use Rattle.std.proofs.lemmas.Result.{err_from_is_err_and}
use Rattle.counterexamples.specs.FirstRefuters.{FindingTable}
use Rattle.day_partitions.specs.Books.{KeptDay, all_traces}
use Rattle.session_rules.specs.CertificateTexts.{why_row}
use Rattle.text_rows.specs.Printing.{PrintsText}
use Rattle.certificate_rows.specs.declared.kind.Kind.TheVariants.{Before, Exclusive, Pipe}
use Rattle.certificate_rows.specs.inner.Numbered.{kind_count, kind_rows}
use Rattle.certificate_rows.specs.inner.Wholes.{refuted_count, refuted_rows}
use Rattle.certificate_rows.proofs.certificate_printing.print_all.Goals as goal

-- the header with the counted numbers
same_head : (days : List KeptDay) (table : FindingTable) (names tasks : List ℕ) (traces before exclusive pipe : ℕ) → traces ≡ length (all_traces days) → before ≡ kind_count table Before names → exclusive ≡ kind_count table Exclusive names
    → pipe ≡ kind_count table Pipe tasks → why_row traces (before + exclusive + pipe) ≡ why_row (length (all_traces days)) (refuted_count table names tasks)
same_head days table names tasks traces before exclusive pipe et eb ee ep =
    ap (λ (n : ℕ). why_row n (before + exclusive + pipe)) et
    ∙ ap (λ (n : ℕ). why_row (length (all_traces days)) n) (ap (λ (n : ℕ). n + exclusive + pipe) eb ∙ (ap (λ (n : ℕ). kind_count table Before names + n + pipe) ee ∙ ap (λ (n : ℕ). kind_count table Before names + kind_count table Exclusive names + n) ep))

pub returns-in_err-print_header : goal.returns-in_err-print_header
returns-in_err-print_header g c =
    let known = c.args.source.now.book.now.known in
    let days = c.args.source.now.book.now.book.days in
    let table = c.args.source.now.refuters.now in
    let names = c.args.names.now in
    let tasks = c.args.tasks.now in
    let p = err_from_is_err_and c.from_residual.result c.from_residual.ensures.1 in
    rw (p.1, p.2) (c.calls_follow.ensures.goes_on _ _ _ _ c.print_header.new.buffer _ (why_row (length (all_traces days)) (refuted_count table names tasks)) (refuted_rows known days table names tasks)
    (subst (PrintsText {T = Unit {0}} g.S.Sink.written g.S.Sink.faults _ _ _ _ _) (same_head days table names tasks _ _ _ _ c.trace_count-traces.ensures.count c.count_refuted-before.ensures.counted c.count_refuted-exclusive.ensures.counted c.count_refuted-pipe.ensures.counted) c.in_err-print_header.ensures))

pub returns-in_err-print_kind : goal.returns-in_err-print_kind
returns-in_err-print_kind g c =
    let known = c.args.source.now.book.now.known in
    let days = c.args.source.now.book.now.book.days in
    let table = c.args.source.now.refuters.now in
    let names = c.args.names.now in
    let tasks = c.args.tasks.now in
    let p = err_from_is_err_and c.from_residual-in_err-print_kind.result c.from_residual-in_err-print_kind.ensures.1 in
    rw (p.1, p.2) (c.calls_follow.ensures.follow _ _ _ _ _ _ _ _ (why_row (length (all_traces days)) (refuted_count table names tasks)) (refuted_rows known days table names tasks)
    (subst (PrintsText {T = Unit {0}} g.S.Sink.written g.S.Sink.faults _ _ _ _ _) (same_head days table names tasks _ _ _ _ c.trace_count-traces.ensures.count c.count_refuted-before.ensures.counted c.count_refuted-exclusive.ensures.counted c.count_refuted-pipe.ensures.counted) c.in_ok-print_header.ensures)
    (c.calls_follow.ensures.goes_on _ _ _ _ c.print_kind.new.buffer _ (kind_rows known days table Before names) (kind_rows known days table Exclusive names ++ kind_rows known days table Pipe tasks) c.in_err-print_kind.ensures))

pub returns-in_err-print_kind-2 : goal.returns-in_err-print_kind-2
returns-in_err-print_kind-2 g c =
    let known = c.args.source.now.book.now.known in
    let days = c.args.source.now.book.now.book.days in
    let table = c.args.source.now.refuters.now in
    let names = c.args.names.now in
    let tasks = c.args.tasks.now in
    let p = err_from_is_err_and c.from_residual-in_err-print_kind-2.result c.from_residual-in_err-print_kind-2.ensures.1 in
    rw (p.1, p.2) (c.calls_follow.ensures.follow _ _ _ _ _ _ _ _ (why_row (length (all_traces days)) (refuted_count table names tasks)) (refuted_rows known days table names tasks)
    (subst (PrintsText {T = Unit {0}} g.S.Sink.written g.S.Sink.faults _ _ _ _ _) (same_head days table names tasks _ _ _ _ c.trace_count-traces.ensures.count c.count_refuted-before.ensures.counted c.count_refuted-exclusive.ensures.counted c.count_refuted-pipe.ensures.counted) c.in_ok-print_header.ensures)
    (c.calls_follow.ensures.follow _ _ _ _ _ _ _ _ (kind_rows known days table Before names) (kind_rows known days table Exclusive names ++ kind_rows known days table Pipe tasks) c.in_ok-print_kind.ensures
    (c.calls_follow.ensures.goes_on _ _ _ _ c.print_kind-2.new.buffer _ (kind_rows known days table Exclusive names) (kind_rows known days table Pipe tasks) c.in_err-print_kind-2.ensures)))

pub returns : goal.returns
returns g c =
    let known = c.args.source.now.book.now.known in
    let days = c.args.source.now.book.now.book.days in
    let table = c.args.source.now.refuters.now in
    let names = c.args.names.now in
    let tasks = c.args.tasks.now in
    c.calls_follow.ensures.follow _ _ _ _ _ _ _ _ (why_row (length (all_traces days)) (refuted_count table names tasks)) (refuted_rows known days table names tasks)
    (subst (PrintsText {T = Unit {0}} g.S.Sink.written g.S.Sink.faults _ _ _ _ _) (same_head days table names tasks _ _ _ _ c.trace_count-traces.ensures.count c.count_refuted-before.ensures.counted c.count_refuted-exclusive.ensures.counted c.count_refuted-pipe.ensures.counted) c.in_ok-print_header.ensures)
    (c.calls_follow.ensures.follow _ _ _ _ _ _ _ _ (kind_rows known days table Before names) (kind_rows known days table Exclusive names ++ kind_rows known days table Pipe tasks) c.in_ok-print_kind.ensures
    (c.calls_follow.ensures.follow _ _ _ _ _ _ _ _ (kind_rows known days table Exclusive names) (kind_rows known days table Pipe tasks) c.in_ok-print_kind-2.ensures c.print_kind-3.ensures))
