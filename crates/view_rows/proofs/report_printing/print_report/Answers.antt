use Rattle.std.proofs.Common.{◌≡◌, ◌∙◌, ◌<◌, ℕ, [], ◌∷◌, List, All, ap, length, map, sym, subst}
use Rattle.std.proofs.lemmas.Result.{err_from_is_err_and}
use Rattle.kept_books.specs.KeptBooks.{KeptState, traces_in}
use Rattle.latency_report.specs.declared.segment_row.SegmentRow.{SegmentRow}
use Rattle.latency_report.specs.Reports.{IsReport}
use Rattle.model_meet.specs.RelationBits.{KeepsExclusion}
use Rattle.segment_names.specs.Known.{Known}
use Rattle.session_rules.specs.Parts.{LatenciesOf, ReportHead, SegmentOf}
use Rattle.trace_paths.specs.NameOrders.{name_with_number}
use Rattle.view_rows.specs.inner.NumberedTexts.{segment_row}
use Rattle.view_rows.proofs.ReportNameLemmas.{rows_below}
use Rattle.view_rows.proofs.ReportPrintLemmas.{rows_printed}
use Rattle.view_rows.proofs.report_printing.print_report.Goals as goal

pub print_each-requires : goal.print_each-requires
print_each-requires g c =
    let j = c.args.book.now in
    let known = j.book.known in
    let report = c.in_ok-found.found in
    let is : IsReport known.names (KeepsExclusion j.words) (traces_in j.book) report =
    subst (λ (k : KeptState). IsReport k.known.names (KeepsExclusion j.words) (traces_in k) report) c.book-kept_book.ensures.book
    (subst (λ (l : List ℕ). IsReport c.book-kept_book.result.now.known.names (KeepsExclusion l) (traces_in c.book-kept_book.result.now) report) c.words-words.ensures.words c.in_ok-found.ensures.reported) in
    let cat : c.catalogue-catalogue.result.now ≡ known = c.catalogue-catalogue.ensures.catalogue ∙ ap (λ (k : KeptState). k.known) c.book-kept_book.ensures.book in
    subst (λ (k : Known). All (λ (r : SegmentRow). r.name < length k.names) c.items.result.now) (sym cat)
    (rows_below (λ (r : SegmentRow). r.name) j.book.book known report.rows c.items.result.now c.names_are_below.ensures c.book-kept_book.ensures.judged.book.book c.book-kept_book.ensures.judged.book.names is.names c.items.ensures)

pub returns-in_err-print_first_rows-clause-printed : goal.returns-in_err-print_first_rows-clause-printed
returns-in_err-print_first_rows-clause-printed g c = λ given kept judged names are.
    let j = c.args.book.now in
    let known = j.book.known in
    let report = c.in_ok-found.found in
    let is : IsReport known.names (KeepsExclusion j.words) (traces_in j.book) report =
    subst (λ (k : KeptState). IsReport k.known.names (KeepsExclusion j.words) (traces_in k) report) c.book-kept_book.ensures.book
    (subst (λ (l : List ℕ). IsReport c.book-kept_book.result.now.known.names (KeepsExclusion l) (traces_in c.book-kept_book.result.now) report) c.words-words.ensures.words c.in_ok-found.ensures.reported) in
    let texts = c.report_is_shown.ensures known given j.words (traces_in j.book) kept report c.book-kept_book.ensures.judged.book.known judged.shown (c.judged_words_tell.ensures j given kept judged) is in
    let p = err_from_is_err_and c.from_residual-in_err-print_first_rows.result c.from_residual-in_err-print_first_rows.ensures.1 in
    rw (p.1, p.2) (c.part_calls_follow.ensures.goes_on _ _ _ (ReportHead given kept ∷ LatenciesOf kept ∷ []) (map (SegmentOf given kept) names) _ c.print_first_rows.new.buffer _
    (c.in_err-print_first_rows.ensures.printed given kept texts.head texts.latency))

pub returns-clause-printed : goal.returns-clause-printed
returns-clause-printed g c = λ given kept judged names are.
    let j = c.args.book.now in
    let known = j.book.known in
    let report = c.in_ok-found.found in
    let is : IsReport known.names (KeepsExclusion j.words) (traces_in j.book) report =
    subst (λ (k : KeptState). IsReport k.known.names (KeepsExclusion j.words) (traces_in k) report) c.book-kept_book.ensures.book
    (subst (λ (l : List ℕ). IsReport c.book-kept_book.result.now.known.names (KeepsExclusion l) (traces_in c.book-kept_book.result.now) report) c.words-words.ensures.words c.in_ok-found.ensures.reported) in
    let texts = c.report_is_shown.ensures known given j.words (traces_in j.book) kept report c.book-kept_book.ensures.judged.book.known judged.shown (c.judged_words_tell.ensures j given kept judged) is in
    let cat : c.catalogue-catalogue.result.now ≡ known = c.catalogue-catalogue.ensures.catalogue ∙ ap (λ (k : KeptState). k.known) c.book-kept_book.ensures.book in
    c.part_calls_follow.ensures.follow tt c.print_each.result _ _ _ (ReportHead given kept ∷ LatenciesOf kept ∷ []) (map (SegmentOf given kept) names) _ _ _
    (c.in_ok-print_first_rows.ensures.printed given kept texts.head texts.latency)
    (rows_printed g.S.Sink.written g.S.Sink.faults (SegmentOf given kept) (λ (r : SegmentRow). name_with_number known.names r.name) (segment_row known.names) report.rows c.items.result.now names c.print_each.result _ _ _ _ c.items.ensures (texts.names names are) texts.rows (rw cat at c.print_each.ensures.printed))
