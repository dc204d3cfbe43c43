use Rattle.std.proofs.Common.{◌≡◌, ℕ, [], ◌∷◌, List, subst}
use Rattle.std.proofs.lemmas.Result.{err_from_is_err_and}
use Rattle.kept_books.specs.KeptBooks.{KeptState, traces_in}
use Rattle.latency_report.specs.Reports.{IsReport}
use Rattle.model_meet.specs.RelationBits.{KeepsExclusion}
use Rattle.session_rules.specs.Parts.{LatenciesOf, ModelHead, ReportHead}
use Rattle.view_rows.proofs.ReportPrintLemmas.{done, one_part}
use Rattle.view_rows.proofs.summary_printing.print_summary.Goals as goal

pub returns-in_err-print_model_head-clause-printed : goal.returns-in_err-print_model_head-clause-printed
returns-in_err-print_model_head-clause-printed g c = λ given kept judged.
    let p = err_from_is_err_and c.from_residual-in_err-print_model_head.result c.from_residual-in_err-print_model_head.ensures.1 in
    rw (p.1, p.2) (c.part_calls_follow.ensures.goes_on _ _ _ (ModelHead given kept ∷ []) (ReportHead given kept ∷ LatenciesOf kept ∷ []) _ c.print_model_head.new.buffer _
    (one_part g.S.Sink.written g.S.Sink.faults (ModelHead given kept) _ _ _ _ _ (c.in_err-print_model_head.ensures.printed given kept judged)))

pub returns-clause-printed : goal.returns-clause-printed
returns-clause-printed g c = λ given kept judged.
    let j = c.args.book.now in
    let known = j.book.known in
    let report = c.in_ok-found.found in
    let is : IsReport known.names (KeepsExclusion j.words) (traces_in j.book) report =
    subst (λ (k : KeptState). IsReport k.known.names (KeepsExclusion j.words) (traces_in k) report) c.book-kept_book.ensures.book
    (subst (λ (l : List ℕ). IsReport c.book-kept_book.result.now.known.names (KeepsExclusion l) (traces_in c.book-kept_book.result.now) report) c.words-words.ensures.words c.in_ok-found.ensures.reported) in
    let texts = c.report_is_shown.ensures known given j.words (traces_in j.book) kept report c.book-kept_book.ensures.judged.book.known judged.shown (c.judged_words_tell.ensures j given kept judged) is in
    c.part_calls_follow.ensures.follow tt c.print_first_rows.result _ _ _ (ModelHead given kept ∷ []) (ReportHead given kept ∷ LatenciesOf kept ∷ []) _ _ _
    (one_part g.S.Sink.written g.S.Sink.faults (ModelHead given kept) done _ _ _ _ (c.in_ok-print_model_head.ensures.printed given kept judged))
    (c.print_first_rows.ensures.printed given kept texts.head texts.latency)
