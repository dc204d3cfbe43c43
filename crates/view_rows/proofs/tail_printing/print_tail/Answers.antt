use Rattle.std.proofs.Common.{◌≡◌, ◌∙◌, ◌<◌, ℕ, [], ◌∷◌, List, All, ap, length, map, sym, subst}
use Rattle.std.proofs.lemmas.Result.{err_from_is_err_and}
use Rattle.kept_books.specs.KeptBooks.{KeptState, traces_in}
use Rattle.model_meet.specs.RelationBits.{KeepsExclusion}
use Rattle.segment_names.specs.Known.{Known}
use Rattle.session_rules.specs.Parts.{TailHead, TailOf}
use Rattle.slow_tail.specs.declared.tail_row.TailRow.{TailRow}
use Rattle.slow_tail.specs.SlowReports.{IsSlowReport}
use Rattle.trace_paths.specs.NameOrders.{name_with_number}
use Rattle.view_rows.specs.inner.NumberedTexts.{tail_head, tail_row}
use Rattle.view_rows.proofs.ReportNameLemmas.{rows_below}
use Rattle.view_rows.proofs.ReportPrintLemmas.{done, rows_printed}
use Rattle.view_rows.proofs.tail_printing.print_tail.Goals as goal

pub print_each-requires : goal.print_each-requires
print_each-requires g c =
    let j = c.args.book.now in
    let known = j.book.known in
    let report = c.in_ok-found.found in
    let is : IsSlowReport known.names (KeepsExclusion j.words) (traces_in j.book) report =
    subst (λ (k : KeptState). IsSlowReport k.known.names (KeepsExclusion j.words) (traces_in k) report) c.book-kept_book.ensures.book
    (subst (λ (l : List ℕ). IsSlowReport c.book-kept_book.result.now.known.names (KeepsExclusion l) (traces_in c.book-kept_book.result.now) report) c.words-words.ensures.words c.in_ok-found.ensures) in
    let cat : c.catalogue-catalogue.result.now ≡ known = c.catalogue-catalogue.ensures.catalogue ∙ ap (λ (k : KeptState). k.known) c.book-kept_book.ensures.book in
    subst (λ (k : Known). All (λ (r : TailRow). r.name < length k.names) c.items.result.now) (sym cat)
    (rows_below (λ (r : TailRow). r.name) j.book.book known report.rows c.items.result.now c.names_are_below.ensures c.book-kept_book.ensures.judged.book.book c.book-kept_book.ensures.judged.book.names is.names c.items.ensures)

pub returns-in_err-print_tail_head-clause-printed : goal.returns-in_err-print_tail_head-clause-printed
returns-in_err-print_tail_head-clause-printed g c = λ given kept judged names are.
    let j = c.args.book.now in
    let known = j.book.known in
    let report = c.in_ok-found.found in
    let is : IsSlowReport known.names (KeepsExclusion j.words) (traces_in j.book) report =
    subst (λ (k : KeptState). IsSlowReport k.known.names (KeepsExclusion j.words) (traces_in k) report) c.book-kept_book.ensures.book
    (subst (λ (l : List ℕ). IsSlowReport c.book-kept_book.result.now.known.names (KeepsExclusion l) (traces_in c.book-kept_book.result.now) report) c.words-words.ensures.words c.in_ok-found.ensures) in
    let texts = c.tail_is_shown.ensures known given j.words (traces_in j.book) kept report c.book-kept_book.ensures.judged.book.known judged.shown (c.judged_words_tell.ensures j given kept judged) is in
    let p = err_from_is_err_and c.from_residual-in_err-print_tail_head.result c.from_residual-in_err-print_tail_head.ensures.1 in
    rw (p.1, p.2) (c.part_calls_follow.ensures.goes_on _ _ _ (TailHead kept ∷ []) (map (TailOf given kept) names) _ c.print_tail_head.new.buffer _
    (c.part_calls_follow.ensures.one (TailHead kept) (tail_head report) _ _ _ _ _ texts.head c.in_err-print_tail_head.ensures))

pub returns-clause-printed : goal.returns-clause-printed
returns-clause-printed g c = λ given kept judged names are.
    let j = c.args.book.now in
    let known = j.book.known in
    let report = c.in_ok-found.found in
    let is : IsSlowReport known.names (KeepsExclusion j.words) (traces_in j.book) report =
    subst (λ (k : KeptState). IsSlowReport k.known.names (KeepsExclusion j.words) (traces_in k) report) c.book-kept_book.ensures.book
    (subst (λ (l : List ℕ). IsSlowReport c.book-kept_book.result.now.known.names (KeepsExclusion l) (traces_in c.book-kept_book.result.now) report) c.words-words.ensures.words c.in_ok-found.ensures) in
    let texts = c.tail_is_shown.ensures known given j.words (traces_in j.book) kept report c.book-kept_book.ensures.judged.book.known judged.shown (c.judged_words_tell.ensures j given kept judged) is in
    let cat : c.catalogue-catalogue.result.now ≡ known = c.catalogue-catalogue.ensures.catalogue ∙ ap (λ (k : KeptState). k.known) c.book-kept_book.ensures.book in
    c.part_calls_follow.ensures.follow tt c.print_each.result _ _ _ (TailHead kept ∷ []) (map (TailOf given kept) names) _ _ _
    (c.part_calls_follow.ensures.one (TailHead kept) (tail_head report) done _ _ _ _ texts.head c.in_ok-print_tail_head.ensures)
    (rows_printed g.S.Sink.written g.S.Sink.faults (TailOf given kept) (λ (r : TailRow). name_with_number known.names r.name) (tail_row known.names) report.rows c.items.result.now names c.print_each.result _ _ _ _ c.items.ensures (texts.names names are) texts.rows (rw cat at c.print_each.ensures.printed))
