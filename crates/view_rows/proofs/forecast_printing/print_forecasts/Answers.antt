use Rattle.std.proofs.Common.{◌≡◌, ◌∙◌, ℕ, List, length, All, sym, ap, subst, arith}
use Rattle.std.specs.Borrow.{Bor}
use Rattle.std.specs.List.{AllZip}
use Rattle.day_partitions.specs.Books.{BookState, all_traces}
use Rattle.book_laws.specs.Shown.{AreShown}
use Rattle.model_meet.specs.ModelStates.{ModelState}
use Rattle.judged_books.specs.JudgedLaws.{AreJudgedWords}
use Rattle.kept_books.specs.KeptBooks.{KeptState, traces_in}
use Rattle.segment_names.specs.Known.{Known}
use Rattle.segment_names.specs.Limits.{IsKept}
use Rattle.session_rules.specs.Sessions.{forecast_parts}
use Rattle.text_rows.specs.Printing.{PrintsText}
use Rattle.trace_types.specs.declared.named_trace.NamedTrace.{NamedTrace}
use Rattle.what_if.specs.declared.change.Change.{Change}
use Rattle.trace_rules.specs.declared.forecast.Forecast.{Forecast}
use Rattle.view_rows.specs.inner.ForecastRows.{forecast_text}
use Rattle.view_rows.specs.inner.NumberedForecasts.{IsForecastUnder, IsShort, changes_of}
use Rattle.view_rows.proofs.ForecastPrintLemmas.{parts_printed}
use Rattle.view_rows.proofs.ForecastTextLemmas.{all_short, as_many, text_told, told_of, traces_of}
use Rattle.view_rows.proofs.forecast_printing.print_forecasts.Goals as goal
use Rattle.view_rows.proofs.forecast_printing.print_forecasts.Goals.{After-deref-3}

-- the forecast of a lent trace
abbrev IsOf : List ℕ → List Change → Bor NamedTrace → Forecast → Type 0
IsOf words changes t f = IsForecastUnder words changes t.now f

each : (g : _) (c : After-deref-3 g) → AllZip (IsOf c.new-model.result.words (changes_of c.catalogue-catalogue.result.now c.args.change.now)) c.in_ok-traces.traces.items c.in_ok-forecasts.forecasts.items
each g c = subst (λ (ts : List (Bor NamedTrace)). AllZip (IsOf c.new-model.result.words (changes_of c.catalogue-catalogue.result.now c.args.change.now)) ts c.in_ok-forecasts.forecasts.items) c.deref.ensures.value c.in_ok-forecasts.ensures

pub print_all-requires-clause-few : goal.print_all-requires-clause-few
print_all-requires-clause-few g c =
    let many = as_many (IsOf c.new-model.result.words (changes_of c.catalogue-catalogue.result.now c.args.change.now)) c.in_ok-traces.traces.items c.in_ok-forecasts.forecasts.items (each g (goal.at.print_all-requires-clause-few g c).After-deref-3) in
    omega (arith, many, c.in_ok-traces.ensures.few, ap length c.deref-3.ensures.value)

pub print_all-requires-clause-each : goal.print_all-requires-clause-each
print_all-requires-clause-each g c =
    ap length c.deref-3.ensures.value
    ∙ (as_many (IsOf c.new-model.result.words (changes_of c.catalogue-catalogue.result.now c.args.change.now)) c.in_ok-traces.traces.items c.in_ok-forecasts.forecasts.items (each g (goal.at.print_all-requires-clause-each g c).After-deref-3)
    ∙ sym (ap length c.deref-2.ensures.value))

pub print_all-requires-clause-short : goal.print_all-requires-clause-short
print_all-requires-clause-short g c =
    subst (All IsShort) (sym c.deref-3.ensures.value) (all_short c.new-model.result.words (changes_of c.catalogue-catalogue.result.now c.args.change.now) c.in_ok-traces.traces.items c.in_ok-forecasts.forecasts.items (each g (goal.at.print_all-requires-clause-short g c).After-deref-3))

pub returns-clause-printed : goal.returns-clause-printed
returns-clause-printed g c = λ given kept judged.
    let j = c.args.book.now in
    let known = c.catalogue-catalogue.result.now in
    let change = c.args.change.now in
    let words = c.new-model.result.words in
    let lent = c.in_ok-traces.traces.items in
    let fs = c.in_ok-forecasts.forecasts.items in
    let listed : traces_of lent ≡ traces_in j.book = c.in_ok-traces.ensures.traces ∙ (ap (λ (b : BookState). all_traces b.days) c.day_book.ensures.book ∙ ap traces_in c.book-kept_book.ensures.book) in
    let cat : j.book.known ≡ known = sym (c.catalogue-catalogue.ensures.catalogue ∙ ap (λ (k : KeptState). k.known) c.book-kept_book.ensures.book) in
    let fits : IsKept known = subst IsKept cat c.book-kept_book.ensures.judged.book.known in
    let same_words : j.words ≡ words = sym (ap (λ (m : ModelState). m.words) c.new-model.ensures ∙ c.words.ensures.words) in
    let judge : AreJudgedWords known given kept words = subst (λ (k : Known). AreJudgedWords k given kept words) cat (subst (AreJudgedWords j.book.known given kept) same_words (c.judged_words_tell.ensures j given kept judged)) in
    let all : AreShown known (traces_of lent) kept = subst (λ (k : Known). AreShown k (traces_of lent) kept) cat (subst (λ (ts : List NamedTrace). AreShown j.book.known ts kept) (sym listed) judged.shown) in
    let by_words = told_of words (changes_of known change) lent fs (each g (goal.at.returns-clause-printed g c).After-deref-3) in
    let told = text_told known change given words (traces_of lent) kept c.forecast_is_shown.ensures fits all judge fs by_words in
    let same : forecast_text (traces_of c.deref-2.result.now) c.deref-3.result.now ≡ forecast_text (traces_of lent) fs = ap (λ ts. forecast_text (traces_of ts) c.deref-3.result.now) c.deref-2.ensures.value ∙ ap (λ l. forecast_text (traces_of lent) l) c.deref-3.ensures.value in
    parts_printed g.S.Sink.written g.S.Sink.faults c.print_all.result c.args.sink.now c.print_all.new.sink (forecast_parts change given kept) (forecast_text (traces_of lent) fs) c.args.buffer.now c.print_all.new.buffer told
    (subst (λ (text : List ℕ). PrintsText g.S.Sink.written g.S.Sink.faults c.print_all.result c.args.sink.now c.print_all.new.sink c.args.buffer.now c.print_all.new.buffer text) same c.print_all.ensures)
