use Rattle.std.proofs.Common.{◌≡◌, ℕ, List, [], ◌∷◌, ◌∙◌, codes, length, ap, subst}
use Rattle.std.specs.Prelude.{sum_by}
use Rattle.text_rows.specs.Printing.{PrintsText}
use Rattle.text_rows.specs.Rows.{figure, row_of}
use Rattle.trace_rules.specs.declared.forecast.Forecast.{Forecast}
use Rattle.view_rows.specs.inner.ForecastRows.{head_row}
use Rattle.view_rows.proofs.forecast_printing.print_head.Goals as goal

-- the header with these figures
abbrev header : ℕ → ℕ → ℕ → List ℕ
header traces before after = row_of (codes "whatif" ∷ figure (codes "traces") traces ∷ figure (codes "before") before ∷ figure (codes "after") after ∷ [])

pub returns : goal.returns
returns g c =
    let fs = c.args.forecasts.now in
    let sums = c.add_lengths-before in
    let same : header (length fs) sums.result.0 sums.result.1 ≡ head_row fs =
    ap (λ (n : ℕ). header (length fs) n sums.result.1) sums.ensures.before ∙ ap (λ (n : ℕ). header (length fs) (sum_by (λ (f : Forecast). f.before) fs) n) sums.ensures.after in
    subst (λ (text : List ℕ). PrintsText g.S.Sink.written g.S.Sink.faults c.print_row.result c.args.sink.now c.print_row.new.sink c.args.buffer.now c.print_row.new.buffer text) same c.print_row.ensures.prints
