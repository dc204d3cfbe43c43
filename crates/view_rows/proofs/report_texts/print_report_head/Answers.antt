use Rattle.std.proofs.Common.{◌≡◌, ℕ, List, [], ◌∷◌, codes, ap, subst, rules}
use Rattle.text_rows.specs.Printing.{PrintsText}
use Rattle.text_rows.specs.Rows.{figure, row_of}
use Rattle.view_rows.proofs.report_texts.print_report_head.Goals as goal

-- the header with these figures
abbrev header : ℕ → ℕ → List ℕ
header traces critical = row_of (codes "report" ∷ figure (codes "traces") traces ∷ figure (codes "critical") critical ∷ [])

pub returns : goal.returns
returns g c =
    let traces : c.from.result ≡ c.args.report.now.traces = search rules in
    subst (λ (text : List ℕ). PrintsText g.S.Sink.written g.S.Sink.faults c.print_row.result c.args.sink.now c.print_row.new.sink c.args.buffer.now c.print_row.new.buffer text) (ap (λ (n : ℕ). header n c.args.report.now.critical) traces) c.print_row.ensures.prints
