use Rattle.std.proofs.Common.{ℕ, ap}
use Rattle.session_rules.specs.ModelTexts.{IsModelHead, header_row}
use Rattle.view_rows.specs.inner.Found.{figures_in}
use Rattle.view_rows.proofs.ModelPrintLemmas.{text_is_part}
use Rattle.view_rows.proofs.model_printing.print_model_head.Goals as goal

pub returns-clause-printed : goal.returns-clause-printed
returns-clause-printed g c = λ given kept judged.
    let model = c.in_ok-model.model in
    let told = c.found_is_shown.ensures c.args.book.now given kept model judged c.in_ok-model.ensures in
    text_is_part g.S.Sink.written g.S.Sink.faults c.print_header.result c.args.sink.now c.print_header.new.sink (IsModelHead given kept) c.args.buffer.now c.print_header.new.buffer (header_row model.traces (figures_in model))
    (record { figures = figures_in model; told = told.0; text = ap (λ (n : ℕ). header_row n (figures_in model)) told.1 }) c.print_header.ensures
