use Rattle.std.proofs.Common.{ℕ, ap}
use Rattle.session_rules.specs.ModelTexts.{IsModelText, model_text}
use Rattle.view_rows.specs.inner.Found.{figures_in}
use Rattle.view_rows.proofs.ModelPrintLemmas.{text_is_part}
use Rattle.view_rows.proofs.model_printing.print_model.Goals as goal

pub returns-clause-printed : goal.returns-clause-printed
returns-clause-printed g c = λ given kept judged.
    let model = c.in_ok-model.model in
    let told = c.found_is_shown.ensures c.args.book.now given kept model judged c.in_ok-model.ensures in
    text_is_part g.S.Sink.written g.S.Sink.faults c.print_found.result c.args.sink.now c.print_found.new.sink (IsModelText given kept) c.args.buffer.now c.print_found.new.buffer (model_text model.traces (figures_in model))
    (record { figures = figures_in model; told = told.0; text = ap (λ (n : ℕ). model_text n (figures_in model)) told.1 }) c.print_found.ensures
