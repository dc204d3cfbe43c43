use Rattle.std.proofs.Common.{IfErr, IfOk, Ok, Result, subst, sym, ap, ◌≡◌, ◌∙◌}
use Rattle.page_rows.specs.declared.row.Row.{Row}
use Rattle.page_rows.specs.declared.why.Why.{Why}
use Rattle.page_rows.specs.Faults.{IsRowFault}
use Rattle.page_rows.specs.Fields.{texts_of}
use Rattle.page_rows.proofs.RowLemmas.{no_text, text_says}
use Rattle.page_rows.proofs.row_reading.read_row.Goals as goal

pub returns-in_default-clause-bad : goal.returns-in_default-clause-bad
returns-in_default-clause-bad c = no_text c.args.line.now c.in_default.ensures.cases.0

pub returns-clause-read : goal.returns-clause-read
returns-clause-read c =
    let said = text_says c.args.line.now c.in-Ok.text.now c.deref.result.now c.in-Ok.ensures.cases (ap texts_of c.deref.ensures.value ∙ c.in_ok-fields.ensures) in
    subst (λ (s : Result Row Why). IfOk c.read_fields.result (λ row. s ≡ Ok row)) (sym said) c.read_fields.ensures.read

pub returns-clause-bad : goal.returns-clause-bad
returns-clause-bad c =
    let said = text_says c.args.line.now c.in-Ok.text.now c.deref.result.now c.in-Ok.ensures.cases (ap texts_of c.deref.ensures.value ∙ c.in_ok-fields.ensures) in
    subst (λ (s : Result Row Why). IfErr c.read_fields.result (IsRowFault s)) (sym said) c.read_fields.ensures.bad
