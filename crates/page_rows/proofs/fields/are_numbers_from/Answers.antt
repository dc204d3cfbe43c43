use Rattle.std.proofs.Common.{Bor, List, ℕ, ◌∙◌, ap, sym}
use Rattle.std.proofs.lemmas.List.Folds.{list_all-map}
use Rattle.std.specs.List.{list_all}
use Rattle.page_rows.specs.Fields.{is_number}
use Rattle.page_rows.proofs.FieldLemmas.{texts_from}
use Rattle.page_rows.proofs.fields.are_numbers_from.Goals as goal

pub returns : goal.returns
returns c = c.are_numbers.ensures ∙ sym (list_all-map is_number (λ (p : Bor (List ℕ)). p.now) c.fields_from-rest.result.now) ∙ ap (list_all is_number) (texts_from c.args.fields.now c.fields_from-rest.result.now c.args.place c.fields_from-rest.ensures)
