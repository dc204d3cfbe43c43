use Rattle.std.proofs.Common.{◌∙◌}
use Rattle.page_rows.proofs.FieldLemmas.{numbers_all}
use Rattle.page_rows.proofs.fields.numbers_from.Goals as goal

pub returns : goal.returns
returns c = c.of.ensures ∙ numbers_all c.args.fields.now c.fields_from-rest.result.now c.args.place c.fields.field-index _ c.fields_from-rest.ensures c.fields-test.false c.fields.invariant
