use Rattle.text_rows.proofs.PrintLemmas.{joined_from}
use Rattle.text_rows.proofs.row_bytes.put_fields.Goals as goal

pub returns : goal.returns
returns c = joined_from c.args.fields.now _ _ _ _ c.in-len1-up.len_at_least c.in_ok-put_field.ensures c.in_ok-put_rest.ensures
