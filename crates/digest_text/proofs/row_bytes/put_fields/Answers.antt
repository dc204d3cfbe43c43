use Rattle.digest_text.proofs.RowLemmas.{joined_from}
use Rattle.digest_text.proofs.row_bytes.put_fields.Goals as goal

pub returns : goal.returns
returns c = joined_from c.args.fields.now _ _ _ _ c.in-len1-up.len_at_least c.in_ok-extend_from_slice.ensures.items c.in_ok-put_rest.ensures
