use Rattle.std.proofs.Common.{◌++◌, ◌∙◌, ap}
use Rattle.std.proofs.lemmas.Result.{on_ok_weaker}
use Rattle.inspect_run.specs.inner.Listing.{label_of, name_at}
use Rattle.inspect_run.proofs.NameRowLemmas.{limit_told}
use Rattle.inspect_run.proofs.name_rows.push_limit.Goals as goal

pub returns : goal.returns
returns c =
    let listed = c.args.listed.now in
    on_ok_weaker c.push_byte_row.result (λ e. e ∙ ap (λ row. c.args.text.now.items ++ row) (limit_told (λ g. label_of listed.subject (name_at listed g)) listed.subject listed.groups.now c.groups_beyond.result.now c.kind.result.now c.as_bytes.result.now c.deref.result.now c.limit_level.result c.limit-limit.result
    c.kind.ensures (c.as_bytes.ensures.value ∙ c.text.ensures) c.limit-limit.ensures c.limit_level.ensures c.groups_beyond.ensures (c.deref.ensures.value ∙ c.in_ok-example.ensures))) c.push_byte_row.ensures
