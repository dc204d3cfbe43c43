use Rattle.std.proofs.Common.{sym, ap, Err, ◌∙◌}
use Rattle.span_text.proofs.JsonValueLemmas.{json_of-utf8, json_of-refused}
use Rattle.span_text.proofs.parsing.parse.Goals as goal

pub returns-in-Ok : goal.returns-in-Ok
returns-in-Ok c = sym (json_of-utf8 c.args.bytes.now c.in-Ok.ensures.ok.0 ∙ c.in-Ok.ensures.ok.1)

pub returns-in-Err-Invalid : goal.returns-in-Err-Invalid
returns-in-Err-Invalid c = sym (json_of-refused c.args.bytes.now (c.from_slice.ensures.invalid (c.in-Err-Invalid.is ∙ ap Err c.in-Err-Invalid.field-0-is)))
