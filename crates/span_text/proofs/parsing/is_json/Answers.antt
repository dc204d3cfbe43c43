use Rattle.std.proofs.Common.{sym, ap, is_some}
use Rattle.span_text.proofs.JsonValueLemmas.{json_of-checked, json_of-refused}
use Rattle.span_text.proofs.parsing.is_json.Goals as goal

pub returns-in_ok-valid-in-Ok : goal.returns-in_ok-valid-in-Ok
returns-in_ok-valid-in-Ok c = json_of-checked c.args.bytes.now c.in-Ok.text.now c.in_ok-valid-in-Ok.valid c.in-Ok.ensures.0 c.in-Ok.ensures.1 c.in_ok-valid-in-Ok.ensures.ok

pub returns-in-Err : goal.returns-in-Err
returns-in-Err c = ap is_some (sym (json_of-refused c.args.bytes.now (λ utf8. absurd (c.in-Err.ensures utf8))))
