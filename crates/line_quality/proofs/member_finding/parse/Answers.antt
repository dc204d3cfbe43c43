use Rattle.std.proofs.Common.{sym, ◌∙◌}
use Rattle.line_quality.proofs.JsonValueLemmas.{json_value-utf8, json_value-refused}
use Rattle.line_quality.proofs.member_finding.parse.Goals as goal

pub returns-in-Ok : goal.returns-in-Ok
returns-in-Ok c = sym (json_value-utf8 c.args.line.now c.in-Ok.ensures.ok.0 ∙ c.in-Ok.ensures.ok.1)

pub returns-in-Err-2 : goal.returns-in-Err-2
returns-in-Err-2 c = sym (json_value-refused c.args.line.now (c.in-Err.ensures.err (λ m. cc (c.is_memory.ensures.1 m))))
