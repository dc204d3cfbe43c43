use Rattle.std.proofs.Common.{arith}
use Rattle.std.proofs.lemmas.Grind.{common_steps}
use Rattle.import_run.proofs.ReasonLemmas.{parts_short}
use Rattle.import_run.proofs.outcome.make_span_message.Goals as goal

pub push_str-requires-4 : goal.push_str-requires-4
push_str-requires-4 c = grind (arith, common_steps, parts_short c.args.reason c.parts.result.0.now c.parts.result.1.now c.parts.ensures)

pub push_str-requires-5 : goal.push_str-requires-5
push_str-requires-5 c = grind (arith, common_steps, parts_short c.args.reason c.parts.result.0.now c.parts.result.1.now c.parts.ensures)
