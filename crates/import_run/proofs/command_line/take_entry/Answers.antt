use Rattle.std.proofs.Common.{Some, ap, ◌∙◌}
use Rattle.import_run.specs.inner.ParsedLines.{asked_view}
use Rattle.import_run.proofs.OptionLemmas.{entry_step}
use Rattle.import_run.proofs.command_line.take_entry.Goals as goal

pub returns : goal.returns
returns c = entry_step (asked_view c.args.asked) c.args.later.now c.as_str.result.now (ap Some c.as_str.ensures ∙ c.in-Some.ensures.value)
