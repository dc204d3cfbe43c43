use Rattle.std.proofs.Common.{◌∙◌}
use Rattle.import_run.proofs.OptionLemmas.{of_spans}
use Rattle.import_run.proofs.command_line.find_call_of.Goals as goal

pub returns-in-Spans-clause-asked : goal.returns-in-Spans-clause-asked
returns-in-Spans-clause-asked c = c.find_asked.ensures.asked ∙ of_spans c.args.form c.in-Spans.form c.args.words.now c.in-Spans.is
