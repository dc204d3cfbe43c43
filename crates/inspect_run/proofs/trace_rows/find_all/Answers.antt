use Rattle.trace_quality.specs.Facts.{IsFacts}
use Rattle.inspect_run.proofs.ResultLemmas.{as_long}
use Rattle.inspect_run.proofs.trace_rows.find_all.Goals as goal

pub returns-clause-one : goal.returns-clause-one
returns-clause-one g c = as_long c.find_facts.result IsFacts (λ facts. facts.items) c.args.traces.now.traces c.find_facts.ensures
