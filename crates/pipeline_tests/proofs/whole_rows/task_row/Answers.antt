use Rattle.std.proofs.Common.{List, sym, subst}
use Rattle.hypothesis_index.specs.Refuting.{RefutesTasks}
use Rattle.refute_tests.specs.Clearing.{AddsExactly, ClearsExactly}
use Rattle.word_rows.specs.declared.entries.Entry.{Entry}
use Rattle.refute_tests.proofs.ExactLemmas.{from_nothing}
use Rattle.pipeline_tests.proofs.whole_rows.task_row.Goals as goal

pub returns-clause-exact : goal.returns-clause-exact
returns-clause-exact c = subst (λ (l : List Entry). ClearsExactly l (λ r. RefutesTasks r c.args.trace.now)) (sym c.in_ok-row.ensures)
    (from_nothing c.clear_tasks.new.maker (λ r. RefutesTasks r c.args.trace.now)
    (subst (λ (l : List Entry). AddsExactly l (λ r. RefutesTasks r c.args.trace.now) c.clear_tasks.new.maker) c.new-maker.ensures c.in_ok-clear_tasks.ensures.cleared))
