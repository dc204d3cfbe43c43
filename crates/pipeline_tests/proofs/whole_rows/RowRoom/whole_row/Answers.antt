use Rattle.std.proofs.Common.{List, ◌∷◌, [], sym, subst}
use Rattle.hypothesis_index.specs.Refuting.{Refutes, RefutesNames, RefutesTasks}
use Rattle.refute_tests.proofs.ExactLemmas.{from_nothing}
use Rattle.pipeline_tests.proofs.TaskLemmas.{adds_then, either_kind, of_names, of_tasks}
use Rattle.refute_tests.specs.Clearing.{AddsExactly, ClearsExactly}
use Rattle.trace_types.specs.declared.named_trace.NamedTrace.{NamedTrace}
use Rattle.word_rows.specs.declared.entries.Entry.{Entry}
use Rattle.pipeline_tests.proofs.whole_rows.RowRoom.whole_row.Goals as goal

pub returns-clause-exact : goal.returns-clause-exact
returns-clause-exact c =
    let t : NamedTrace = c.args.trace.now in
    let blank : List Entry = record { word = 0; mask = 0 } ∷ [] in
    let tasks : List Entry = c.clear_tasks.new.maker in
    let all : List Entry = c.clear_segments.new.maker in
    subst (λ (l : List Entry). ClearsExactly l (λ r. Refutes r t)) (sym c.in_ok-row.ensures)
    (from_nothing all (λ r. Refutes r t) (adds_then blank tasks all (λ r. RefutesTasks r t) (λ r. RefutesNames r t) (λ r. Refutes r t)
    (subst (λ (l : List Entry). AddsExactly l (λ r. RefutesTasks r t) tasks) c.in_ok-maker.ensures c.in_ok-clear_tasks.ensures.cleared)
    c.in_ok-clear_segments.ensures.cleared
    (λ r v f. of_tasks t r f) (λ r v f. of_names t r f) (λ r v f. either_kind t r f)))
