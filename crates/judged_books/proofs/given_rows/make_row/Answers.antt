use Rattle.std.proofs.Common.{◌≡◌, ◌⊎◌, ◌∙◌, List, ap, inl, inr, subst, sym}
use Rattle.std.proofs.lemmas.Result.{IfOk-weaker}
use Rattle.hypothesis_index.specs.declared.relation.Relation.{Relation}
use Rattle.pipeline_tests.proofs.TaskLemmas.{adds_then}
use Rattle.refute_tests.specs.Clearing.{AddsExactly, ClearsExactly}
use Rattle.refute_tests.proofs.ExactLemmas.{from_nothing}
use Rattle.word_rows.specs.declared.entries.Entry.{Entry}
use Rattle.judged_books.specs.inner.MarkedRows.{RowsTell, TellsOfNames, TellsOfTasks}
use Rattle.judged_books.proofs.given_rows.make_row.Goals as goal

pub returns-clause-clears : goal.returns-clause-clears
returns-clause-clears c =
    let P : Relation → Type 0 = RowsTell TellsOfTasks c.args.table.now.tasks in
    let Q : Relation → Type 0 = RowsTell TellsOfNames c.args.table.now.names in
    let tasks = c.deref.ensures.value ∙ ap (λ t. t.tasks) c.table.view_is in
    let names = c.deref-2.ensures.value ∙ ap (λ t. t.names) c.table.view_is in
    let one : AddsExactly c.new-maker.result P c.clear_task_rows.new.maker = subst (λ l. AddsExactly c.new-maker.result (RowsTell TellsOfTasks l) c.clear_task_rows.new.maker) tasks c.in_ok-clear_task_rows.ensures.cleared in
    let two : AddsExactly c.clear_task_rows.new.maker Q c.clear_name_rows.new.maker = subst (λ l. AddsExactly c.clear_task_rows.new.maker (RowsTell TellsOfNames l) c.clear_name_rows.new.maker) names c.in_ok-clear_name_rows.ensures.cleared in
    let both = adds_then c.new-maker.result c.clear_task_rows.new.maker c.clear_name_rows.new.maker P Q (λ r. P r ⊎ Q r) one two (λ r i p. inl p) (λ r i q. inr q) (λ r i s. s) in
    let whole : ClearsExactly c.clear_name_rows.new.maker (λ r. P r ⊎ Q r) = from_nothing c.clear_name_rows.new.maker (λ r. P r ⊎ Q r) (subst (λ (o : List Entry). AddsExactly o (λ r. P r ⊎ Q r) c.clear_name_rows.new.maker) c.new-maker.ensures both) in
    IfOk-weaker c.finish.result _ _ (λ (row : List Entry) (e : row ≡ c.clear_name_rows.new.maker). subst (λ (o : List Entry). ClearsExactly o (λ r. P r ⊎ Q r)) (sym e) whole) c.finish.ensures
