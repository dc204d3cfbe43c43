use Rattle.std.proofs.Common.{sym, ap, subst, ◌∙◌, ◌≡◌, Option, None, Some, IfNone, slice_get}
use Rattle.segment_names.specs.Known.{name_number}
use Rattle.segment_names.specs.inner.Filing.{Filed, known_in}
use Rattle.segment_names.proofs.FilingLemmas.{no_task, no_start, no_end, found_as, key_found}
use Rattle.segment_names.proofs.tables.Tables.search.Goals as goal

pub returns-in_err-task_index-clause-absent : goal.returns-in_err-task_index-clause-absent
returns-in_err-task_index-clause-absent c =
    let none : name_number (known_in c.args.self.now) (c.args.task.now, c.args.start.now, c.args.end.now) ≡ None = sym (sym (no_task c.self.inside.tasks.keys c.self.inside.events.keys c.self.inside.names.entries c.self.invariant (c.args.task.now, c.args.start.now, c.args.end.now) (sym c.get_index_of.ensures.index ∙ c.in_err-task_index.was)) ∙ ap (λ (f : Filed). name_number (known_in f) (c.args.task.now, c.args.start.now, c.args.end.now)) c.self.view_is) in
    subst (λ (o : Option _). IfNone o (name_number (known_in c.args.self.now) (c.args.task.now, c.args.start.now, c.args.end.now) ≡ None)) (sym c.from_residual.ensures) none

pub returns-in_err-start_index-clause-absent : goal.returns-in_err-start_index-clause-absent
returns-in_err-start_index-clause-absent c =
    let none : name_number (known_in c.args.self.now) (c.args.task.now, c.args.start.now, c.args.end.now) ≡ None = sym (sym (no_start c.self.inside.tasks.keys c.self.inside.events.keys c.self.inside.names.entries c.self.invariant (c.args.task.now, c.args.start.now, c.args.end.now) (sym c.get_index_of-2.ensures.index ∙ c.in_err-start_index.was)) ∙ ap (λ (f : Filed). name_number (known_in f) (c.args.task.now, c.args.start.now, c.args.end.now)) c.self.view_is) in
    subst (λ (o : Option _). IfNone o (name_number (known_in c.args.self.now) (c.args.task.now, c.args.start.now, c.args.end.now) ≡ None)) (sym c.from_residual-in_err-start_index.ensures) none

pub returns-in_err-end_index-clause-absent : goal.returns-in_err-end_index-clause-absent
returns-in_err-end_index-clause-absent c =
    let none : name_number (known_in c.args.self.now) (c.args.task.now, c.args.start.now, c.args.end.now) ≡ None = sym (sym (no_end c.self.inside.tasks.keys c.self.inside.events.keys c.self.inside.names.entries c.self.invariant (c.args.task.now, c.args.start.now, c.args.end.now) (sym c.get_index_of-3.ensures.index ∙ c.in_err-end_index.was)) ∙ ap (λ (f : Filed). name_number (known_in f) (c.args.task.now, c.args.start.now, c.args.end.now)) c.self.view_is) in
    subst (λ (o : Option _). IfNone o (name_number (known_in c.args.self.now) (c.args.task.now, c.args.start.now, c.args.end.now) ≡ None)) (sym c.from_residual-in_err-end_index.ensures) none

pub returns-in_err-name_index-clause-absent : goal.returns-in_err-name_index-clause-absent
returns-in_err-name_index-clause-absent c =
    let at = found_as c.self.inside.tasks.keys c.self.inside.events.keys c.self.inside.names.entries c.self.invariant (c.args.task.now, c.args.start.now, c.args.end.now) c.in_ok-task_index.task_index c.in_ok-start_index.start_index c.in_ok-end_index.end_index
    (sym c.get_index_of.ensures.index ∙ c.in_ok-task_index.was) (sym c.get_index_of-2.ensures.index ∙ c.in_ok-start_index.was) (sym c.get_index_of-3.ensures.index ∙ c.in_ok-end_index.was) in
    let none : name_number (known_in c.args.self.now) (c.args.task.now, c.args.start.now, c.args.end.now) ≡ None = sym (sym c.in_err-name_index.was ∙ c.get_index_of-4.ensures.index ∙ key_found c.self.inside.tasks.keys c.self.inside.events.keys c.self.inside.names.entries c.self.invariant (c.args.task.now, c.args.start.now, c.args.end.now) (record { task = c.in_ok-task_index.task_index; start = c.in_ok-start_index.start_index; end = c.in_ok-end_index.end_index }) at ∙ ap (λ (f : Filed). name_number (known_in f) (c.args.task.now, c.args.start.now, c.args.end.now)) c.self.view_is) in
    subst (λ (o : Option _). IfNone o (name_number (known_in c.args.self.now) (c.args.task.now, c.args.start.now, c.args.end.now) ≡ None)) (sym c.from_residual-in_err-name_index.ensures) none

pub returns-clause-name : goal.returns-clause-name
returns-clause-name c =
    let at = found_as c.self.inside.tasks.keys c.self.inside.events.keys c.self.inside.names.entries c.self.invariant (c.args.task.now, c.args.start.now, c.args.end.now) c.in_ok-task_index.task_index c.in_ok-start_index.start_index c.in_ok-end_index.end_index
    (sym c.get_index_of.ensures.index ∙ c.in_ok-task_index.was) (sym c.get_index_of-2.ensures.index ∙ c.in_ok-start_index.was) (sym c.get_index_of-3.ensures.index ∙ c.in_ok-end_index.was) in
    sym (sym c.in_ok-name_index.was ∙ c.get_index_of-4.ensures.index ∙ key_found c.self.inside.tasks.keys c.self.inside.events.keys c.self.inside.names.entries c.self.invariant (c.args.task.now, c.args.start.now, c.args.end.now) (record { task = c.in_ok-task_index.task_index; start = c.in_ok-start_index.start_index; end = c.in_ok-end_index.end_index }) at ∙ ap (λ (f : Filed). name_number (known_in f) (c.args.task.now, c.args.start.now, c.args.end.now)) c.self.view_is)

pub returns-clause-task : goal.returns-clause-task
returns-clause-task c =
    let at = found_as c.self.inside.tasks.keys c.self.inside.events.keys c.self.inside.names.entries c.self.invariant (c.args.task.now, c.args.start.now, c.args.end.now) c.in_ok-task_index.task_index c.in_ok-start_index.start_index c.in_ok-end_index.end_index
    (sym c.get_index_of.ensures.index ∙ c.in_ok-task_index.was) (sym c.get_index_of-2.ensures.index ∙ c.in_ok-start_index.was) (sym c.get_index_of-3.ensures.index ∙ c.in_ok-end_index.was) in
    subst (λ (f : Filed). slice_get f.tasks c.in_ok-task_index.task_index ≡ Some c.args.task.now) c.self.view_is at.task
