use Rattle.std.proofs.Common.{◌∙◌, ◌++◌, List, ap, map, subst, sym}
use Rattle.std.proofs.lemmas.Result.{on_ok_weaker}
use Rattle.alike_groups.specs.declared.group.Group.{Group}
use Rattle.name_patterns.specs.Families.{AreFamilies}
use Rattle.name_patterns.specs.Patterns.{pattern_of}
use Rattle.name_quality.specs.Names.{different_tasks, first_task_of, names_under}
use Rattle.trace_types.specs.Segments.{SegmentName}
use Rattle.inspect_run.proofs.NameRowLemmas.{tasks_told}
use Rattle.inspect_run.proofs.name_rows.push_tasks.Goals as goal

pub returns : goal.returns
returns c =
    let names : List SegmentName = names_under c.args.texts.now c.args.names.now in
    let families = c.deref-3.result.now in
    let different = ap (map (first_task_of names)) c.deref-2.ensures.value ∙ c.in_ok-groups.ensures.different in
    on_ok_weaker c.push_task_list.result (λ e. record {
      families = families;
      told = subst (λ (fs : List Group). AreFamilies (map pattern_of (different_tasks names)) fs) (sym c.deref-3.ensures.value) c.in_ok-families.ensures.families;
      appended = e ∙ ap (λ rows. c.args.text.now.items ++ rows) (tasks_told names c.deref-2.result.now families different);
    }) c.push_task_list.ensures
