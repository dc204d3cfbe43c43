use Rattle.std.proofs.Common.{◌≡◌, List, [], map, length, sym, subst, rules}
use Rattle.std.specs.List.{Contains}
use Rattle.trace_types.specs.Segments.{name_of}
use Rattle.trace_types.specs.Segments.{SegmentName}
use Rattle.model_checks.specs.inner.Growing.{AddsDistinct}
use Rattle.trace_types.specs.Listing.{ListsExactly}
use Rattle.trace_types.specs.NameOrder.{name_cmp, pair_cmp}
use Rattle.trace_types.specs.Parts.{by_text, segments_of}
use Rattle.trace_types.specs.Relations.{HappensBefore, ExcludesUnordered}
use Rattle.model_checks.proofs.NameLemmas.{names_counted, tasks_counted}
use Rattle.model_checks.proofs.NameLemmas.{task_in}
use Rattle.model_checks.proofs.plain.plain_model.Goals as goal

pub pair_lists-requires : goal.pair_lists-requires
pair_lists-requires c =
    let same : c.deref-2.result.now ≡ c.in_ok-names.names.items = c.deref-2.ensures.value in
    subst (λ (l : List SegmentName). ListsExactly name_cmp (Contains (map name_of (segments_of by_text c.args.traces.now))) l) (sym same) c.in_ok-names.ensures.lists

pub returns-clause-names : goal.returns-clause-names
returns-clause-names c =
    let size : length c.in_ok-names.names.items ≡ c.len.result = search rules in
    names_counted (segments_of by_text c.args.traces.now) c.in_ok-names.names.items c.len.result c.in_ok-names.ensures.lists size

pub returns-clause-tasks : goal.returns-clause-tasks
returns-clause-tasks c =
    let size : length c.in_ok-tasks.tasks.items ≡ c.len-2.result = search rules in
    let same : c.deref.result.now ≡ c.in_ok-names.names.items = c.deref.ensures.value in
    tasks_counted (segments_of by_text c.args.traces.now) c.in_ok-names.names.items c.in_ok-tasks.tasks.items c.len-2.result c.in_ok-names.ensures.lists
    (subst (λ (l : List SegmentName). AddsDistinct (map task_in l) [] c.in_ok-tasks.tasks.items) same c.in_ok-tasks.ensures) size

pub returns-clause-hb : goal.returns-clause-hb
returns-clause-hb c = subst (ListsExactly (pair_cmp name_cmp) (λ (pair : (SegmentName × SegmentName)). HappensBefore by_text c.args.traces.now pair.0 pair.1)) (sym c.of.ensures) c.in_ok-lists.ensures.before

pub returns-clause-mx : goal.returns-clause-mx
returns-clause-mx c = subst (ListsExactly (pair_cmp name_cmp) (λ (pair : (SegmentName × SegmentName)). ExcludesUnordered by_text name_cmp c.args.traces.now pair.0 pair.1)) (sym c.of-2.ensures) c.in_ok-lists.ensures.exclusive
