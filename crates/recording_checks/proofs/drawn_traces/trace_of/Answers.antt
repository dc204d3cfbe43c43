use Rattle.std.proofs.Common.{◌≡◌, ◌∙◌, List, sym, subst}
use Rattle.trace_types.specs.NamedSegments.{number_of_name, number_of_task, number_of_element, named_start, named_end}
use Rattle.trace_types.specs.SegmentLists.{NamesDiffer, TasksStandTogether, JoinInTasks, ElementsCountUp}
use Rattle.trace_types.specs.declared.named_segment.NamedSegment.{NamedSegment}
use Rattle.recording_checks.proofs.DrawnLemmas.{names_differ, stand_together, elements_count_up}
use Rattle.recording_checks.proofs.drawn_traces.trace_of.Goals as goal

pub invariant_of-result : goal.invariant_of-result
invariant_of-result c =
    let xs : List NamedSegment = c.args.segments.items in
    let items : c.of.result ≡ xs = c.of.ensures in
    record {
      grace_within = c.requires.grace;
      names_differ = subst (λ (l : List NamedSegment). NamesDiffer number_of_name l) (sym items) (names_differ xs c.requires.drawn);
      together = subst (λ (l : List NamedSegment). TasksStandTogether number_of_task l) (sym items) (stand_together xs c.requires.drawn);
      joined = subst (λ (l : List NamedSegment). JoinInTasks number_of_task named_start named_end l) (sym items) c.requires.drawn.joined;
      elements = subst (λ (l : List NamedSegment). ElementsCountUp number_of_element l) (sym items) (elements_count_up xs c.requires.drawn);
    }
