use Rattle.std.proofs.Common.{◌≡◌, ◌∙◌, ℕ, List, [], sym, subst, rules}
use Rattle.std.specs.Prelude.{FitsSigned}
use Rattle.std.proofs.lemmas.Int.{to_z-of_z}
use Rattle.std.proofs.lemmas.Option.{get_or_from_slice_get, slice_get_within}
use mir.Syntax.{w64}
use Rattle.trace_types.specs.Events.{task_at, event_name_at}
use Rattle.event_table.specs.Numbers.{text_under}
use Rattle.segment_cut.specs.Elements.{HasElement, element_in}
use Rattle.segment_cut.proofs.GivenLemmas.{given_element}
use Rattle.segment_cut.proofs.segments.make_segment.Goals as goal

pub returns-clause-segment : goal.returns-clause-segment
returns-clause-segment c = λ times at_start at_end.
    let texts = c.args.trace.now.texts in
    let events = c.args.trace.now.trace.events in
    let start = c.args.start in
    let end = c.args.end in
    let start_fits : FitsSigned w64 start.1 = search rules in
    let end_fits : FitsSigned w64 end.1 = search rules in
    let name : text_under texts.names c.event.result ≡ event_name_at events start.2 = get_or_from_slice_get texts.names c.event.result (event_name_at events start.2) [] c.event.ensures in
    record {
      task = get_or_from_slice_get texts.tasks c.task.result (task_at events start.2) [] c.task.ensures;
      start_event = name;
      end_event = get_or_from_slice_get texts.names c.event-2.result (event_name_at events end.2) [] c.event-2.ensures;
      start = to_z-of_z w64 start.1 start_fits ∙ sym at_start;
      end = to_z-of_z w64 end.1 end_fits ∙ sym at_end;
      element = subst (λ (n : List ℕ). HasElement (event_name_at events start.2) (element_in n)) (sym name) (given_element (event_name_at events start.2));
    }

pub returns-clause-texts : goal.returns-clause-texts
returns-clause-texts c =
    let texts = c.args.trace.now.texts in
    let events = c.args.trace.now.trace.events in
    record {
      task = slice_get_within texts.tasks c.task.result (task_at events c.args.start.2) c.task.ensures;
      start_event = slice_get_within texts.names c.event.result (event_name_at events c.args.start.2) c.event.ensures;
      end_event = slice_get_within texts.names c.event-2.result (event_name_at events c.args.end.2) c.event-2.ensures;
    }
