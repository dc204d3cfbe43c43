use Rattle.std.proofs.Common.{◌≡◌, List, ℕ, Option, None, Some, IfNone, slice_get, sym, ap, ◌∙◌, subst}
use Rattle.std.specs.Prelude.{is_some, option_copied}
use Rattle.trace_types.specs.Segments.{SegmentName, name_of}
use Rattle.event_table.specs.Numbers.{text_under}
use Rattle.segment_cut.specs.Elements.{element_in}
use Rattle.segment_cut.specs.NumberedCuts.{segment_under}
use Rattle.segment_names.specs.Known.{name_number}
use Rattle.segment_names.proofs.SlotLemmas.{copied_some, same_texts, text_there}
use Rattle.segment_names.proofs.namer.look_up.Goals as goal

pub returns-in_err-name-clause-absent : goal.returns-in_err-name-clause-absent
returns-in_err-name-clause-absent c =
    let texts = c.args.texts.now in
    let s = c.args.segment.now in
    let task : c.text-task.result.now ≡ text_under texts.tasks s.task = text_there texts.tasks c.tasks.result.now s.task c.text-task.result.now c.tasks.ensures c.text-task.ensures in
    let start : c.text-start.result.now ≡ text_under texts.names s.start_event = text_there texts.names c.names.result.now s.start_event c.text-start.result.now c.names.ensures c.text-start.ensures in
    let end : c.text-end.result.now ≡ text_under texts.names s.end_event = text_there texts.names c.names-2.result.now s.end_event c.text-end.result.now c.names-2.ensures c.text-end.ensures in
    let none : name_number c.args.catalogue.now (name_of (segment_under texts s)) ≡ None =
    subst (λ (n : SegmentName). name_number c.args.catalogue.now n ≡ None) (same_texts c.text-task.result.now c.text-start.result.now c.text-end.result.now (text_under texts.tasks s.task) (text_under texts.names s.start_event) (text_under texts.names s.end_event) task start end) c.in_err-name.ensures.absent in
    subst (λ (o : Option _). IfNone o (name_number c.args.catalogue.now (name_of (segment_under texts s)) ≡ None)) (sym c.from_residual.ensures) none

pub returns-clause-known : goal.returns-clause-known
returns-clause-known c =
    let texts = c.args.texts.now in
    let s = c.args.segment.now in
    let task : c.text-task.result.now ≡ text_under texts.tasks s.task = text_there texts.tasks c.tasks.result.now s.task c.text-task.result.now c.tasks.ensures c.text-task.ensures in
    let start : c.text-start.result.now ≡ text_under texts.names s.start_event = text_there texts.names c.names.result.now s.start_event c.text-start.result.now c.names.ensures c.text-start.ensures in
    let end : c.text-end.result.now ≡ text_under texts.names s.end_event = text_there texts.names c.names-2.result.now s.end_event c.text-end.result.now c.names-2.ensures c.text-end.ensures in
    record {
      name = subst (λ (n : SegmentName). slice_get c.args.catalogue.now.names c.in_ok-name.name ≡ Some n) (same_texts c.text-task.result.now c.text-start.result.now c.text-end.result.now (text_under texts.tasks s.task) (text_under texts.names s.start_event) (text_under texts.names s.end_event) task start end) c.in_ok-name.ensures.name;
      task = subst (λ (t : List ℕ). slice_get c.args.catalogue.now.tasks c.in_ok-name.known_task ≡ Some t) task c.in_ok-name.ensures.task;
      element = c.is_some.ensures ∙ sym (copied_some c.element_of.result) ∙ ap is_some (c.element_of.ensures.given ∙ ap element_in (c.as_str.ensures ∙ start));
    }
