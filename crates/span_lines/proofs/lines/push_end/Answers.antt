use Rattle.std.proofs.Common.{◌∙◌, ◌++◌, ℕ, Option, ap, refl, sym}
use Rattle.std.specs.Prelude.{codes}
use Rattle.std.proofs.lemmas.Result.{on_ok_weaker}
use Rattle.span_types.specs.declared.span.Span.{Span}
use Rattle.span_lines.specs.Mappings.{label_of, name_of}
use Rattle.span_lines.specs.Messages.{call_span}
use Rattle.span_lines.specs.Moments.{message_with, received_at_end, said_by, sent_at_end}
use Rattle.span_lines.specs.inner.LentMappings.{mapping_lent}
use Rattle.span_lines.proofs.CallLemmas.{caller_at, span_at}
use Rattle.span_lines.proofs.LineLemmas.{line_pushed}
use Rattle.span_lines.proofs.lines.push_end.Goals as goal

pub returns : goal.returns
returns c =
    let m = c.args.mapping.now in
    let calls = m.calls.now in
    let i = c.args.call in
    let own = span_at calls i c.index-mapping-call.result c.requires.within in
    let from = caller_at calls i c.index-mapping-call.result c.requires.within in
    on_ok_weaker c.push_messages.result (λ h. line_pushed c.args.text.now.items c.push_machine.new.text.items c.push_name.new.bytes.items c.push_messages.new.text.items c.args.request.now
    _ _ _ _ _ _ (name_of m.machines.now (call_span calls i).machine) c.args.task.now (label_of (mapping_lent m) i ++ codes " end") (call_span calls i).end (sent_at_end (mapping_lent m) i) (received_at_end (mapping_lent m) i)
    c.in_ok-push_machine.ensures c.in_ok-push_name.ensures h
    (ap (name_of m.machines.now) (c.as_str.ensures ∙ ap (λ (s : Span). s.machine) (sym own)))
    (c.as_bytes.ensures.value ∙ c.as_str-2.ensures)
    (c.as_bytes-2.ensures.value ∙ c.as_str-3.ensures ∙ c.end-event.ensures)
    (ap (λ (s : Span). s.end) (sym own))
    (ap (message_with calls (codes "<")) (c.said_by-to.ensures ∙ ap (λ (o : Option ℕ). said_by m.last_far.now o i) (sym from)))
    refl) c.push_messages.ensures
