use Rattle.std.proofs.Common.{◌∙◌, ◌++◌, List, ap, sym}
use Rattle.trace_types.specs.declared.event.Event.{Event}
use Rattle.span_lines.specs.Messages.{call_span}
use Rattle.span_lines.specs.Requests.{name_of_request, request_size}
use Rattle.span_lines.specs.SpanTexts.{is_long}
use Rattle.span_lines.specs.inner.LentMappings.{mapping_lent}
use Rattle.span_lines.specs.inner.Printed.{text_of}
use Rattle.span_lines.proofs.CallLemmas.{span_at}
use Rattle.span_lines.proofs.PrintLemmas.{long_is, request_is}
use Rattle.span_lines.proofs.printing.print_request.Goals as goal

pub returns-clause-text : goal.returns-clause-text
returns-clause-text c = λ entries are.
    let m = mapping_lent c.args.mapping.now in
    let calls = c.args.mapping.now.calls.now in
    let call = c.args.call in
    let own = c.in_ok-name.ensures entries are ∙ ap (name_of_request entries) (sym (span_at calls call c.index-mapping-call.result c.requires.within)) in
    c.in_ok-count.ensures.text ∙ ap (λ (ls : List Event). c.args.text.now.items ++ text_of ls)
    (request_is m c.in_ok-name.name (name_of_request entries (call_span calls call)) call c.find_end-end.result (request_size calls call) own c.find_end-end.ensures.end)

pub returns-clause-long : goal.returns-clause-long
returns-clause-long c = λ entries are.
    let m = mapping_lent c.args.mapping.now in
    let calls = c.args.mapping.now.calls.now in
    let call = c.args.call in
    let own = c.in_ok-name.ensures entries are ∙ ap (name_of_request entries) (sym (span_at calls call c.index-mapping-call.result c.requires.within)) in
    long_is _ c.in_ok-count.count c.in_ok-count.ensures.count
    ∙ ap is_long (request_is m c.in_ok-name.name (name_of_request entries (call_span calls call)) call c.find_end-end.result (request_size calls call) own c.find_end-end.ensures.end)
