use Rattle.std.proofs.Common.{◌≡◌, ◌∙◌}
use Rattle.session_rules.specs.Parts.{GraphOf}
use Rattle.trace_rows.specs.inner.NumberedTraces.{graph_rows}
use Rattle.trace_rows.proofs.PrintLemmas.{shown_text}
use Rattle.trace_rows.proofs.TextLemmas.{same_names, graph_shown}
use Rattle.trace_rows.proofs.graph_texts.GraphTextsTraceTexts.print.Goals as goal

pub returns-clause-printed : goal.returns-clause-printed
returns-clause-printed g c =
    let order = c.args.computed.now.order in
    let reduced = c.args.computed.now.dag in
    let of_trace = c.requires.of_trace in
    let is : c.new-numbered.result ≡ record { names = c.args.book.now.book.known.names; trace = c.args.trace.now; order = order; weights = reduced.weights } =
    c.new-numbered.ensures ∙ same_names c.args.trace.now _ _ _ _ _ _ c.items.ensures c.weights.ensures.weights c.catalogue.ensures.catalogue in
    shown_text g.S.Sink.written g.S.Sink.faults c.args.book.now GraphOf c.print_graph.result _ _ c.args.trace.now (graph_rows c.new-numbered.result reduced) _ _ c.part_calls_follow.ensures.one
    (graph_shown c.args.book.now c.args.trace.now order c.requires.whole c.judged_graph_is_shown.ensures c.judged_words_tell.ensures c.names_are_shown.ensures c.catalogue.ensures.kept of_trace.form of_trace.graph of_trace.numbered
    c.new-numbered.result reduced is c.requires.form c.requires.weights c.requires.edges) c.print_graph.ensures
