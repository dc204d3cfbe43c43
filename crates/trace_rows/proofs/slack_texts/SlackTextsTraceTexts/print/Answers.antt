use Rattle.std.proofs.Common.{◌≡◌, ◌∙◌}
use Rattle.session_rules.specs.Parts.{SlacksOf}
use Rattle.trace_rows.specs.inner.NumberedTraces.{slack_rows}
use Rattle.trace_rows.proofs.PrintLemmas.{shown_text}
use Rattle.trace_rows.proofs.TextLemmas.{same_names, slack_shown}
use Rattle.trace_rows.proofs.slack_texts.SlackTextsTraceTexts.print.Goals as goal

pub returns-clause-printed : goal.returns-clause-printed
returns-clause-printed g c =
    let slacks = c.args.computed.now in
    let table = slacks.table in
    let dag = slacks.graph.dag in
    let of_trace = c.requires.of_trace in
    let is : c.new-numbered.result ≡ record { names = c.args.book.now.book.known.names; trace = c.args.trace.now; order = slacks.graph.order; weights = dag.weights } =
    c.new-numbered.ensures ∙ same_names c.args.trace.now _ _ _ _ _ _ c.items.ensures c.weights.ensures.weights c.catalogue.ensures.catalogue in
    shown_text g.S.Sink.written g.S.Sink.faults c.args.book.now SlacksOf c.print_table.result _ _ c.args.trace.now (slack_rows c.new-numbered.result table.longest table.slacks.items) _ _ c.part_calls_follow.ensures.one
    (slack_shown c.args.book.now c.args.trace.now slacks.graph.order dag c.judged_graph_is_shown.ensures c.judged_words_tell.ensures c.names_are_shown.ensures c.catalogue.ensures.kept of_trace.form of_trace.graph of_trace.numbered
    c.new-numbered.result table.longest table.slacks.items is c.requires.is_longest c.requires.each) c.print_table.ensures
