use Rattle.std.proofs.Common.{◌≡◌, ◌∙◌}
use Rattle.session_rules.specs.Parts.{PathOf}
use Rattle.trace_rows.specs.inner.NumberedTraces.{path_rows}
use Rattle.trace_rows.proofs.PrintLemmas.{shown_text}
use Rattle.trace_rows.proofs.TextLemmas.{same_names, chain_within, path_shown}
use Rattle.trace_rows.proofs.path_texts.PathTextsTraceTexts.print.Goals as goal

pub print_path-requires : goal.print_path-requires
print_path-requires g c = rw (c.new-numbered.ensures, c.items.ensures) (chain_within c.args.computed.now.graph.dag _ _ c.requires.of_trace.numbered.weighted c.requires.chained)

pub returns-clause-printed : goal.returns-clause-printed
returns-clause-printed g c =
    let path = c.args.computed.now in
    let order = path.graph.order in
    let dag = path.graph.dag in
    let of_trace = c.requires.of_trace in
    let is : c.new-numbered.result ≡ record { names = c.args.book.now.book.known.names; trace = c.args.trace.now; order = order; weights = dag.weights } =
    c.new-numbered.ensures ∙ same_names c.args.trace.now _ _ _ _ _ _ c.items.ensures c.weights.ensures.weights c.catalogue.ensures.catalogue in
    shown_text g.S.Sink.written g.S.Sink.faults c.args.book.now PathOf c.print_path.result _ _ c.args.trace.now (path_rows c.new-numbered.result path.chain.length path.chain.vertices) _ _ c.part_calls_follow.ensures.one
    (path_shown c.args.book.now c.args.trace.now order dag c.judged_graph_is_shown.ensures c.judged_words_tell.ensures c.names_are_shown.ensures c.catalogue.ensures.kept of_trace.form of_trace.graph of_trace.numbered
    c.new-numbered.result path.chain.length path.chain.vertices is c.requires.chained c.requires.none_longer c.requires.first c.requires.adds_up) c.print_path.ensures
