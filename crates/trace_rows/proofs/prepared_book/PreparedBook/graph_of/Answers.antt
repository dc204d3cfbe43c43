use Rattle.std.proofs.Common.{ℕ, List, length, ap, sym, ◌∙◌, subst}
use Rattle.judged_books.specs.JudgedBooks.{JudgedState}
use Rattle.model_meet.specs.RelationBits.{KeepsExclusion}
use Rattle.trace_rules.specs.TraceGraphs.{IsTraceGraph}
use Rattle.trace_types.specs.Parts.{by_number}
use Rattle.trace_rows.proofs.BookLemmas.{numbered_graph}
use Rattle.trace_rows.proofs.prepared_book.PreparedBook.graph_of.Goals as goal

pub returns-clause-graph : goal.returns-clause-graph
returns-clause-graph c =
    let made = c.in_ok-made.made in
    subst (λ (words : List ℕ). IsTraceGraph by_number (KeepsExclusion words) c.args.trace.now made.order made.dag) (c.self.invariant.words ∙ ap (λ (b : JudgedState). b.words) c.self.view_is)
    c.in_ok-made.ensures.graph

pub returns-clause-numbered : goal.returns-clause-numbered
returns-clause-numbered c =
    let made = c.in_ok-made.made in
    numbered_graph (KeepsExclusion c.args.self.now.words) c.args.self.now.book.known.names c.args.trace.now made.order made.dag c.requires (returns-clause-graph c) c.weights-weights.ensures.form
