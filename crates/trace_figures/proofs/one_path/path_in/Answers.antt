use Rattle.std.proofs.Common.{◌≡◌, ◌<◌, ℕ, List, length, All, sym, ap, ◌∙◌, subst}
use Rattle.std.specs.List.{AllZip}
use Rattle.weighted_dag.specs.Graphs.{order_of}
use Rattle.trace_types.specs.declared.named_segment.NamedSegment.{NamedSegment}
use Rattle.trace_rules.specs.CriticalPaths.{StandsFor}
use Rattle.weighted_dag.proofs.LengthLemmas.{chain_within}
use Rattle.trace_paths.specs.NumberedPaths.{IsNamedPath}
use Rattle.trace_paths.specs.inner.GraphPaths.{IsPathIn}
use Rattle.trace_paths.proofs.PathLemmas.{indices_within, named}
use Rattle.trace_figures.proofs.one_path.path_in.Goals as goal

-- the vertices of the chain stand for the segments of the path
stand : (segments lent : List NamedSegment) (order lent_order chain lent_chain : List ℕ) (path : List NamedSegment) → lent ≡ segments → lent_order ≡ order → lent_chain ≡ chain → AllZip (StandsFor lent lent_order) lent_chain path → AllZip (StandsFor segments order) chain path
stand segments lent order lent_order chain lent_chain path e f h z =
    subst (λ (ss : List NamedSegment). AllZip (StandsFor ss order) chain path) e
    (subst (λ (is : List ℕ). AllZip (StandsFor lent is) chain path) f
    (subst (λ (vs : List ℕ). AllZip (StandsFor lent lent_order) vs path) h z))

pub segments_on-requires-clause-vertices : goal.segments_on-requires-clause-vertices
segments_on-requires-clause-vertices c =
    let g = c.args.graph.now.dag in
    let has = c.requires in
    let size : order_of g ≡ length c.items-2.result.now = has.count ∙ sym (ap length c.items-2.ensures) in
    subst (λ (vs : List ℕ). All (λ v. v < length c.items-2.result.now) vs) (sym c.items-3.ensures)
    (subst (λ (n : ℕ). All (λ v. v < n) c.in_ok-chain.chain.vertices) size (chain_within g c.in_ok-chain.chain.vertices c.in_ok-chain.ensures.chain))

pub segments_on-requires-clause-indices : goal.segments_on-requires-clause-indices
segments_on-requires-clause-indices c =
    let has = c.requires in
    subst (λ (is : List ℕ). All (λ i. i < length c.items.result.now) is) (sym c.items-2.ensures)
    (subst (λ (ss : List NamedSegment). All (λ i. i < length ss) c.args.graph.now.order) (sym c.items.ensures)
    (indices_within c.args.trace.now c.args.graph.now.order c.args.graph.now.dag has))

pub returns-clause-path : goal.returns-clause-path
returns-clause-path c =
    let chain = c.in_ok-chain.chain.vertices in
    subst (IsPathIn c.args.trace.now.segments c.args.graph.now.order c.args.graph.now.dag) (sym c.of.ensures) (record {
      chain = chain;
      longest = record { chain = c.in_ok-chain.ensures.chain; none_longer = c.in_ok-chain.ensures.longest };
      first = c.in_ok-chain.ensures.first;
      stands = stand c.args.trace.now.segments c.items.result.now c.args.graph.now.order c.items-2.result.now chain c.items-3.result.now c.in_ok-path.path.items c.items.ensures c.items-2.ensures c.items-3.ensures c.in_ok-path.ensures;
    })

pub returns-clause-named : goal.returns-clause-named
returns-clause-named c = λ names below.
    let chain = c.in_ok-chain.chain.vertices in
    let path = c.in_ok-path.path.items in
    let stands : AllZip (StandsFor c.args.trace.now.segments c.args.graph.now.order) chain path =
    stand c.args.trace.now.segments c.items.result.now c.args.graph.now.order c.items-2.result.now chain c.items-3.result.now path c.items.ensures c.items-2.ensures c.items-3.ensures c.in_ok-path.ensures in
    subst (IsNamedPath names) (sym c.of.ensures) (named c.args.trace.now c.args.graph.now.order c.args.graph.now.dag c.requires chain c.in_ok-chain.ensures.chain path stands names below)
