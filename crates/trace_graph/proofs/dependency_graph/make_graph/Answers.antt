use Rattle.std.proofs.Common.{◌≡◌, ◌≤◌, ℕ, List, length, get_or, map, arith, sym, ap, ◌∙◌, subst}
use Rattle.std.proofs.lemmas.List.{length-map}
use Rattle.trace_types.specs.declared.named_segment.NamedSegment.{NamedSegment}
use Rattle.trace_types.specs.Parts.{by_number}
use Rattle.weighted_dag.specs.Graphs.{Graph, IsGraph}
use Rattle.model_meet.specs.RelationBits.{KeepsExclusion}
use Rattle.trace_rules.specs.TraceGraphs.{HasVertices, IsTraceGraph}
use Rattle.trace_types.proofs.FewSegmentLemmas.{few_names}
use Rattle.trace_graph.specs.inner.Keys.{AreKeys, Key, duration_of, index_in, name_in}
use Rattle.trace_graph.specs.inner.Successors.{AreKnown, AreLists}
use Rattle.trace_graph.proofs.GraphLemmas.{few_keys, form_made, graph_made, names_known, vertices_made}
use Rattle.trace_graph.proofs.dependency_graph.make_graph.Goals as goal

pub sort_keys-requires : goal.sort_keys-requires
sort_keys-requires g c =
    let few : length c.args.trace.now.segments ≤ 512 = few_names 512 c.args.trace.now.segments c.args.trace.now.names_differ (λ k d lt. (get_or c.args.trace.now.segments k d).name_below) in
    let same : length c.items-segments.result.now ≡ length c.args.trace.now.segments = ap length c.items-segments.ensures in
    omega arith

pub list_successors-requires-clause-few : goal.list_successors-requires-clause-few
list_successors-requires-clause-few g c =
    let a : AreKeys c.args.trace.now.segments c.in_ok-keys.keys.items = subst (λ (s : List NamedSegment). AreKeys s c.in_ok-keys.keys.items) c.items-segments.ensures c.in_ok-keys.ensures in
    let names : c.as_slice-3.result.now ≡ map (name_in c.args.trace.now.segments) c.in_ok-keys.keys.items = c.as_slice-3.ensures.value ∙ (c.in_ok-names.ensures ∙ (ap (λ (ks : List Key). map (name_in c.items-segments.result.now) ks) c.as_slice.ensures.value ∙ ap (λ (s : List NamedSegment). map (name_in s) c.in_ok-keys.keys.items) c.items-segments.ensures)) in
    omega (arith, ap length names, length-map c.in_ok-keys.keys.items (name_in c.args.trace.now.segments), few_keys c.args.trace.now c.in_ok-keys.keys.items a)

pub list_successors-requires-clause-names : goal.list_successors-requires-clause-names
list_successors-requires-clause-names g c =
    let a : AreKeys c.args.trace.now.segments c.in_ok-keys.keys.items = subst (λ (s : List NamedSegment). AreKeys s c.in_ok-keys.keys.items) c.items-segments.ensures c.in_ok-keys.ensures in
    let names : c.as_slice-3.result.now ≡ map (name_in c.args.trace.now.segments) c.in_ok-keys.keys.items = c.as_slice-3.ensures.value ∙ (c.in_ok-names.ensures ∙ (ap (λ (ks : List Key). map (name_in c.items-segments.result.now) ks) c.as_slice.ensures.value ∙ ap (λ (s : List NamedSegment). map (name_in s) c.in_ok-keys.keys.items) c.items-segments.ensures)) in
    subst (AreKnown (g.P.PairTest.model c.args.pairs)) (sym names) (names_known c.args.trace.now.segments c.in_ok-keys.keys.items a (g.P.PairTest.model c.args.pairs) c.args.trace.now.names_differ c.requires)

pub of-requires-2 : goal.of-requires-2
of-requires-2 g c =
    let a : AreKeys c.args.trace.now.segments c.in_ok-keys.keys.items = subst (λ (s : List NamedSegment). AreKeys s c.in_ok-keys.keys.items) c.items-segments.ensures c.in_ok-keys.ensures in
    let names : c.as_slice-3.result.now ≡ map (name_in c.args.trace.now.segments) c.in_ok-keys.keys.items = c.as_slice-3.ensures.value ∙ (c.in_ok-names.ensures ∙ (ap (λ (ks : List Key). map (name_in c.items-segments.result.now) ks) c.as_slice.ensures.value ∙ ap (λ (s : List NamedSegment). map (name_in s) c.in_ok-keys.keys.items) c.items-segments.ensures)) in
    let lists = subst (λ (ns : List ℕ). AreLists (g.P.PairTest.model c.args.pairs) ns (length ns) c.in_ok-successors.successors.items) names c.in_ok-successors.ensures in
    let weights : c.in_ok-weights.weights.items ≡ map duration_of c.in_ok-keys.keys.items = c.in_ok-weights.ensures ∙ ap (map duration_of) c.as_slice-2.ensures.value in
    let form = form_made c.args.trace.now (g.P.PairTest.model c.args.pairs) c.in_ok-keys.keys.items a c.in_ok-successors.successors.items lists in
    subst (λ (ws : List ℕ). IsGraph (record { weights = ws; successors = c.in_ok-successors.successors.items })) (sym weights) form

pub returns-clause-vertices : goal.returns-clause-vertices
returns-clause-vertices g c =
    let a : AreKeys c.args.trace.now.segments c.in_ok-keys.keys.items = subst (λ (s : List NamedSegment). AreKeys s c.in_ok-keys.keys.items) c.items-segments.ensures c.in_ok-keys.ensures in
    let names : c.as_slice-3.result.now ≡ map (name_in c.args.trace.now.segments) c.in_ok-keys.keys.items = c.as_slice-3.ensures.value ∙ (c.in_ok-names.ensures ∙ (ap (λ (ks : List Key). map (name_in c.items-segments.result.now) ks) c.as_slice.ensures.value ∙ ap (λ (s : List NamedSegment). map (name_in s) c.in_ok-keys.keys.items) c.items-segments.ensures)) in
    let lists = subst (λ (ns : List ℕ). AreLists (g.P.PairTest.model c.args.pairs) ns (length ns) c.in_ok-successors.successors.items) names c.in_ok-successors.ensures in
    let weights : c.in_ok-weights.weights.items ≡ map duration_of c.in_ok-keys.keys.items = c.in_ok-weights.ensures ∙ ap (map duration_of) c.as_slice-2.ensures.value in
    let form = form_made c.args.trace.now (g.P.PairTest.model c.args.pairs) c.in_ok-keys.keys.items a c.in_ok-successors.successors.items lists in
    let made = vertices_made c.args.trace.now (g.P.PairTest.model c.args.pairs) c.in_ok-keys.keys.items a c.in_ok-successors.successors.items lists form in
    let order : c.of.result ≡ map index_in c.in_ok-keys.keys.items = c.of.ensures ∙ (c.in_ok-order.ensures ∙ ap (map index_in) c.as_slice-4.ensures.value) in
    let graph : c.of-2.result ≡ record { weights = map duration_of c.in_ok-keys.keys.items; successors = c.in_ok-successors.successors.items } = c.of-2.ensures ∙ ap (λ (ws : List ℕ). record { weights = ws; successors = c.in_ok-successors.successors.items }) weights in
    subst (λ (ns : List ℕ). HasVertices by_number c.args.trace.now ns c.of-2.result) (sym order)
    (subst (λ (g : Graph). HasVertices by_number c.args.trace.now (map index_in c.in_ok-keys.keys.items) g) (sym graph) made)

pub returns-clause-graph : goal.returns-clause-graph
returns-clause-graph g c =
    let a : AreKeys c.args.trace.now.segments c.in_ok-keys.keys.items = subst (λ (s : List NamedSegment). AreKeys s c.in_ok-keys.keys.items) c.items-segments.ensures c.in_ok-keys.ensures in
    let names : c.as_slice-3.result.now ≡ map (name_in c.args.trace.now.segments) c.in_ok-keys.keys.items = c.as_slice-3.ensures.value ∙ (c.in_ok-names.ensures ∙ (ap (λ (ks : List Key). map (name_in c.items-segments.result.now) ks) c.as_slice.ensures.value ∙ ap (λ (s : List NamedSegment). map (name_in s) c.in_ok-keys.keys.items) c.items-segments.ensures)) in
    let lists = subst (λ (ns : List ℕ). AreLists (g.P.PairTest.model c.args.pairs) ns (length ns) c.in_ok-successors.successors.items) names c.in_ok-successors.ensures in
    let weights : c.in_ok-weights.weights.items ≡ map duration_of c.in_ok-keys.keys.items = c.in_ok-weights.ensures ∙ ap (map duration_of) c.as_slice-2.ensures.value in
    let form = form_made c.args.trace.now (g.P.PairTest.model c.args.pairs) c.in_ok-keys.keys.items a c.in_ok-successors.successors.items lists in
    let made = graph_made c.args.trace.now (g.P.PairTest.model c.args.pairs) c.in_ok-keys.keys.items a c.in_ok-successors.successors.items lists form in
    let order : c.of.result ≡ map index_in c.in_ok-keys.keys.items = c.of.ensures ∙ (c.in_ok-order.ensures ∙ ap (map index_in) c.as_slice-4.ensures.value) in
    let graph : c.of-2.result ≡ record { weights = map duration_of c.in_ok-keys.keys.items; successors = c.in_ok-successors.successors.items } = c.of-2.ensures ∙ ap (λ (ws : List ℕ). record { weights = ws; successors = c.in_ok-successors.successors.items }) weights in
    subst (λ (ns : List ℕ). IsTraceGraph by_number (KeepsExclusion (g.P.PairTest.model c.args.pairs).words) c.args.trace.now ns c.of-2.result) (sym order)
    (subst (λ (d : Graph). IsTraceGraph by_number (KeepsExclusion (g.P.PairTest.model c.args.pairs).words) c.args.trace.now (map index_in c.in_ok-keys.keys.items) d) (sym graph) made)
