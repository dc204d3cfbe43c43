-- The rows of a trace by numbers are a text of the kept trace that it shows.
use Rattle.std.proofs.Common.{◌≡◌, ℕ, zero, suc, ◌^◌, ◌<◌, ◌++◌, ◌↔◌, List, [], ◌∷◌, length, get_or, slice_index, codes, decimal, refl, sym, ◌∙◌, ap, subst, zero-add, arith}
use Rattle.std.specs.List.{All, EachIndex, flat_map, range_with_len}
use Rattle.std.proofs.lemmas.List.FromFn.{length-range_with_len, get_or-range_with_len}
use Rattle.book_laws.specs.Shown.{IsShown}
use Rattle.segment_names.specs.Known.{Known}
use Rattle.segment_names.specs.Limits.{IsKept}
use Rattle.session_rules.specs.GivenDigests.{SurvivesUnder}
use Rattle.session_rules.specs.KeptTraces.{Kept}
use Rattle.session_rules.specs.TraceTexts.{IsGraphText, IsPathText, IsSlackText, edges_of, graph_text, name_of_vertex, path_text, slack_text, trace_row}
use Rattle.text_rows.specs.Rows.{row_of}
use Rattle.model_meet.specs.RelationBits.{KeepsExclusion}
use Rattle.trace_rules.specs.TraceGraphs.{IsTraceGraph}
use Rattle.trace_types.specs.Parts.{by_number}
use Rattle.trace_types.specs.declared.named_trace.NamedTrace.{NamedTrace}
use Rattle.digest_facts.specs.Digests.{Digest}
use Rattle.judged_books.specs.JudgedBooks.{IsJudgedOf, JudgedState}
use Rattle.judged_books.specs.JudgedLaws.{JudgedGraphIsShown, JudgedWordsTell}
use Rattle.trace_types.specs.Segments.{SegmentName}
use Rattle.trace_rows.specs.inner.NumberedTraces.{IsNumbered, NumberedTrace, edge_row, edge_rows, graph_rows, name_row, row_of_trace, path_rows, vertex_slack_row, slack_rows, vertex_step_row, vertex_row}
use Rattle.trace_rows.specs.inner.ShownTraces.{NamesAreShown}
use Rattle.trace_rows.proofs.EdgeLemmas.{edge_rows_are}
use Rattle.weighted_dag.specs.Chains.{IsChain, IsLongestLength, NoLongestIsBefore, NoneIsLonger, chain_length}
use Rattle.weighted_dag.specs.Graphs.{Graph, IsEdge, IsGraph, order_of, weight_of}
use Rattle.weighted_dag.specs.Reductions.{IsKeptEdge}
use Rattle.weighted_dag.specs.Slacks.{IsSlack}

-- the vertices of a graph with the names of a catalogue
abbrev pub with_names : NamedTrace → List ℕ → List ℕ → Known → NumberedTrace
with_names t order weights known = record { names = known.names; trace = t; order = order; weights = weights }

pub same_names : (t : NamedTrace) (o order ws weights : List ℕ) (k known : Known) → o ≡ order → ws ≡ weights → k ≡ known → with_names t o ws k ≡ with_names t order weights known
same_names t o order ws weights k known same_order same_weights same_known =
    ap (λ x. with_names t x ws k) same_order ∙ (ap (λ x. with_names t order x k) same_weights ∙ ap (with_names t order weights) same_known)

-- the vertices of a chain are vertices of the graph
pub chain_within : (g : Graph) (n : ℕ) (chain : List ℕ) → order_of g ≡ n → IsChain g chain → All (λ v. v < n) chain
chain_within g n [] is h = λ i d lt. absurd (omega (arith, lt))
chain_within g n (v ∷ chain) is h = λ i d lt. elim i as (λ (j : ℕ). j < length (v ∷ chain) → get_or (v ∷ chain) j d < n) [
  | zero ↦ λ _. subst (λ m. v < m) is h.0
  | suc j ↦ λ below. chain_within g n chain is h.2 j d (omega (arith, below))
] lt

-- the numbers of a range are below its end
range_within : (n : ℕ) → All (λ v. v < n) (range_with_len 0 n)
range_within n i d lt =
    let few : i < n = omega (arith, length-range_with_len 0 n) in
    subst (λ v. v < n) (sym (get_or-range_with_len 0 n i d few ∙ zero-add i)) few

-- rows that are one for one the same
same_rows : (P : ℕ → Type 0) (f g : ℕ → List ℕ) (vs : List ℕ) → All P vs → ((v : ℕ) → P v → f v ≡ g v) → flat_map f vs ≡ flat_map g vs
same_rows P f g [] all same = refl
same_rows P f g (v ∷ vs) all same = ap (λ t. t ++ flat_map f vs) (same v (all 0 v (omega arith))) ∙ ap (λ t. g v ++ t) (same_rows P f g vs (λ i d lt. all (suc i) d (omega (arith, lt))) same)

-- the row of a trace
same_row : (word : List ℕ) (t : NamedTrace) (k : Kept) (more : List (List ℕ)) → t.request ≡ k.trace.request → t.day ≡ k.trace.day → t.latency ≡ k.trace.latency → row_of_trace word t more ≡ trace_row word k more
same_row word t k more request day latency =
    ap (λ r. row_of (word ∷ r ∷ decimal t.day ∷ decimal t.latency ∷ more)) request
    ∙ (ap (λ d. row_of (word ∷ k.trace.request ∷ decimal d ∷ decimal t.latency ∷ more)) day ∙ ap (λ l. row_of (word ∷ k.trace.request ∷ decimal k.trace.day ∷ decimal l ∷ more)) latency)

module _ (b : JudgedState) (t : NamedTrace) (order : List ℕ) (g : Graph) (graphs : JudgedGraphIsShown) (tell : JudgedWordsTell) (names : NamesAreShown) (fits : IsKept b.book.known) (form : IsGraph g)
    (graph : IsTraceGraph by_number (KeepsExclusion b.words) t order g) (numbered : IsNumbered (record { names = b.book.known.names; trace = t; order = order; weights = g.weights })) where
  -- a path
  path_same : (k : Kept) (long : ℕ) (chain : List ℕ) → IsShown b.book.known t k → IsChain g chain → long ≡ chain_length g chain → path_rows (record { names = b.book.known.names; trace = t; order = order; weights = g.weights }) long chain ≡ path_text k order g chain
  path_same k long chain shown is len =
      ap (λ m. row_of_trace (codes "path") t (decimal m ∷ decimal (length chain) ∷ []) ++ flat_map (vertex_step_row (record { names = b.book.known.names; trace = t; order = order; weights = g.weights })) chain) len
      ∙ (ap (λ r. r ++ flat_map (vertex_step_row (record { names = b.book.known.names; trace = t; order = order; weights = g.weights })) chain) (same_row (codes "path") t k (decimal (chain_length g chain) ∷ decimal (length chain) ∷ []) shown.request shown.day shown.latency)
      ∙ ap (λ rs. trace_row (codes "path") k (decimal (chain_length g chain) ∷ decimal (length chain) ∷ []) ++ rs)
      (same_rows (λ v. v < length order) (vertex_step_row (record { names = b.book.known.names; trace = t; order = order; weights = g.weights })) (λ v. name_row (codes "step" ∷ []) (name_of_vertex k order v) (decimal (weight_of g v) ∷ [])) chain (chain_within g (length order) chain numbered.weighted is)
      (λ v lt. ap (λ name. name_row (codes "step" ∷ []) name (decimal (weight_of g v) ∷ [])) (names b.book.known k (record { names = b.book.known.names; trace = t; order = order; weights = g.weights }) v refl numbered shown lt))))

  pub path_shown : (n : NumberedTrace) (long : ℕ) (chain : List ℕ) → n ≡ record { names = b.book.known.names; trace = t; order = order; weights = g.weights } → IsChain g chain → NoneIsLonger g (chain_length g chain) → NoLongestIsBefore g chain → long ≡ chain_length g chain
      → (given : Digest SegmentName (List ℕ)) (kept : List Kept) (k : Kept) → IsJudgedOf b given kept → IsShown b.book.known t k → IsPathText (SurvivesUnder given kept) k (path_rows n long chain)
  path_shown n long chain is chained longest first len given kept k all shown = record {
    order = order;
    graph = g;
    chain = chain;
    is = graphs b.book.known given kept b.words t k order g fits (tell b given kept all) shown form graph;
    longest = record { chain = chained; none_longer = longest };
    first = first;
    text = ap (λ m. path_rows m long chain) is ∙ path_same k long chain shown chained len;
  }

  -- slacks
  slack_same : (k : Kept) (longest : ℕ) (slacks : List ℕ) → IsShown b.book.known t k → slack_rows (record { names = b.book.known.names; trace = t; order = order; weights = g.weights }) longest slacks ≡ slack_text k order g longest slacks
  slack_same k longest slacks shown =
      ap (λ r. r ++ flat_map (vertex_slack_row (record { names = b.book.known.names; trace = t; order = order; weights = g.weights }) slacks) (range_with_len 0 (order_of g))) (same_row (codes "trace") t k (decimal longest ∷ []) shown.request shown.day shown.latency)
      ∙ ap (λ rs. trace_row (codes "trace") k (decimal longest ∷ []) ++ rs)
      (same_rows (λ v. v < order_of g) (vertex_slack_row (record { names = b.book.known.names; trace = t; order = order; weights = g.weights }) slacks) (λ v. name_row (codes "segment" ∷ []) (name_of_vertex k order v) (decimal (weight_of g v) ∷ decimal (slice_index slacks v) ∷ [])) (range_with_len 0 (order_of g)) (range_within (order_of g))
      (λ v lt. ap (λ name. name_row (codes "segment" ∷ []) name (decimal (weight_of g v) ∷ decimal (slice_index slacks v) ∷ [])) (names b.book.known k (record { names = b.book.known.names; trace = t; order = order; weights = g.weights }) v refl numbered shown (subst (λ m. v < m) numbered.weighted lt))))

  pub slack_shown : (n : NumberedTrace) (longest : ℕ) (slacks : List ℕ) → n ≡ record { names = b.book.known.names; trace = t; order = order; weights = g.weights } → IsLongestLength g longest → EachIndex g.weights (λ v. IsSlack g v (slice_index slacks v))
      → (given : Digest SegmentName (List ℕ)) (kept : List Kept) (k : Kept) → IsJudgedOf b given kept → IsShown b.book.known t k → IsSlackText (SurvivesUnder given kept) k (slack_rows n longest slacks)
  slack_shown n longest slacks is long each given kept k all shown = record {
    order = order;
    graph = g;
    longest = longest;
    slacks = slacks;
    is = graphs b.book.known given kept b.words t k order g fits (tell b given kept all) shown form graph;
    length = long;
    each = each;
    text = ap (λ m. slack_rows m longest slacks) is ∙ slack_same k longest slacks shown;
  }

  -- a reduced graph
  reduced_numbered : (h : Graph) → h.weights ≡ g.weights → IsNumbered (record { names = b.book.known.names; trace = t; order = order; weights = h.weights })
  reduced_numbered h same = record { few = subst (λ (ws : List ℕ). length ws < 2 ^ 32) (sym same) numbered.few; weighted = ap length same ∙ numbered.weighted; placed = numbered.placed; named = numbered.named }

  graph_same : (h : Graph) (k : Kept) → IsShown b.book.known t k → h.weights ≡ g.weights → graph_rows (record { names = b.book.known.names; trace = t; order = order; weights = h.weights }) h ≡ graph_text k order h
  graph_same h k shown same =
      ap (λ r. r ++ (flat_map (vertex_row (record { names = b.book.known.names; trace = t; order = order; weights = h.weights })) (range_with_len 0 (order_of h)) ++ flat_map (edge_rows h) (range_with_len 0 (order_of h)))) (same_row (codes "trace") t k (decimal (order_of h) ∷ decimal (length (edges_of h)) ∷ []) shown.request shown.day shown.latency)
      ∙ (ap (λ rs. trace_row (codes "trace") k (decimal (order_of h) ∷ decimal (length (edges_of h)) ∷ []) ++ (rs ++ flat_map (edge_rows h) (range_with_len 0 (order_of h))))
      (same_rows (λ v. v < order_of h) (vertex_row (record { names = b.book.known.names; trace = t; order = order; weights = h.weights })) (λ v. name_row (codes "vertex" ∷ decimal v ∷ []) (name_of_vertex k order v) (decimal (weight_of h v) ∷ [])) (range_with_len 0 (order_of h)) (range_within (order_of h))
      (λ v lt. ap (λ name. name_row (codes "vertex" ∷ decimal v ∷ []) name (decimal (weight_of h v) ∷ [])) (names b.book.known k (record { names = b.book.known.names; trace = t; order = order; weights = h.weights }) v refl (reduced_numbered h same) shown (subst (λ m. v < m) (ap length same ∙ numbered.weighted) lt))))
      ∙ ap (λ rs. trace_row (codes "trace") k (decimal (order_of h) ∷ decimal (length (edges_of h)) ∷ []) ++ (flat_map (λ v. name_row (codes "vertex" ∷ decimal v ∷ []) (name_of_vertex k order v) (decimal (weight_of h v) ∷ [])) (range_with_len 0 (order_of h)) ++ rs)) (edge_rows_are (λ (e : ℕ × ℕ). edge_row e.0 e.1) h))

  pub graph_shown : (n : NumberedTrace) (h : Graph) → n ≡ record { names = b.book.known.names; trace = t; order = order; weights = h.weights } → IsGraph h → h.weights ≡ g.weights → ((v w : ℕ) → IsEdge h v w ↔ IsKeptEdge g v w)
      → (given : Digest SegmentName (List ℕ)) (kept : List Kept) (k : Kept) → IsJudgedOf b given kept → IsShown b.book.known t k → IsGraphText (SurvivesUnder given kept) k (graph_rows n h)
  graph_shown n h is keeps same edges given kept k all shown = record {
    order = order;
    graph = g;
    reduced = h;
    is = graphs b.book.known given kept b.words t k order g fits (tell b given kept all) shown form graph;
    keeps = keeps;
    weights = same;
    edges = edges;
    text = ap (λ m. graph_rows m h) is ∙ graph_same h k shown same;
  }
