-- A kept trace has one text of its critical path, one of its slacks and one of its graph.
use Rattle.std.proofs.Common.{◌≡◌, ◌↔◌, ℕ, zero, suc, ◌+◌, ◌<◌, List, [], ◌∷◌, ◌++◌, length, get_or, AllPairs, refl, sym, ◌∙◌, ap, subst, arith, inl, inr, nat_cmp, codes, decimal}
use Rattle.std.specs.Prelude.{slice_index}
use Rattle.std.specs.List.{flat_map, range_with_len}
use Rattle.std.specs.List.Sorted.{IsStrictlyIncreasing}
use Rattle.std.specs.declared.cmp.Ordering.TheVariants.{Less}
use Rattle.std.proofs.lemmas.Cmp.{nat_cmp_total}
use Rattle.std.proofs.lemmas.List.{ext_get_or}
use Rattle.std.proofs.lemmas.List.Kept.{AllPairs-from_increasing}
use Rattle.text_rows.specs.Rows.{row_of}
use Rattle.trace_graph.specs.GraphLaws.{HasOneGraph}
use Rattle.weighted_dag.specs.Chains.{IsLongest, IsLongestLength, NoLongestIsBefore}
use Rattle.weighted_dag.specs.Graphs.{Graph, IsEdge, IsGraph, order_of, successors_of, weight_of}
use Rattle.weighted_dag.specs.Reductions.{IsKeptEdge}
use Rattle.weighted_dag.specs.Slacks.{IsSlack}
use Rattle.session_rules.specs.KeptTraces.{Kept, by_kept}
use Rattle.session_rules.specs.TraceTexts.{IsGraphOf, IsGraphText, IsPathText, IsSlackText, graph_text, name_of_vertex, path_text, slack_text, trace_row}
use Rattle.trace_types.proofs.ComparingLemmas.{less_to}
use Rattle.trace_paths.proofs.OnePathLemmas.{one_before}
use Rattle.trace_types.specs.Segments.{SegmentName}
use Rattle.session_laws.proofs.JobLemmas.{OneRisingList}

-- ---- chains, lengths and slacks

chain_one : (g : Graph) (c d : List ℕ) → IsLongest g c → NoLongestIsBefore g c → IsLongest g d → NoLongestIsBefore g d → c ≡ d
chain_one g c d h first k other = elim (one_before c d) [
  | inl same ↦ same
  | inr (inl before) ↦ absurd (other c h before)
  | inr (inr after) ↦ absurd (first d k after)
]

pub length_one : (g : Graph) (n m : ℕ) → IsLongestLength g n → IsLongestLength g m → n ≡ m
length_one g n m h k = omega (arith, h.1.none_longer k.0 k.1.chain, k.1.none_longer h.0 h.1.chain, h.2, k.2)

slack_one : (g : Graph) (v n m : ℕ) → IsSlack g v n → IsSlack g v m → n ≡ m
slack_one g v n m h k = omega (arith, h.greatest m k.keeps, k.greatest n h.keeps)

-- ---- rows

rows_agree : (f g : ℕ → List ℕ) (a n : ℕ) → ((v : ℕ) → v < a + n → f v ≡ g v) → flat_map f (range_with_len a n) ≡ flat_map g (range_with_len a n)
rows_agree f g a zero h = refl
rows_agree f g a (suc n) h = ap (λ (ys : List ℕ). ys ++ flat_map f (range_with_len (a + 1) n)) (h a (omega arith)) ∙ ap (λ (ys : List ℕ). g a ++ ys) (rows_agree f g (a + 1) n (λ v lt. h v (omega (arith, lt))))

-- ---- graphs

rising_less : (xs : List ℕ) → IsStrictlyIncreasing xs → AllPairs (λ (x y : ℕ). nat_cmp x y ≡ Less) xs
rising_less xs rises i j d lt within = less_to (get_or xs i d) (get_or xs j d) (AllPairs-from_increasing xs rises i j d lt within)

module _ (listed : OneRisingList ℕ) where
  -- graphs with the same weights and edges are one graph
  edges_fix : (g h : Graph) → IsGraph g → IsGraph h → g.weights ≡ h.weights → ((a b : ℕ) → IsEdge g a b ↔ IsEdge h a b) → g ≡ h
  edges_fix g h one two weights same = ap (λ (ws : List ℕ). record { weights = ws; successors = g.successors }) weights ∙ ap (λ (ls : List (List ℕ)). record { weights = h.weights; successors = ls }) successors
    where
      successors : g.successors ≡ h.successors
      successors = ext_get_or [] g.successors h.successors (one.lists ∙ ap (λ (ws : List ℕ). length ws) weights ∙ sym two.lists)
          (λ v lt. listed nat_cmp nat_cmp_total (successors_of g v) (successors_of h v) (rising_less (successors_of g v) (one.rising v)) (rising_less (successors_of h v) (two.rising v)) (same v))

-- the row of a vertex with its slack
abbrev slack_row : Kept → List ℕ → Graph → List ℕ → ℕ → List ℕ
slack_row k order graph slacks v = row_of (codes "segment" ∷ (name_of_vertex k order v).0 ∷ (name_of_vertex k order v).1 ∷ (name_of_vertex k order v).2 ∷ decimal (weight_of graph v) ∷ decimal (slice_index slacks v) ∷ [])

module _ (Excludes : SegmentName → SegmentName → Type 0) (graphs : HasOneGraph by_kept Excludes) where
  pub of_one_graph : (k : Kept) (order other : List ℕ) (g h : Graph) → IsGraphOf Excludes k order g → IsGraphOf Excludes k other h → (order ≡ other) × (g ≡ h)
  of_one_graph k order other g h one two = graphs k order other g h one.keeps two.keeps one.of_trace two.of_trace

  pub path_one : (k : Kept) (t u : List ℕ) → IsPathText Excludes k t → IsPathText Excludes k u → t ≡ u
  path_one k t u p q =
      let same = of_one_graph k p.order q.order p.graph q.graph p.is q.is in
      let chain : p.chain ≡ q.chain = chain_one q.graph p.chain q.chain (subst (λ (g : Graph). IsLongest g p.chain) same.1 p.longest) (subst (λ (g : Graph). NoLongestIsBefore g p.chain) same.1 p.first) q.longest q.first in
      p.text ∙ ap (λ (o : List ℕ). path_text k o p.graph p.chain) same.0 ∙ ap (λ (g : Graph). path_text k q.order g p.chain) same.1 ∙ ap (path_text k q.order q.graph) chain ∙ sym q.text

  pub slacks_one : (k : Kept) (t u : List ℕ) → IsSlackText Excludes k t → IsSlackText Excludes k u → t ≡ u
  slacks_one k t u p q =
      p.text ∙ ap (λ (o : List ℕ). slack_text k o p.graph p.longest p.slacks) same.0 ∙ ap (λ (g : Graph). slack_text k q.order g p.longest p.slacks) same.1
      ∙ ap (λ (n : ℕ). slack_text k q.order q.graph n p.slacks) longest ∙ ap (λ (rows : List ℕ). trace_row (codes "trace") k (decimal q.longest ∷ []) ++ rows) rows ∙ sym q.text
    where
      same : (p.order ≡ q.order) × (p.graph ≡ q.graph)
      same = of_one_graph k p.order q.order p.graph q.graph p.is q.is

      longest : p.longest ≡ q.longest
      longest = length_one q.graph p.longest q.longest (subst (λ (g : Graph). IsLongestLength g p.longest) same.1 p.length) q.length

      each : (v : ℕ) → v < order_of q.graph → slice_index p.slacks v ≡ slice_index q.slacks v
      each v lt = slack_one q.graph v (slice_index p.slacks v) (slice_index q.slacks v) (subst (λ (g : Graph). v < order_of g → IsSlack g v (slice_index p.slacks v)) same.1 (p.each v) lt) (q.each v lt)

      rows : flat_map (slack_row k q.order q.graph p.slacks) (range_with_len 0 (order_of q.graph)) ≡ flat_map (slack_row k q.order q.graph q.slacks) (range_with_len 0 (order_of q.graph))
      rows = rows_agree (slack_row k q.order q.graph p.slacks) (slack_row k q.order q.graph q.slacks) 0 (order_of q.graph)
          (λ v lt. ap (λ (n : ℕ). row_of (codes "segment" ∷ (name_of_vertex k q.order v).0 ∷ (name_of_vertex k q.order v).1 ∷ (name_of_vertex k q.order v).2 ∷ decimal (weight_of q.graph v) ∷ decimal n ∷ [])) (each v (omega (arith, lt))))

  module _ (listed : OneRisingList ℕ) where
    pub graph_one : (k : Kept) (t u : List ℕ) → IsGraphText Excludes k t → IsGraphText Excludes k u → t ≡ u
    graph_one k t u p q = p.text ∙ ap (λ (o : List ℕ). graph_text k o p.reduced) same.0 ∙ ap (graph_text k q.order) reduced ∙ sym q.text
      where
        same : (p.order ≡ q.order) × (p.graph ≡ q.graph)
        same = of_one_graph k p.order q.order p.graph q.graph p.is q.is

        edges : (a b : ℕ) → IsEdge p.reduced a b ↔ IsKeptEdge q.graph a b
        edges = subst (λ (g : Graph). (a b : ℕ) → IsEdge p.reduced a b ↔ IsKeptEdge g a b) same.1 p.edges

        reduced : p.reduced ≡ q.reduced
        reduced = edges_fix listed p.reduced q.reduced p.keeps q.keeps (p.weights ∙ ap (λ (g : Graph). g.weights) same.1 ∙ sym q.weights)
            (λ a b. ((λ e. (q.edges a b).1 ((edges a b).0 e)), (λ e. (edges a b).1 ((q.edges a b).0 e))))
