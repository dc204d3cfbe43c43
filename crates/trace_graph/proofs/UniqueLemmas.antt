-- A trace has one graph: its lists are told in one way.
use Rattle.std.proofs.Common.{◌≡◌, ◌⊎◌, ◌↔◌, ℕ, ◌<◌, ℤ, pos, ◌+ℤ◌, ◌<ℤ◌, List, [], length, get_or, slice_get, Some, unwrap_or, Contains, AllPairs, arith, refl, sym, ap, ◌∙◌, subst, inl, inr, Ordering, nat_cmp}
use Rattle.std.specs.Option.{option_map}
use Rattle.std.specs.Cmp.{IsTotalOrder}
use Rattle.std.specs.Ordering.{int_cmp, ordering_then, MatchOrdering}
use Rattle.std.specs.declared.cmp.Ordering.TheVariants.{Less, Equal, Greater}
use Rattle.std.specs.List.Sorted.{IsStrictlyIncreasing}
use Rattle.std.proofs.lemmas.Cmp.{nat_cmp_total, int_cmp_total, then_total, on_total, ranked, int_ranked}
use Rattle.std.proofs.lemmas.Int.{ints}
use Rattle.std.proofs.lemmas.List.{ext_get_or, get_or_default}
use Rattle.std.proofs.lemmas.List.Kept.{AllPairs-from_increasing}
use Rattle.std.proofs.lemmas.Option.{slice_get-get_or}
use Rattle.trace_types.specs.Parts.{Parts}
use Rattle.weighted_dag.specs.Graphs.{Graph, IsEdge, IsGraph, successors_of, weight_of}
use Rattle.trace_rules.specs.VertexOrder.{ComesBefore, IsEarlier, IsVertexOrder}
use Rattle.trace_rules.specs.TraceGraphs.{IsTraceGraph}
use Rattle.trace_types.proofs.ComparingLemmas.{less_to}
use Rattle.trace_types.proofs.ElementLemmas.{at_index}

-- lists of numbers in one strict order with the same members are one list
abbrev pub OneRisingList : Type 0
OneRisingList = (cmp : ℕ → ℕ → Ordering) → IsTotalOrder cmp → (xs ys : List ℕ) → AllPairs (λ x y. cmp x y ≡ Less) xs → AllPairs (λ x y. cmp x y ≡ Less) ys → ((x : ℕ) → Contains xs x ↔ Contains ys x) → xs ≡ ys

rising_less : (xs : List ℕ) → IsStrictlyIncreasing xs → AllPairs (λ x y. nat_cmp x y ≡ Less) xs
rising_less xs rises i j d lt within = less_to (get_or xs i d) (get_or xs j d) (AllPairs-from_increasing xs rises i j d lt within)

module _ {A S N T E : Type 0} (p : Parts A S N T E) (trace : A) where
  abbrev pub start_at : ℕ → ℤ
  start_at i = unwrap_or (option_map p.start (slice_get (p.segments trace) i)) (pos 0)

  abbrev pub end_at : ℕ → ℤ
  end_at i = unwrap_or (option_map p.end (slice_get (p.segments trace) i)) (pos 0)

  abbrev pub vertex_cmp : ℕ → ℕ → Ordering
  vertex_cmp i j = ordering_then (ordering_then (int_cmp (start_at i) (start_at j)) (int_cmp (end_at i) (end_at j))) (nat_cmp i j)

  vertex_total : IsTotalOrder vertex_cmp
  vertex_total = then_total (then_total (on_total start_at int_cmp_total) (on_total end_at int_cmp_total)) nat_cmp_total

  before_less : (i j : ℕ) → ComesBefore p trace i j → vertex_cmp i j ≡ Less
  before_less i j (s, t, is, ts, e) = go (int_cmp (start_at i) (start_at j)) (int_cmp (end_at i) (end_at j)) (nat_cmp i j) (int_ranked (start_at i) (start_at j) (int_cmp (start_at i) (start_at j)) refl) (int_ranked (end_at i) (end_at j) (int_cmp (end_at i) (end_at j)) refl) (ranked i j (nat_cmp i j) refl) (moved e)
    where
      si : start_at i ≡ p.start s
      si = ap (λ o. unwrap_or (option_map p.start o) (pos 0)) is

      sj : start_at j ≡ p.start t
      sj = ap (λ o. unwrap_or (option_map p.start o) (pos 0)) ts

      ei : end_at i ≡ p.end s
      ei = ap (λ o. unwrap_or (option_map p.end o) (pos 0)) is

      ej : end_at j ≡ p.end t
      ej = ap (λ o. unwrap_or (option_map p.end o) (pos 0)) ts

      Earlier : Type 0
      Earlier = (start_at i <ℤ start_at j) ⊎ ((start_at i ≡ start_at j) × ((end_at i <ℤ end_at j) ⊎ ((end_at i ≡ end_at j) × (i < j))))

      moved : IsEarlier p s i t j → Earlier
      moved (inl l) = inl (subst (λ (z : ℤ). z <ℤ start_at j) (sym si) (subst (λ (z : ℤ). p.start s <ℤ z) (sym sj) l))
      moved (inr (e, inl l)) = inr (si ∙ (e ∙ sym sj), inl (subst (λ (z : ℤ). z <ℤ end_at j) (sym ei) (subst (λ (z : ℤ). p.end s <ℤ z) (sym ej) l)))
      moved (inr (e, inr (f, l))) = inr (si ∙ (e ∙ sym sj), inr (ei ∙ (f ∙ sym ej), l))

      go : (o q r : Ordering) → MatchOrdering o (start_at i <ℤ start_at j) (start_at i ≡ start_at j) (start_at j <ℤ start_at i) → MatchOrdering q (end_at i <ℤ end_at j) (end_at i ≡ end_at j) (end_at j <ℤ end_at i) → MatchOrdering r (i < j) (i ≡ j) (j < i) → Earlier → ordering_then (ordering_then o q) r ≡ Less
      go Less q r x y z h = refl
      go Greater q r x y z (inl l) = let g : start_at j <ℤ start_at i = x in absurd (omega (arith, ints))
      go Greater q r x y z (inr h) = let g : start_at j <ℤ start_at i = x in let e : start_at i ≡ start_at j = h.0 in absurd (omega (arith, ints))
      go Equal q r x y z (inl l) = let e : start_at i ≡ start_at j = x in absurd (omega (arith, ints))
      go Equal Less r x y z (inr h) = refl
      go Equal Greater r x y z (inr (e, inl l)) = let g : end_at j <ℤ end_at i = y in absurd (omega (arith, ints))
      go Equal Greater r x y z (inr (e, inr (f, l))) = let g : end_at j <ℤ end_at i = y in absurd (omega (arith, ints))
      go Equal Equal r x y z (inr (e, inl l)) = let f : end_at i ≡ end_at j = y in absurd (omega (arith, ints))
      go Equal Equal Less x y z (inr (e, inr (f, l))) = refl
      go Equal Equal Equal x y z (inr (e, inr (f, l))) = let same : i ≡ j = z in absurd (omega arith)
      go Equal Equal Greater x y z (inr (e, inr (f, l))) = let g : j < i = z in absurd (omega arith)

  one_order : OneRisingList → (order other : List ℕ) → IsVertexOrder p trace order → IsVertexOrder p trace other → order ≡ other
  one_order listed order other v w = listed vertex_cmp vertex_total order other
      (λ i j d lt within. before_less (get_or order i d) (get_or order j d) (v.rising i j d lt within))
      (λ i j d lt within. before_less (get_or other i d) (get_or other j d) (w.rising i j d lt within))
      (λ i. ((λ has. (w.all i).1 ((v.all i).0 has)), (λ has. (v.all i).1 ((w.all i).0 has))))

  module _ (Excludes : N → N → Type 0) (order : List ℕ) (g h : Graph) (one : IsGraph g) (two : IsGraph h) (a : IsTraceGraph p Excludes trace order g) (b : IsTraceGraph p Excludes trace order h) where
    index_at : (v : ℕ) → v < length order → slice_get order v ≡ Some (get_or order v 0)
    index_at v lt = slice_get-get_or order v 0 lt

    same_edge : (g h : Graph) → IsGraph g → IsTraceGraph p Excludes trace order g → IsTraceGraph p Excludes trace order h → (v w : ℕ) → v < length order → IsEdge g v w → IsEdge h v w
    same_edge g h one a b v w lt edge =
        let within : w < length order = omega (arith, one.within v w edge, a.has.count) in
        (b.edges v w (get_or order v 0) (get_or order w 0) (index_at v lt) (index_at w within)).1
        ((a.edges v w (get_or order v 0) (get_or order w 0) (index_at v lt) (index_at w within)).0 edge)

    same_successors : OneRisingList → (v : ℕ) → v < length order → successors_of g v ≡ successors_of h v
    same_successors listed v lt = listed nat_cmp nat_cmp_total (successors_of g v) (successors_of h v) (rising_less (successors_of g v) (one.rising v)) (rising_less (successors_of h v) (two.rising v))
        (λ w. (same_edge g h one a b v w lt, same_edge h g two b a v w lt))

    cancelled : (s : ℤ) (e : ℤ) (m n : ℕ) → (s +ℤ pos m) ≡ e → (s +ℤ pos n) ≡ e → m ≡ n
    cancelled s e m n x y = omega (arith, ints)

    same_weight : (v : ℕ) → v < length order → weight_of g v ≡ weight_of h v
    same_weight v lt =
        let inside : get_or order v 0 < length (p.segments trace) = (a.has.vertices.all (get_or order v 0)).0 (v, lt, get_or_default order v (get_or order v 0) 0 lt) in
        let (s, got) = at_index (p.segments trace) (get_or order v 0) inside in
        cancelled (p.start s) (p.end s) (weight_of g v) (weight_of h v) (a.has.weights v (get_or order v 0) s (index_at v lt) got) (b.has.weights v (get_or order v 0) s (index_at v lt) got)

pub one_graph : {A S N T E : Type 0} (p : Parts A S N T E) → OneRisingList → (Excludes : N → N → Type 0) (trace : A) (order other : List ℕ) (g h : Graph) → IsGraph g → IsGraph h → IsTraceGraph p Excludes trace order g → IsTraceGraph p Excludes trace other h → (order ≡ other) × (g ≡ h)
one_graph {A} p listed Excludes trace order other g h one two a b = (orders, graphs)
  where
    orders : order ≡ other
    orders = one_order p trace listed order other a.has.vertices b.has.vertices

    c : IsTraceGraph p Excludes trace order h
    c = subst (λ (o : List ℕ). IsTraceGraph p Excludes trace o h) (sym orders) b

    weights : g.weights ≡ h.weights
    weights = ext_get_or 0 g.weights h.weights (a.has.count ∙ sym c.has.count) (λ v lt. same_weight p trace Excludes order g h one two a c v (omega (arith, a.has.count)))

    successors : g.successors ≡ h.successors
    successors = ext_get_or [] g.successors h.successors (one.lists ∙ (a.has.count ∙ sym (two.lists ∙ c.has.count))) (λ v lt. same_successors p trace Excludes order g h one two a c listed v (omega (arith, one.lists, a.has.count)))

    graphs : g ≡ h
    graphs = ap (λ (ws : List ℕ). record { weights = ws; successors = g.successors }) weights ∙ ap (λ (ls : List (List ℕ)). record { weights = h.weights; successors = ls }) successors
