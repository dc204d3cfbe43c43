-- The segments on a chain of a trace's graph: their names differ, and there are at most 512.
use Rattle.std.proofs.Common.{◌≡◌, ◌≢◌, ℕ, zero, suc, ◌<◌, ◌≤◌, List, [], ◌∷◌, length, get_or, slice_get, Some, Contains, All, AllPairs, arith, rules, sym, ap, ◌∙◌, subst, ⊎_elim, inl, inr}
use Rattle.std.specs.List.{AllZip}
use Rattle.std.proofs.lemmas.Bool.{cases_lt}
use Rattle.std.proofs.lemmas.Int.{ints}
use Rattle.std.proofs.lemmas.List.Elements.{All-nil, All-cons, All-weaker}
use Rattle.std.proofs.lemmas.Option.{slice_get_within, get_or_from_slice_get}
use Rattle.std.proofs.lemmas.Slice.Zip.{AllZip-long}
use Rattle.trace_types.specs.declared.named_segment.NamedSegment.{NamedSegment}
use Rattle.trace_types.specs.declared.named_trace.NamedTrace.{NamedTrace}
use Rattle.trace_types.specs.NamedSegments.{number_of_name}
use Rattle.trace_types.specs.Parts.{by_number}
use Rattle.trace_types.specs.SegmentLists.{NamesDiffer}
use Rattle.weighted_dag.specs.Chains.{IsChain}
use Rattle.weighted_dag.specs.Graphs.{Graph, IsGraph}
use Rattle.trace_rules.specs.TraceGraphs.{HasVertices}
use Rattle.trace_rules.specs.VertexOrder.{ComesBefore, IsEarlier}
use Rattle.trace_rules.specs.CriticalPaths.{StandsFor}
use Rattle.trace_types.proofs.ElementLemmas.{one_item}
use Rattle.trace_types.proofs.FewSegmentLemmas.{few_names}
use Rattle.trace_paths.specs.NumberedPaths.{IsNamedPath}

-- two lists side by side, at an index
pub zip_at : {X Y : Type 0} (R : X → Y → Type 0) (xs : List X) (ys : List Y) (i : ℕ) (d : X) (e : Y) → AllZip R xs ys → i < length ys → R (get_or xs i d) (get_or ys i e)
zip_at R [] [] i d e a lt = absurd (omega arith)
zip_at R [] (y ∷ ys) i d e a lt = absurd a
zip_at R (x ∷ xs) [] i d e a lt = absurd a
zip_at R (x ∷ xs) (y ∷ ys) zero d e a lt = a.0
zip_at R (x ∷ xs) (y ∷ ys) (suc i) d e a lt = zip_at R xs ys i d e a.1 (omega arith)

-- the vertices of a chain rise
later : (g : Graph) → IsGraph g → (v : ℕ) (c : List ℕ) → IsChain g (v ∷ c) → All (λ w. v < w) c
later g form v [] chain = All-nil (λ w. v < w)
later g form v (w ∷ c) chain =
    let next : v < w = form.later v w chain.1 in
    All-cons (λ u. v < u) w c next (All-weaker (λ u. w < u) (λ u. v < u) (λ u lt. omega arith) c (later g form w c chain.2))

rises : (g : Graph) → IsGraph g → (c : List ℕ) → IsChain g c → AllPairs (λ v w. v < w) c
rises g form [] chain i j d lt within = absurd (omega arith)
rises g form (v ∷ c) chain i zero d lt within = absurd (omega arith)
rises g form (v ∷ c) chain zero (suc j) d lt within = later g form v c chain j d (omega arith)
rises g form (v ∷ c) chain (suc i) (suc j) d lt within = rises g form c chain.2 i j d (omega arith) (omega arith)

-- no segment comes before itself
not_earlier : (s : NamedSegment) (i : ℕ) → IsEarlier by_number s i s i → ⊥
not_earlier s i (inl a) = omega (arith, ints)
not_earlier s i (inr (e, inl a)) = omega (arith, ints)
not_earlier s i (inr (e, inr (f, a))) = omega arith

module _ (trace : NamedTrace) (order : List ℕ) (g : Graph) (has : HasVertices by_number trace order g) where
  -- the indices are those of segments
  pub indices_within : All (λ i. i < length trace.segments) order
  indices_within k d lt = (has.vertices.all (get_or order k d)).0 (Contains-at order k d lt)
    where
      Contains-at : (xs : List ℕ) (k d : ℕ) → k < length xs → Contains xs (get_or xs k d)
      Contains-at xs k d lt = (k, lt, search rules)

  -- the names of two segments whose indices differ
  names_apart : (k m : ℕ) (s t : NamedSegment) → slice_get trace.segments k ≡ Some s → slice_get trace.segments m ≡ Some t → k < m → s.name ≢ t.name
  names_apart k m s t is ts lt same = trace.names_differ k m s lt (slice_get_within trace.segments m t ts)
      (ap number_of_name (get_or_from_slice_get trace.segments k s s is) ∙ (same ∙ sym (ap number_of_name (get_or_from_slice_get trace.segments m t s ts))))

  module _ (chain : List ℕ) (is_chain : IsChain g chain) (path : List NamedSegment) (stands : AllZip (StandsFor trace.segments order) chain path) where
    differ : NamesDiffer number_of_name path
    differ i j d lt within same =
        let (k, at_a, is) = zip_at (StandsFor trace.segments order) chain path i 0 d stands (omega arith) in
        let (m, at_b, ts) = zip_at (StandsFor trace.segments order) chain path j 0 d stands within in
        let many = AllZip-long (StandsFor trace.segments order) chain path stands in
        let a = get_or chain i 0 in
        let b = get_or chain j 0 in
        let up : a < b = rises g has.form chain is_chain i j 0 lt (omega arith) in
        let inside : b < length order = slice_get_within order b m at_b in
        let before : ComesBefore by_number trace k m = subst (λ (x : ℕ). ComesBefore by_number trace x m) (get_or_from_slice_get order a k 0 at_a)
        (subst (λ (y : ℕ). ComesBefore by_number trace (get_or order a 0) y) (get_or_from_slice_get order b m 0 at_b) (has.vertices.rising a b 0 up inside)) in
        let (s, t, ss, st, earlier) = before in
        ⊎_elim
        (λ (l : k < m). names_apart k m (get_or path i d) (get_or path j d) is ts l same)
        (λ (ge : m ≤ k). ⊎_elim
        (λ (l : m < k). names_apart m k (get_or path j d) (get_or path i d) ts is l (sym same))
        (λ (le : k ≤ m).
        let one : m ≡ k = omega arith in
        let both : t ≡ s = one_item trace.segments k t s (subst (λ (x : ℕ). slice_get trace.segments x ≡ Some t) one st) ss in
        not_earlier s k (subst (λ (x : NamedSegment). IsEarlier by_number s k x k) both (subst (λ (x : ℕ). IsEarlier by_number s k t x) one earlier)))
        (cases_lt m k))
        (cases_lt k m)

    below : (n : ℕ) → All (λ (s : NamedSegment). s.name < n) trace.segments → All (λ (s : NamedSegment). s.name < n) path
    below n all i d lt =
        let (k, at, is) = zip_at (StandsFor trace.segments order) chain path i 0 d stands lt in
        subst (λ (x : NamedSegment). x.name < n) (get_or_from_slice_get trace.segments k (get_or path i d) d is) (all k d (slice_get_within trace.segments k (get_or path i d) is))

    pub named : (n : ℕ) → All (λ (s : NamedSegment). s.name < n) trace.segments → IsNamedPath n path
    named n all = record {
      differ = differ;
      below = below n all;
      few = few_names 512 path differ (λ k d lt. (get_or path k d).name_below);
    }
