-- Graphs of a trace by surviving exclusions.
use Rattle.std.proofs.Common.{◌↔◌, List, ◌≡◌, ◌≢◌, ◌⊎◌, ℕ, ◌<◌, ◌++◌, get_or, sym, ap, ◌∙◌, subst, ⊎_elim, arith}
use Rattle.std.specs.Prelude.{Some, slice_get, ◌<ℤ◌}
use Rattle.std.proofs.lemmas.Bool.{cases_order}
use Rattle.std.proofs.lemmas.Int.{ints}
use Rattle.std.proofs.lemmas.Option.{get_or_from_slice_get, slice_get_within}
use Rattle.trace_types.specs.Parts.{Parts}
use Rattle.trace_types.specs.SegmentLists.{NamesDiffer}
use Rattle.trace_rules.specs.TraceGraphs.{ExcludesIn, IsDependency, IsTraceGraph}
use Rattle.trace_rules.specs.VertexOrder.{IsEarlier}
use Rattle.weighted_dag.specs.Graphs.{Graph}
use Rattle.digest_facts.specs.DigestLaws.{ExclusionsAreThoseOfAll}
use Rattle.digest_graphs.specs.DigestGraphs.{ExcludesUnder, GraphsAreThoseOfAll}

module _ {A S N T E : Type 0} (p : Parts A S N T E) where
  -- two segments of which one comes before the other have two names
  names_apart : (trace : A) (i j : ℕ) (s t : S) → NamesDiffer p.name (p.segments trace) → slice_get (p.segments trace) i ≡ Some s → slice_get (p.segments trace) j ≡ Some t → IsEarlier p s i t j → p.name s ≢ p.name t
  names_apart trace i j s t differ a b earlier e =
      let xs = p.segments trace in
      let at_i : get_or xs i s ≡ s = get_or_from_slice_get xs i s s a in
      let at_j : get_or xs j s ≡ t = get_or_from_slice_get xs j t s b in
      ⊎_elim
      (λ (same : i ≡ j).
      let one : s ≡ t = sym at_i ∙ ap (λ (k : ℕ). get_or xs k s) same ∙ at_j in
      not_before s i j same (subst (λ (v : S). IsEarlier p s i v j) (sym one) earlier))
      (⊎_elim
      (λ (l : i < j). differ i j s l (slice_get_within xs j t b) (ap p.name at_i ∙ e ∙ sym (ap p.name at_j)))
      (λ (l : j < i). differ j i s l (slice_get_within xs i s a) (ap p.name at_j ∙ sym e ∙ sym (ap p.name at_i))))
      (cases_order i j)
    where
      not_before : (r : S) (k l : ℕ) → k ≡ l → IsEarlier p r k r l → ⊥
      not_before r k l q h = ⊎_elim
          (λ (x : p.start r <ℤ p.start r). absurd (omega (arith, ints)))
          (λ (x : (p.start r ≡ p.start r) × ((p.end r <ℤ p.end r) ⊎ ((p.end r ≡ p.end r) × (k < l)))). ⊎_elim
          (λ (y : p.end r <ℤ p.end r). absurd (omega (arith, ints)))
          (λ (y : (p.end r ≡ p.end r) × (k < l)). let z : k < l = y.1 in absurd (omega arith))
          x.1)
          h

  -- where two families of exclusions agree on different names, so do the dependencies
  moved : (P Q : N → N → Type 0) → ((a b : N) → a ≢ b → P a b → Q a b) → (trace : A) → NamesDiffer p.name (p.segments trace) → (i j : ℕ) → IsDependency p P trace i j → IsDependency p Q trace i j
  moved P Q to trace differ i j d = record {
    s = d.s;
    t = d.t;
    first = d.first;
    second = d.second;
    earlier = d.earlier;
    excludes = to (p.name d.s) (p.name d.t) (names_apart trace i j d.s d.t differ d.first d.second d.earlier) d.excludes;
  }

  -- and the graphs
  pub moved_graph : (P Q : N → N → Type 0) → ((a b : N) → a ≢ b → P a b ↔ Q a b) → (trace : A) (order : List ℕ) (g : Graph) → NamesDiffer p.name (p.segments trace) → IsTraceGraph p P trace order g → IsTraceGraph p Q trace order g
  moved_graph P Q same trace order g differ h = record {
    has = h.has;
    edges = λ v w i j a b. (
      (λ e. moved P Q (λ m n d. (same m n d).0) trace differ i j ((h.edges v w i j a b).0 e)),
      (λ d. (h.edges v w i j a b).1 (moved Q P (λ m n x. (same m n x).1) trace differ i j d)),
    );
  }

  pub graphs : ExclusionsAreThoseOfAll p → GraphsAreThoseOfAll p
  graphs all day by_name by_task past kept s trace order g is differ =
      let P : N → N → Type 0 = ExcludesUnder p day by_name by_task s kept in
      let Q : N → N → Type 0 = ExcludesIn p (past ++ kept) in
      let same : (a b : N) → a ≢ b → P a b ↔ Q a b = λ a b d. all day by_name by_task past kept s is a b d in
      (moved_graph P Q same trace order g differ, moved_graph Q P (λ a b d. ((same a b d).1, (same a b d).0)) trace order g differ)
