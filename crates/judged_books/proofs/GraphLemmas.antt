-- The graph of a trace by words is that of the kept trace by what survives in text.
use Rattle.std.proofs.Common.{◌≡◌, ◌≢◌, ◌⊎◌, ℕ, ◌<◌, ℤ, pos, ◌+ℤ◌, List, length, get_or, Option, Some, MatchOption, sym, ap, ◌∙◌, subst, ⊎_elim, inl, inr, arith}
use Rattle.std.specs.Prelude.{Contains, slice_get, ◌<ℤ◌}
use Rattle.std.specs.List.{enumerate_from}
use Rattle.std.specs.Option.{IsSomeAnd}
use Rattle.std.proofs.lemmas.Bool.{cases_order}
use Rattle.std.proofs.lemmas.Int.{ints}
use Rattle.std.proofs.lemmas.Option.{get_or_from_slice_get, slice_get_within}
use Rattle.std.proofs.lemmas.Slice.Zip.{AllZip-left, AllZip-long, AllZip-right}
use Rattle.segment_names.specs.Known.{Known}
use Rattle.session_rules.specs.KeptTraces.{Kept, by_kept}
use Rattle.trace_rules.specs.TraceGraphs.{IsDependency, IsTraceGraph}
use Rattle.trace_rules.specs.VertexOrder.{ComesBefore, IsEarlier, IsVertexOrder}
use Rattle.trace_types.proofs.MatchLemmas.{some_and}
use Rattle.trace_types.specs.NamedSegments.{number_of_name}
use Rattle.trace_types.specs.Parts.{by_number}
use Rattle.trace_types.specs.Renaming.{IsSegmentRenamed}
use Rattle.trace_types.specs.SegmentLists.{NamesDiffer}
use Rattle.trace_types.specs.Segments.{SegmentName, name_of}
use Rattle.trace_types.specs.declared.named_segment.NamedSegment.{NamedSegment}
use Rattle.trace_types.specs.declared.named_trace.NamedTrace.{NamedTrace}
use Rattle.trace_types.specs.declared.segment.Segment.{Segment}
use Rattle.weighted_dag.specs.Graphs.{Graph, weight_of}
use Rattle.book_laws.specs.Shown.{IsShown}

-- two segments of which one comes before the other have two names
names_apart : (trace : NamedTrace) (i j : ℕ) (s t : NamedSegment) → NamesDiffer number_of_name trace.segments → slice_get trace.segments i ≡ Some s → slice_get trace.segments j ≡ Some t → IsEarlier by_number s i t j → s.name ≢ t.name
names_apart trace i j s t differ a b earlier e =
    let xs = trace.segments in
    let at_i : get_or xs i s ≡ s = get_or_from_slice_get xs i s s a in
    let at_j : get_or xs j s ≡ t = get_or_from_slice_get xs j t s b in
    ⊎_elim
    (λ (q : i ≡ j).
    let one : s ≡ t = sym at_i ∙ ap (λ (k : ℕ). get_or xs k s) q ∙ at_j in
    not_before s i j q (subst (λ (v : NamedSegment). IsEarlier by_number s i v j) (sym one) earlier))
    (⊎_elim
    (λ (l : i < j). differ i j s l (slice_get_within xs j t b) (ap number_of_name at_i ∙ e ∙ sym (ap number_of_name at_j)))
    (λ (l : j < i). differ j i s l (slice_get_within xs i s a) (ap number_of_name at_j ∙ sym e ∙ sym (ap number_of_name at_i))))
    (cases_order i j)
  where
    not_before : (r : NamedSegment) (k l : ℕ) → k ≡ l → IsEarlier by_number r k r l → ⊥
    not_before r k l q h = ⊎_elim
        (λ (x : r.start <ℤ r.start). absurd (omega (arith, ints)))
        (λ (x : (r.start ≡ r.start) × ((r.end <ℤ r.end) ⊎ ((r.end ≡ r.end) × (k < l)))). ⊎_elim
        (λ (y : r.end <ℤ r.end). absurd (omega (arith, ints)))
        (λ (y : (r.end ≡ r.end) × (k < l)). let z : k < l = y.1 in absurd (omega arith))
        x.1)
        h

module _ (known : Known) (numbered : (k : ℕ) (x : SegmentName) → Contains (enumerate_from 0 known.names) (k, x) → slice_get known.names k ≡ Some x) (P : ℕ → ℕ → Type 0) (Q : SegmentName → SegmentName → Type 0)
    (tell : (m n : ℕ) (a b : SegmentName) → m ≢ n → slice_get known.names m ≡ Some a → slice_get known.names n ≡ Some b → P m n → Q a b)
    (back : (m n : ℕ) (a b : SegmentName) → m ≢ n → slice_get known.names m ≡ Some a → slice_get known.names n ≡ Some b → Q a b → P m n)
    (trace : NamedTrace) (k : Kept) (shown : IsShown known trace k) (differ : NamesDiffer number_of_name trace.segments) where
  abbrev Same : NamedSegment → Segment → Type 0
  Same = IsSegmentRenamed by_number by_kept (enumerate_from 0 known.names) (enumerate_from 0 known.tasks) shown.renamed.elements

  here : (i : ℕ) (s : NamedSegment) → slice_get trace.segments i ≡ Some s → (x : Segment) × (slice_get k.trace.segments i ≡ Some x) × Same s x
  here i s got = some_and (slice_get k.trace.segments i) (Same s) (subst (λ (o : Option NamedSegment). MatchOption o (Unit {0}) (λ v. IsSomeAnd (slice_get k.trace.segments i) (Same v))) got (AllZip-left Same trace.segments k.trace.segments shown.renamed.segments i))

  there : (i : ℕ) (x : Segment) → slice_get k.trace.segments i ≡ Some x → (s : NamedSegment) × (slice_get trace.segments i ≡ Some s) × Same s x
  there i x got = some_and (slice_get trace.segments i) (λ s. Same s x) (subst (λ (o : Option Segment). MatchOption o (Unit {0}) (λ v. IsSomeAnd (slice_get trace.segments i) (λ s. Same s v))) got (AllZip-right Same trace.segments k.trace.segments shown.renamed.segments i))

  forward : (s t : NamedSegment) (x y : Segment) (i j : ℕ) → Same s x → Same t y → IsEarlier by_number s i t j → IsEarlier by_kept x i y j
  forward s t x y i j f g (inl l) = inl (subst (λ (z : ℤ). z <ℤ by_kept.start y) (sym f.start) (subst (λ (z : ℤ). by_number.start s <ℤ z) (sym g.start) l))
  forward s t x y i j f g (inr (e, inl l)) = inr (f.start ∙ (e ∙ sym g.start), inl (subst (λ (z : ℤ). z <ℤ by_kept.end y) (sym f.end) (subst (λ (z : ℤ). by_number.end s <ℤ z) (sym g.end) l)))
  forward s t x y i j f g (inr (e, inr (h, l))) = inr (f.start ∙ (e ∙ sym g.start), inr (f.end ∙ (h ∙ sym g.end), l))

  backward : (s t : NamedSegment) (x y : Segment) (i j : ℕ) → Same s x → Same t y → IsEarlier by_kept x i y j → IsEarlier by_number s i t j
  backward s t x y i j f g (inl l) = inl (subst (λ (z : ℤ). z <ℤ by_number.start t) f.start (subst (λ (z : ℤ). by_kept.start x <ℤ z) g.start l))
  backward s t x y i j f g (inr (e, inl l)) = inr (sym f.start ∙ (e ∙ g.start), inl (subst (λ (z : ℤ). z <ℤ by_number.end t) f.end (subst (λ (z : ℤ). by_kept.end x <ℤ z) g.end l)))
  backward s t x y i j f g (inr (e, inr (h, l))) = inr (sym f.start ∙ (e ∙ g.start), inr (sym f.end ∙ (h ∙ g.end), l))

  long : length trace.segments ≡ length k.trace.segments
  long = sym (AllZip-long Same trace.segments k.trace.segments shown.renamed.segments)

  same_vertices : (order : List ℕ) → IsVertexOrder by_number trace order → IsVertexOrder by_kept k order
  same_vertices order v = record {
    all = λ i. (
      (λ has. let l : i < length trace.segments = (v.all i).0 has in omega (arith, l, long)),
      (λ lt. (v.all i).1 (omega (arith, lt, long))),
    );
    rising = λ m n d lt within. moved (get_or order m d) (get_or order n d) (v.rising m n d lt within);
  }
    where
      moved : (i j : ℕ) → ComesBefore by_number trace i j → ComesBefore by_kept k i j
      moved i j (s, t, is, ts, e) =
          let (x, ix, f) = here i s is in
          let (y, jy, g) = here j t ts in
          (x, y, ix, jy, forward s t x y i j f g e)

  dependency_there : (i j : ℕ) → IsDependency by_number P trace i j → IsDependency by_kept Q k i j
  dependency_there i j d =
      let (x, ix, f) = here i d.s d.first in
      let (y, jy, g) = here j d.t d.second in
      record {
        s = x;
        t = y;
        first = ix;
        second = jy;
        earlier = forward d.s d.t x y i j f g d.earlier;
        excludes = tell d.s.name d.t.name (name_of x) (name_of y) (names_apart trace i j d.s d.t differ d.first d.second d.earlier) (numbered d.s.name (name_of x) f.name) (numbered d.t.name (name_of y) g.name) d.excludes;
      }

  dependency_here : (i j : ℕ) → IsDependency by_kept Q k i j → IsDependency by_number P trace i j
  dependency_here i j d =
      let (s, is, f) = there i d.s d.first in
      let (t, jt, g) = there j d.t d.second in
      let earlier = backward s t d.s d.t i j f g d.earlier in
      record {
        s = s;
        t = t;
        first = is;
        second = jt;
        earlier = earlier;
        excludes = back s.name t.name (name_of d.s) (name_of d.t) (names_apart trace i j s t differ is jt earlier) (numbered s.name (name_of d.s) f.name) (numbered t.name (name_of d.t) g.name) d.excludes;
      }

  pub same_graph : (order : List ℕ) (g : Graph) → IsTraceGraph by_number P trace order g → IsTraceGraph by_kept Q k order g
  same_graph order g a = record {
    has = record {
      form = a.has.form;
      vertices = same_vertices order a.has.vertices;
      count = a.has.count;
      weights = λ v i x at got.
          let (s, is, f) = there i x got in
          let sum : (by_number.start s +ℤ pos (weight_of g v)) ≡ by_number.end s = a.has.weights v i s at is in
          ap (λ (z : ℤ). z +ℤ pos (weight_of g v)) f.start ∙ (sum ∙ sym f.end);
    };
    edges = λ v w i j at there. (
      (λ edge. dependency_there i j ((a.edges v w i j at there).0 edge)),
      (λ d. (a.edges v w i j at there).1 (dependency_here i j d)),
    );
  }
