-- A graph of a trace is one of the renamed trace.
use Rattle.std.proofs.Common.{◌≡◌, ℕ, ◌<◌, ℤ, pos, ◌+ℤ◌, ◌<ℤ◌, List, length, get_or, slice_get, Option, Some, MatchOption, sym, ap, ◌∙◌, subst, inl, inr, arith}
use Rattle.std.specs.List.{AllZip}
use Rattle.std.specs.Option.{IsSomeAnd}
use Rattle.std.proofs.lemmas.Slice.Zip.{AllZip-left, AllZip-long, AllZip-right}
use Rattle.trace_types.specs.Parts.{Parts}
use Rattle.trace_types.specs.Refuting.{RefutesExclusive}
use Rattle.trace_types.specs.Renaming.{Agree, IsSegmentRenamed, IsTraceRenamed}
use Rattle.trace_types.specs.Surviving.{Survives}
use Rattle.weighted_dag.specs.Graphs.{Graph, weight_of}
use Rattle.trace_rules.specs.VertexOrder.{ComesBefore, IsEarlier, IsVertexOrder}
use Rattle.trace_rules.specs.TraceGraphs.{ExcludesIn, IsDependency, IsTraceGraph}
use Rattle.trace_types.proofs.MatchLemmas.{some_and}

-- what matches the element at an index stands at that index
right_of : {X Y : Type 0} (R : X → Y → Type 0) (xs : List X) (ys : List Y) → AllZip R xs ys → (k : ℕ) (x : X) → slice_get xs k ≡ Some x → IsSomeAnd (slice_get ys k) (R x)
right_of {X} R xs ys z k x e = subst (λ (o : Option X). MatchOption o (Unit {0}) (λ v. IsSomeAnd (slice_get ys k) (R v))) e (AllZip-left R xs ys z k)

left_of : {X Y : Type 0} (R : X → Y → Type 0) (xs : List X) (ys : List Y) → AllZip R xs ys → (k : ℕ) (y : Y) → slice_get ys k ≡ Some y → IsSomeAnd (slice_get xs k) (λ x. R x y)
left_of {X} {Y} R xs ys z k y e = subst (λ (o : Option Y). MatchOption o (Unit {0}) (λ v. IsSomeAnd (slice_get xs k) (λ x. R x v))) e (AllZip-right R xs ys z k)

module _ {A S N T E B X M U F : Type 0} (p : Parts A S N T E) (q : Parts B X M U F) (names : List (N × M)) (tasks : List (T × U)) (traces : List A) (others : List B) (trace : A) (other : B) (alike : Agree names (λ a b. Survives (RefutesExclusive p a b) traces) (λ c d. Survives (RefutesExclusive q c d) others)) (renamed : IsTraceRenamed p q names tasks trace other) where
  abbrev pub Same : S → X → Type 0
  Same = IsSegmentRenamed p q names tasks renamed.elements

  here : (k : ℕ) (s : S) → slice_get (p.segments trace) k ≡ Some s → (x : X) × (slice_get (q.segments other) k ≡ Some x) × Same s x
  here k s got = some_and (slice_get (q.segments other) k) (Same s) (right_of Same (p.segments trace) (q.segments other) renamed.segments k s got)

  there : (k : ℕ) (x : X) → slice_get (q.segments other) k ≡ Some x → (s : S) × (slice_get (p.segments trace) k ≡ Some s) × Same s x
  there k x got = some_and (slice_get (p.segments trace) k) (λ s. Same s x) (left_of Same (p.segments trace) (q.segments other) renamed.segments k x got)

  forward : (s t : S) (x y : X) (i j : ℕ) → Same s x → Same t y → IsEarlier p s i t j → IsEarlier q x i y j
  forward s t x y i j f g (inl l) = inl (subst (λ (z : ℤ). z <ℤ q.start y) (sym f.start) (subst (λ (z : ℤ). p.start s <ℤ z) (sym g.start) l))
  forward s t x y i j f g (inr (e, inl l)) = inr (f.start ∙ (e ∙ sym g.start), inl (subst (λ (z : ℤ). z <ℤ q.end y) (sym f.end) (subst (λ (z : ℤ). p.end s <ℤ z) (sym g.end) l)))
  forward s t x y i j f g (inr (e, inr (h, l))) = inr (f.start ∙ (e ∙ sym g.start), inr (f.end ∙ (h ∙ sym g.end), l))

  backward : (s t : S) (x y : X) (i j : ℕ) → Same s x → Same t y → IsEarlier q x i y j → IsEarlier p s i t j
  backward s t x y i j f g (inl l) = inl (subst (λ (z : ℤ). z <ℤ p.start t) f.start (subst (λ (z : ℤ). q.start x <ℤ z) g.start l))
  backward s t x y i j f g (inr (e, inl l)) = inr (sym f.start ∙ (e ∙ g.start), inl (subst (λ (z : ℤ). z <ℤ p.end t) f.end (subst (λ (z : ℤ). q.end x <ℤ z) g.end l)))
  backward s t x y i j f g (inr (e, inr (h, l))) = inr (sym f.start ∙ (e ∙ g.start), inr (sym f.end ∙ (h ∙ g.end), l))

  same_vertices : (order : List ℕ) → IsVertexOrder p trace order → IsVertexOrder q other order
  same_vertices order v = record {
    all = λ i. (
      (λ has. let l : i < length (p.segments trace) = (v.all i).0 has in omega (arith, AllZip-long Same (p.segments trace) (q.segments other) renamed.segments)),
      (λ lt. (v.all i).1 (omega (arith, AllZip-long Same (p.segments trace) (q.segments other) renamed.segments))),
    );
    rising = λ k l d lt within. moved (get_or order k d) (get_or order l d) (v.rising k l d lt within);
  }
    where
      moved : (i j : ℕ) → ComesBefore p trace i j → ComesBefore q other i j
      moved i j (s, t, is, ts, e) =
          let (x, ix, f) = here i s is in
          let (y, jy, g) = here j t ts in
          (x, y, ix, jy, forward s t x y i j f g e)

  dependency_there : (i j : ℕ) → IsDependency p (ExcludesIn p traces) trace i j → IsDependency q (ExcludesIn q others) other i j
  dependency_there i j d =
      let (x, ix, f) = here i d.s d.first in
      let (y, jy, g) = here j d.t d.second in
      record { s = x; t = y; first = ix; second = jy; earlier = forward d.s d.t x y i j f g d.earlier; excludes = (alike (p.name d.s) (p.name d.t) (q.name x) (q.name y) f.name g.name).0 d.excludes }

  dependency_here : (i j : ℕ) → IsDependency q (ExcludesIn q others) other i j → IsDependency p (ExcludesIn p traces) trace i j
  dependency_here i j d =
      let (s, ix, f) = there i d.s d.first in
      let (t, jy, g) = there j d.t d.second in
      record { s = s; t = t; first = ix; second = jy; earlier = backward s t d.s d.t i j f g d.earlier; excludes = (alike (p.name s) (p.name t) (q.name d.s) (q.name d.t) f.name g.name).1 d.excludes }

  pub same_graph : (order : List ℕ) (g : Graph) → IsTraceGraph p (ExcludesIn p traces) trace order g → IsTraceGraph q (ExcludesIn q others) other order g
  same_graph order g a = record {
    has = record {
      form = a.has.form;
      vertices = same_vertices order a.has.vertices;
      count = a.has.count;
      weights = λ v i x at got.
          let (s, is, f) = there i x got in
          let sum : (p.start s +ℤ pos (weight_of g v)) ≡ p.end s = a.has.weights v i s at is in
          ap (λ (z : ℤ). z +ℤ pos (weight_of g v)) f.start ∙ (sum ∙ sym f.end);
    };
    edges = λ v w i j at there. (
      (λ edge. dependency_there i j ((a.edges v w i j at there).0 edge)),
      (λ d. (a.edges v w i j at there).1 (dependency_here i j d)),
    );
  }
