-- The vertices, weights and lists of successors make the graph of the trace.
use Rattle.std.proofs.Common.{◌≡◌, ◌≢◌, ℕ, ◌<◌, ◌≤◌, ◌^◌, ℤ, pos, negsuc, ◌+ℤ◌, ◌-ℤ◌, ◌<ℤ◌, ◌≤ℤ◌, List, [], map, length, get_or, slice_get, Some, unwrap_or, Contains, All, arith, refl, sym, ap, ◌∙◌, subst, ⊎_elim, inl, inr}
use Rattle.std.specs.Prelude.{unsigned_abs}
use Rattle.std.specs.Option.{option_map}
use Rattle.std.specs.List.Sorted.{IsStrictlyIncreasing}
use Rattle.std.proofs.lemmas.Bool.{cases_lt}
use Rattle.std.proofs.lemmas.Int.{ints}
use Rattle.std.proofs.lemmas.List.{get_or_default, get_or-map, get_or_past, length-map}
use Rattle.std.proofs.lemmas.List.Elements.{All-from_get_or}
use Rattle.std.proofs.lemmas.Option.{slice_get_within, get_or_from_slice_get}
use Rattle.trace_types.specs.declared.named_segment.NamedSegment.{NamedSegment}
use Rattle.trace_types.specs.declared.named_trace.NamedTrace.{NamedTrace}
use Rattle.trace_types.specs.NamedSegments.{number_of_name}
use Rattle.trace_types.specs.Parts.{by_number}
use Rattle.trace_types.specs.SegmentLists.{NamesDiffer}
use Rattle.model_meet.specs.ModelStates.{ModelState}
use Rattle.model_meet.specs.RelationBits.{KeepsExclusion}
use Rattle.weighted_dag.specs.Graphs.{Graph, IsEdge, IsGraph, weight_of}
use Rattle.trace_rules.specs.VertexOrder.{IsEarlier, IsVertexOrder}
use Rattle.trace_rules.specs.TraceGraphs.{HasVertices, IsDependency, IsTraceGraph}
use Rattle.trace_types.proofs.ComparingLemmas.{time_asym}
use Rattle.trace_types.proofs.FewSegmentLemmas.{few_names}
use Rattle.trace_graph.specs.inner.Keys.{AreKeys, IsKeyBefore, Key, duration_of, index_in, key_at, name_in, no_key}
use Rattle.trace_graph.specs.inner.Successors.{AreKnown, AreLists, name_at}

pub earlier_asym : (s t : NamedSegment) (i j : ℕ) → IsEarlier by_number s i t j → IsEarlier by_number t j s i → ⊥
earlier_asym s t i j (inl a) (inl b) = omega (arith, ints)
earlier_asym s t i j (inl a) (inr b) = let e : t.start ≡ s.start = b.0 in omega (arith, ints)
earlier_asym s t i j (inr a) (inl b) = let e : s.start ≡ t.start = a.0 in omega (arith, ints)
earlier_asym s t i j (inr a) (inr b) = time_asym s.end t.end i j a.1 b.1

-- the segment of a vertex, by its key
pub record IsVertex (segments : List NamedSegment) (keys : List Key) (v : ℕ) : Type 0 where
  pub s : NamedSegment
  pub got : slice_get segments (key_at keys v).2 ≡ Some s
  pub start : (key_at keys v).0 ≡ s.start
  pub end : (key_at keys v).1 ≡ s.end

vertex_of : (segments : List NamedSegment) (keys : List Key) → AreKeys segments keys → (v : ℕ) → v < length keys → IsVertex segments keys v
vertex_of segments keys a v lt = let (s, got, start, end) = a.right v lt in record { s = s; got = got; start = start; end = end }

pub same_segment : (segments : List NamedSegment) (i j : ℕ) (s t : NamedSegment) → slice_get segments i ≡ Some s → slice_get segments j ≡ Some t → i ≡ j → s ≡ t
same_segment segments i j s t is ts same = sym (get_or_from_slice_get segments i s s is) ∙ (ap (λ (k : ℕ). get_or segments k s) same ∙ get_or_from_slice_get segments j t s ts)

module _ (segments : List NamedSegment) (keys : List Key) (a : AreKeys segments keys) where
  -- of two vertices the lower comes before the other
  lower_first : (v w : ℕ) (s t : NamedSegment) → v < w → w < length keys → slice_get segments (key_at keys v).2 ≡ Some s → slice_get segments (key_at keys w).2 ≡ Some t → IsEarlier by_number s (key_at keys v).2 t (key_at keys w).2
  lower_first v w s t lt within is ts = go (a.rising v w lt within)
    where
      one : IsVertex segments keys v
      one = vertex_of segments keys a v (omega arith)

      other : IsVertex segments keys w
      other = vertex_of segments keys a w within

      es : one.s ≡ s
      es = same_segment segments (key_at keys v).2 (key_at keys v).2 one.s s one.got is refl

      et : other.s ≡ t
      et = same_segment segments (key_at keys w).2 (key_at keys w).2 other.s t other.got ts refl

      vs : (key_at keys v).0 ≡ s.start
      vs = one.start ∙ ap (λ (x : NamedSegment). x.start) es

      ve : (key_at keys v).1 ≡ s.end
      ve = one.end ∙ ap (λ (x : NamedSegment). x.end) es

      ws : (key_at keys w).0 ≡ t.start
      ws = other.start ∙ ap (λ (x : NamedSegment). x.start) et

      we : (key_at keys w).1 ≡ t.end
      we = other.end ∙ ap (λ (x : NamedSegment). x.end) et

      go : IsKeyBefore (key_at keys v) (key_at keys w) → IsEarlier by_number s (key_at keys v).2 t (key_at keys w).2
      go (inl x) = inl (subst (λ (z : ℤ). z <ℤ t.start) vs (subst (λ (z : ℤ). (key_at keys v).0 <ℤ z) ws x))
      go (inr (e, inl x)) = inr (sym vs ∙ (e ∙ ws), inl (subst (λ (z : ℤ). z <ℤ t.end) ve (subst (λ (z : ℤ). (key_at keys v).1 <ℤ z) we x)))
      go (inr (e, inr (f, l))) = inr (sym vs ∙ (e ∙ ws), inr (sym ve ∙ (f ∙ we), l))

  -- two vertices have two segments
  indices_differ : (v w : ℕ) → v < w → w < length keys → (key_at keys v).2 ≢ (key_at keys w).2
  indices_differ v w lt within same =
      let one = vertex_of segments keys a v (omega arith) in
      let other = vertex_of segments keys a w within in
      let e : one.s ≡ other.s = same_segment segments (key_at keys v).2 (key_at keys w).2 one.s other.s one.got other.got same in
      let f = lower_first v w one.s other.s lt within one.got other.got in
      let g : IsEarlier by_number one.s (key_at keys v).2 one.s (key_at keys v).2 = subst (λ (k : ℕ). IsEarlier by_number one.s (key_at keys v).2 one.s k) (sym same) (subst (λ (x : NamedSegment). IsEarlier by_number one.s (key_at keys v).2 x (key_at keys w).2) (sym e) f) in
      earlier_asym one.s one.s (key_at keys v).2 (key_at keys v).2 g g

  -- the name of a vertex is that of its segment
  vertex_name : (v : ℕ) (s : NamedSegment) → v < length keys → slice_get segments (key_at keys v).2 ≡ Some s → name_at (map (name_in segments) keys) v ≡ s.name
  vertex_name v s lt got = get_or-map (name_in segments) keys v no_key 0 lt ∙ ap (λ o. unwrap_or (option_map number_of_name o) 0) got

  pub names_known : (model : ModelState) → NamesDiffer number_of_name segments → All (λ (s : NamedSegment). s.name < model.names) segments → AreKnown model (map (name_in segments) keys)
  names_known model differ below = record {
    below = All-from_get_or (λ n. n < model.names) (map (name_in segments) keys) 0 (λ k lt.
        let within : k < length keys = omega (arith, length-map keys (name_in segments)) in
        let one = vertex_of segments keys a k within in
        let small : one.s.name < model.names = subst (λ (x : NamedSegment). x.name < model.names) (get_or_from_slice_get segments (key_at keys k).2 one.s one.s one.got) (below (key_at keys k).2 one.s (slice_get_within segments (key_at keys k).2 one.s one.got)) in
        let name = vertex_name k one.s within one.got in
        omega arith);
    differ = λ v w d lt before same.
        let within : w < length keys = omega (arith, length-map keys (name_in segments)) in
        let first : v < length keys = omega arith in
        let one = vertex_of segments keys a v first in
        let other = vertex_of segments keys a w within in
        let names : one.s.name ≡ other.s.name = sym (vertex_name v one.s first one.got) ∙ (sym (get_or_default (map (name_in segments) keys) v d 0 (omega (arith, length-map keys (name_in segments)))) ∙ (same ∙ (get_or_default (map (name_in segments) keys) w d 0 before ∙ vertex_name w other.s within other.got))) in
        apart one other (indices_differ v w lt within) names;
  }
    where
      ordered : (i j : ℕ) (s t : NamedSegment) → slice_get segments i ≡ Some s → slice_get segments j ≡ Some t → i < j → s.name ≢ t.name
      ordered i j s t is ts lt same = differ i j s lt (slice_get_within segments j t ts)
          (ap number_of_name (get_or_from_slice_get segments i s s is) ∙ (same ∙ sym (ap number_of_name (get_or_from_slice_get segments j t s ts))))

      apart : {v w : ℕ} (one : IsVertex segments keys v) (other : IsVertex segments keys w) → (key_at keys v).2 ≢ (key_at keys w).2 → one.s.name ≢ other.s.name
      apart {v} {w} one other two same = ⊎_elim
          (λ (l : (key_at keys v).2 < (key_at keys w).2). ordered (key_at keys v).2 (key_at keys w).2 one.s other.s one.got other.got l same)
          (λ (g : (key_at keys w).2 ≤ (key_at keys v).2). ordered (key_at keys w).2 (key_at keys v).2 other.s one.s other.got one.got (omega (arith, two)) (sym same))
          (cases_lt (key_at keys v).2 (key_at keys w).2)

-- lists of later vertices make a graph
pub lists_make_graph : (model : ModelState) (names : List ℕ) (weights : List ℕ) (lists : List (List ℕ)) → length names < 2 ^ 32 → length weights ≡ length names → AreLists model names (length names) lists → IsGraph (record { weights = weights; successors = lists })
lists_make_graph model names weights lists few same a = record {
  small = omega (arith, same);
  lists = a.each ∙ sym same;
  later = λ v w edge. ⊎_elim
      (λ (in_range : v < length names). ((a.exact v [] in_range).later w edge).0)
      (λ (beyond : length names ≤ v). absurd (no_edge v w beyond edge))
      (cases_lt v (length names));
  within = λ v w edge. ⊎_elim
      (λ (in_range : v < length names). let l : w < length names = ((a.exact v [] in_range).later w edge).1 in omega (arith, same))
      (λ (beyond : length names ≤ v). absurd (no_edge v w beyond edge))
      (cases_lt v (length names));
  rising = λ v. ⊎_elim
      (λ (in_range : v < length names). (a.exact v [] in_range).rising)
      (λ (beyond : length names ≤ v). subst IsStrictlyIncreasing (sym (none v beyond)) (λ k h. absurd (omega arith)))
      (cases_lt v (length names));
}
  where
    none : (v : ℕ) → length names ≤ v → get_or lists v [] ≡ []
    none v beyond = get_or_past lists v [] (omega (arith, a.each))

    no_edge : (v w : ℕ) → length names ≤ v → Contains (get_or lists v []) w → ⊥
    no_edge v w beyond edge = let (k, lt, is) = subst (λ (l : List ℕ). Contains l w) (none v beyond) edge in omega arith

-- a start and a duration make the end
abs_is : (z : ℤ) → pos 0 ≤ℤ z → pos (unsigned_abs z) ≡ z
abs_is (pos k) h = refl
abs_is (negsuc k) h = absurd (omega (arith, ints))

duration_added : (s e : ℤ) → s ≤ℤ e → (s +ℤ pos (unsigned_abs (e -ℤ s))) ≡ e
duration_added s e le = let d : pos (unsigned_abs (e -ℤ s)) ≡ e -ℤ s = abs_is (e -ℤ s) (omega (arith, ints)) in omega (arith, ints)

pub few_keys : (trace : NamedTrace) (keys : List Key) → AreKeys trace.segments keys → length keys ≤ 512
few_keys trace keys a = omega (arith, a.each, few_names 512 trace.segments trace.names_differ (λ k d lt. (get_or trace.segments k d).name_below))

pub form_made : (trace : NamedTrace) (model : ModelState) (keys : List Key) → AreKeys trace.segments keys → (lists : List (List ℕ)) → AreLists model (map (name_in trace.segments) keys) (length (map (name_in trace.segments) keys)) lists → IsGraph (record { weights = map duration_of keys; successors = lists })
form_made trace model keys a lists b =
    let names : length (map (name_in trace.segments) keys) ≡ length keys = length-map keys (name_in trace.segments) in
    let weights : length (map duration_of keys) ≡ length keys = length-map keys duration_of in
    lists_make_graph model (map (name_in trace.segments) keys) (map duration_of keys) lists (omega (arith, few_keys trace keys a)) (omega arith) b

module _ (trace : NamedTrace) (model : ModelState) (keys : List Key) (a : AreKeys trace.segments keys) (lists : List (List ℕ)) (b : AreLists model (map (name_in trace.segments) keys) (length (map (name_in trace.segments) keys)) lists) (form : IsGraph (record { weights = map duration_of keys; successors = lists })) where
  abbrev names : List ℕ
  names = map (name_in trace.segments) keys

  abbrev order : List ℕ
  order = map index_in keys

  abbrev made : Graph
  made = record { weights = map duration_of keys; successors = lists }

  many_names : length names ≡ length keys
  many_names = length-map keys (name_in trace.segments)

  many_order : length order ≡ length keys
  many_order = length-map keys index_in

  many_weights : length made.weights ≡ length keys
  many_weights = length-map keys duration_of

  index_of : (v i : ℕ) → slice_get order v ≡ Some i → (v < length keys) × ((key_at keys v).2 ≡ i)
  index_of v i got =
      let lt : v < length keys = omega (arith, slice_get_within order v i got, many_order) in
      (lt, sym (get_or-map index_in keys v no_key i lt) ∙ get_or_from_slice_get order v i i got)

  vertices : IsVertexOrder by_number trace order
  vertices = record {
    all = λ i. (
      (λ (v, lt, is).
          let within : v < length keys = omega (arith, many_order) in
          let one = vertex_of trace.segments keys a v within in
          let same : (key_at keys v).2 ≡ i = sym (get_or-map index_in keys v no_key i within) ∙ is in
          subst (λ (k : ℕ). k < length trace.segments) same (slice_get_within trace.segments (key_at keys v).2 one.s one.got)),
      (λ lt. let (v, within, same) = a.all i lt in (v, omega (arith, many_order), get_or-map index_in keys v no_key i within ∙ same)),
    );
    rising = λ v w d lt before.
        let within : w < length keys = omega (arith, many_order) in
        let first : v < length keys = omega arith in
        let one = vertex_of trace.segments keys a v first in
        let other = vertex_of trace.segments keys a w within in
        let ev : get_or order v d ≡ (key_at keys v).2 = get_or-map index_in keys v no_key d first in
        let ew : get_or order w d ≡ (key_at keys w).2 = get_or-map index_in keys w no_key d within in
        rw (ev, ew) (one.s, other.s, one.got, other.got, lower_first trace.segments keys a v w one.s other.s lt within one.got other.got);
  }

  pub vertices_made : HasVertices by_number trace order made
  vertices_made = record {
    form = form;
    vertices = vertices;
    count = many_weights ∙ sym many_order;
    weights = λ v i s iv got.
        let (first, ei) = index_of v i iv in
        let one = vertex_of trace.segments keys a v first in
        let e : one.s ≡ s = same_segment trace.segments (key_at keys v).2 i one.s s one.got got ei in
        let start : (key_at keys v).0 ≡ s.start = one.start ∙ ap (λ (x : NamedSegment). x.start) e in
        let end : (key_at keys v).1 ≡ s.end = one.end ∙ ap (λ (x : NamedSegment). x.end) e in
        let weight : weight_of made v ≡ unsigned_abs (s.end -ℤ s.start) = get_or-map duration_of keys v no_key 0 first ∙ (ap (λ (z : ℤ). unsigned_abs (z -ℤ (key_at keys v).0)) end ∙ ap (λ (z : ℤ). unsigned_abs (s.end -ℤ z)) start) in
        ap (λ (n : ℕ). s.start +ℤ pos n) weight ∙ duration_added s.start s.end s.ordered;
  }

  is_dependency : (v w i j : ℕ) → slice_get order v ≡ Some i → slice_get order w ≡ Some j → IsEdge made v w → IsDependency by_number (KeepsExclusion model.words) trace i j
  is_dependency v w i j iv jw edge =
      let (first, ei) = index_of v i iv in
      let (second, ej) = index_of w j jw in
      let one = vertex_of trace.segments keys a v first in
      let other = vertex_of trace.segments keys a w second in
      let lt : v < w = form.later v w edge in
      let kept = (b.exact v [] (omega (arith, many_names))).exact w lt (omega (arith, many_names)) in
      record {
        s = one.s;
        t = other.s;
        first = subst (λ (k : ℕ). slice_get trace.segments k ≡ Some one.s) ei one.got;
        second = subst (λ (k : ℕ). slice_get trace.segments k ≡ Some other.s) ej other.got;
        earlier = subst (λ (k : ℕ). IsEarlier by_number one.s k other.s j) ei (subst (λ (k : ℕ). IsEarlier by_number one.s (key_at keys v).2 other.s k) ej (lower_first trace.segments keys a v w one.s other.s lt second one.got other.got));
        excludes = subst (λ (n : ℕ). KeepsExclusion model.words n other.s.name) (vertex_name trace.segments keys a v one.s first one.got)
            (subst (λ (n : ℕ). KeepsExclusion model.words (name_at names v) n) (vertex_name trace.segments keys a w other.s second other.got) (kept.0 edge));
      }

  is_edge : (v w i j : ℕ) → slice_get order v ≡ Some i → slice_get order w ≡ Some j → IsDependency by_number (KeepsExclusion model.words) trace i j → IsEdge made v w
  is_edge v w i j iv jw d =
      let (first, ei) = index_of v i iv in
      let (second, ej) = index_of w j jw in
      let is : slice_get trace.segments (key_at keys v).2 ≡ Some d.s = subst (λ (k : ℕ). slice_get trace.segments k ≡ Some d.s) (sym ei) d.first in
      let ts : slice_get trace.segments (key_at keys w).2 ≡ Some d.t = subst (λ (k : ℕ). slice_get trace.segments k ≡ Some d.t) (sym ej) d.second in
      let before : IsEarlier by_number d.s (key_at keys v).2 d.t (key_at keys w).2 = subst (λ (k : ℕ). IsEarlier by_number d.s k d.t (key_at keys w).2) (sym ei) (subst (λ (k : ℕ). IsEarlier by_number d.s i d.t k) (sym ej) d.earlier) in
      ⊎_elim
      (λ (lt : v < w).
      let kept = (b.exact v [] (omega (arith, many_names))).exact w lt (omega (arith, many_names)) in
      kept.1 (subst (λ (n : ℕ). KeepsExclusion model.words n (name_at names w)) (sym (vertex_name trace.segments keys a v d.s first is))
      (subst (λ (n : ℕ). KeepsExclusion model.words d.s.name n) (sym (vertex_name trace.segments keys a w d.t second ts)) d.excludes)))
      (λ (ge : w ≤ v). ⊎_elim
      (λ (lt : w < v). absurd (earlier_asym d.s d.t (key_at keys v).2 (key_at keys w).2 before (lower_first trace.segments keys a w v d.t d.s lt first ts is)))
      (λ (le : v ≤ w). let same : w ≡ v = omega arith in
      let both : d.t ≡ d.s = same_segment trace.segments (key_at keys w).2 (key_at keys v).2 d.t d.s ts is (ap (λ (k : ℕ). (key_at keys k).2) same) in
      let self : IsEarlier by_number d.s (key_at keys v).2 d.s (key_at keys v).2 = subst (λ (x : NamedSegment). IsEarlier by_number d.s (key_at keys v).2 x (key_at keys v).2) both (subst (λ (k : ℕ). IsEarlier by_number d.s (key_at keys v).2 d.t (key_at keys k).2) same before) in
      absurd (earlier_asym d.s d.s (key_at keys v).2 (key_at keys v).2 self self))
      (cases_lt w v))
      (cases_lt v w)

  pub graph_made : IsTraceGraph by_number (KeepsExclusion model.words) trace order made
  graph_made = record {
    has = vertices_made;
    edges = λ v w i j iv jw. (is_dependency v w i j iv jw, is_edge v w i j iv jw);
  }
