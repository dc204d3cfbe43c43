-- Rows that grow by what the vertices of a trace gain.
use Rattle.std.proofs.Common.{◌≡◌, ◌≢◌, ◌⊎◌, ℕ, ◌+◌, ◌<◌, ◌≤◌, List, length, get_or, set, slice_get, Some, arith, refl, sym, ap, ◌∙◌, subst, ⊎_elim, inl, inr}
use Rattle.std.proofs.lemmas.Bool.{cases_eq, cases_lt, cases_order}
use Rattle.std.proofs.lemmas.Int.{ints}
use Rattle.std.proofs.lemmas.List.{get_or-set_same, get_or-set_other, length-set}
use Rattle.std.proofs.lemmas.Option.{slice_get_within, get_or_from_slice_get, same_Some}
use Rattle.path_gains.specs.declared.gain.Gain.{Gain}
use Rattle.trace_figures.specs.declared.trace_figures.TraceFigures.{TraceFigures}
use Rattle.trace_rules.specs.TraceGraphs.{HasVertices}
use Rattle.trace_rules.specs.VertexOrder.{ComesBefore, IsEarlier}
use Rattle.trace_types.specs.NamedSegments.{number_of_name}
use Rattle.trace_types.specs.Parts.{by_number}
use Rattle.trace_types.specs.declared.named_segment.NamedSegment.{NamedSegment}
use Rattle.trace_types.specs.declared.named_trace.NamedTrace.{NamedTrace}
use Rattle.trace_types.proofs.ElementLemmas.{one_item}
use Rattle.weighted_dag.specs.Graphs.{Graph}
use Rattle.gain_table.specs.declared.gain_row.GainRow.{GainRow}
use Rattle.gain_table.specs.inner.Growing.{HasName, HasRoom, HaveGrown, IsGainOf, IsShort, empty_row, gain_at, nothing, raised_row, row_at}

-- no segment comes before itself
not_earlier : (s : NamedSegment) (i : ℕ) → IsEarlier by_number s i s i → ⊥
not_earlier s i (inl a) = omega (arith, ints)
not_earlier s i (inr (e, inl a)) = omega (arith, ints)
not_earlier s i (inr (e, inr (f, a))) = omega arith

module _ (trace : NamedTrace) (order : List ℕ) (g : Graph) (has : HasVertices by_number trace order g) where
  -- the names of two segments whose indices differ
  names_apart : (k m : ℕ) (s t : NamedSegment) → slice_get trace.segments k ≡ Some s → slice_get trace.segments m ≡ Some t → k < m → s.name ≢ t.name
  names_apart k m s t is ts lt same = trace.names_differ k m s lt (slice_get_within trace.segments m t ts)
      (ap number_of_name (get_or_from_slice_get trace.segments k s s is) ∙ (same ∙ sym (ap number_of_name (get_or_from_slice_get trace.segments m t s ts))))

  -- no vertex has the name of an earlier one
  pub vertices_apart : (u v name : ℕ) → u < v → HasName trace order name u → HasName trace order name v → ⊥
  vertices_apart u v name up (s, (k, at_u, is), es) (t, (m, at_v, ts), et) =
      let inside : v < length order = slice_get_within order v m at_v in
      let before : ComesBefore by_number trace k m = subst (λ (x : ℕ). ComesBefore by_number trace x m) (get_or_from_slice_get order u k 0 at_u)
      (subst (λ (y : ℕ). ComesBefore by_number trace (get_or order u 0) y) (get_or_from_slice_get order v m 0 at_v) (has.vertices.rising u v 0 up inside)) in
      let (x, y, xs, ys, earlier) = before in
      ⊎_elim
      (λ (l : k < m). names_apart k m s t is ts l (es ∙ sym et))
      (λ (ge : m ≤ k). ⊎_elim
      (λ (l : m < k). names_apart m k t s ts is l (et ∙ sym es))
      (λ (le : k ≤ m).
      let one : m ≡ k = omega arith in
      let both : y ≡ x = one_item trace.segments k y x (subst (λ (z : ℕ). slice_get trace.segments z ≡ Some y) one ys) xs in
      not_earlier x k (subst (λ (z : NamedSegment). IsEarlier by_number x k z k) both (subst (λ (z : ℕ). IsEarlier by_number x k y z) one earlier)))
      (cases_lt m k))
      (cases_lt k m)

  pub one_vertex : (u v name : ℕ) → HasName trace order name u → HasName trace order name v → u ≡ v
  one_vertex u v name a b = ⊎_elim
      (λ (same : u ≡ v). same)
      (λ (two : (u < v) ⊎ (v < u)). absurd (⊎_elim
      (λ (l : u < v). vertices_apart u v name l a b)
      (λ (l : v < u). vertices_apart v u name l b a)
      two))
      (cases_order u v)

-- a vertex has one name
pub one_name : (trace : NamedTrace) (order : List ℕ) (v n m : ℕ) → HasName trace order n v → HasName trace order m v → n ≡ m
one_name trace order v n m (s, (k, at, is), es) (t, (l, bt, ts), et) =
    let index : k ≡ l = same_Some k l (sym at ∙ bt) in
    let segment : s ≡ t = same_Some s t (sym is ∙ (ap (slice_get trace.segments) index ∙ ts)) in
    sym es ∙ (ap (λ (x : NamedSegment). x.name) segment ∙ et)

pub same_row : (r q : GainRow) → r.name ≡ q.name → r.none ≡ q.none → r.half ≡ q.half → r ≡ q
same_row r q a b c =
    ap (λ (n : ℕ). record { name = n; none = r.none; half = r.half }) a
    ∙ (ap (λ (n : ℕ). record { name = q.name; none = n; half = r.half }) b ∙ ap (λ (n : ℕ). record { name = q.name; none = q.none; half = n }) c)

same_short : (d e : Gain) → d ≡ e → IsShort e → IsShort d
same_short d e same short = subst IsShort (sym same) short

module _ (trace : NamedTrace) (figures : TraceFigures) (g : Graph) (has : HasVertices by_number trace figures.order g) where
  -- nothing has grown yet
  pub grown_none : (rows : List GainRow) → HaveGrown trace figures 0 rows rows
  grown_none rows = record {
    rows = refl;
    each = λ name lt. (nothing, inr ((λ v early is. absurd (omega arith)), refl), (omega arith, omega arith), same_row (row_at rows name) (raised_row (row_at rows name) nothing) refl (omega arith) (omega arith));
  }

  -- the row of a vertex's name has not grown before that vertex
  pub untouched : (v name : ℕ) (old rows : List GainRow) → HaveGrown trace figures v old rows → HasName trace figures.order name v → name < length old → row_at rows name ≡ raised_row (row_at old name) nothing
  untouched v name old rows so named lt =
      let (gain, before, was, grew) = so.each name lt in
      let none : gain ≡ nothing = ⊎_elim
      (λ (found : (u : ℕ) × (u < v) × HasName trace figures.order name u × (gain ≡ gain_at figures u)). absurd (vertices_apart trace figures.order g has found.0 v name found.1 found.2 named))
      (λ (missed : ((u : ℕ) → u < v → HasName trace figures.order name u → ⊥) × (gain ≡ nothing)). missed.1)
      before in
      grew ∙ ap (raised_row (row_at old name)) none

  -- so it has room for one gain
  pub has_room : (v name : ℕ) (old rows : List GainRow) → HaveGrown trace figures v old rows → HasName trace figures.order name v → name < length old → HasRoom (row_at old name) → HasRoom (row_at rows name)
  has_room v name old rows so named lt room = subst HasRoom (sym (untouched v name old rows so named lt)) (let a = room.0 in let b = room.1 in (omega arith, omega arith))

  -- one more vertex
  pub grown_more : (v name : ℕ) (old rows new : List GainRow) → HaveGrown trace figures v old rows → HasName trace figures.order name v → name < length old → IsShort (gain_at figures v) → new ≡ set rows name (raised_row (row_at rows name) (gain_at figures v)) → HaveGrown trace figures (v + 1) old new
  grown_more v name old rows new so is within short same = subst (HaveGrown trace figures (v + 1) old) (sym same) (record {
    rows = length-set rows name (raised_row (row_at rows name) (gain_at figures v)) ∙ so.rows;
    each = λ m lt. ⊎_elim (λ (e : m ≡ name). here m e lt) (λ (e : m ≢ name). other m e lt) (cases_eq m name);
  })
    where
      Grown : ℕ → Type 0
      Grown m = (gain : Gain) × IsGainOf trace figures (v + 1) m gain × IsShort gain × (row_at (set rows name (raised_row (row_at rows name) (gain_at figures v))) m ≡ raised_row (row_at old m) gain)

      here : (m : ℕ) → m ≡ name → m < length old → Grown m
      here m e lt =
          let named : HasName trace figures.order m v = subst (λ (k : ℕ). HasName trace figures.order k v) (sym e) is in
          let count = so.rows in
          let set_row = get_or-set_same rows name (raised_row (row_at rows name) (gain_at figures v)) (empty_row 0) (omega arith) in
          let at : row_at (set rows name (raised_row (row_at rows name) (gain_at figures v))) m ≡ raised_row (row_at rows m) (gain_at figures v) =
          ap (row_at (set rows name (raised_row (row_at rows name) (gain_at figures v)))) e ∙ (set_row ∙ ap (λ (k : ℕ). raised_row (row_at rows k) (gain_at figures v)) (sym e)) in
          let old_row = untouched v m old rows so named lt in (
            gain_at figures v,
            inl (v, omega arith, named, refl),
            short,
            at ∙ (ap (λ (r : GainRow). raised_row r (gain_at figures v)) old_row
                ∙ same_row (raised_row (raised_row (row_at old m) nothing) (gain_at figures v)) (raised_row (row_at old m) (gain_at figures v)) refl (omega arith) (omega arith)),
          )

      other : (m : ℕ) → m ≢ name → m < length old → Grown m
      other m e lt =
          let (gain, before, was, grew) = so.each m lt in
          let after : IsGainOf trace figures (v + 1) m gain = ⊎_elim
          (λ (found : (u : ℕ) × (u < v) × HasName trace figures.order m u × (gain ≡ gain_at figures u)). let early = found.1 in inl (found.0, omega arith, found.2, found.3))
          (λ (missed : ((u : ℕ) → u < v → HasName trace figures.order m u → ⊥) × (gain ≡ nothing)). inr (
            (λ u early named. ⊎_elim
                (λ (l : u < v). missed.0 u l named)
                (λ (ge : v ≤ u). let one : u ≡ v = omega arith in e (one_name trace figures.order v m name (subst (HasName trace figures.order m) one named) is))
                (cases_lt u v)),
            missed.1,
          ))
          before in
          (gain, after, was, get_or-set_other rows name m (raised_row (row_at rows name) (gain_at figures v)) (empty_row 0) e ∙ grew)
