-- A graph by the bits of words is the graph under the traces that the words tell of.
use Rattle.std.proofs.Common.{◌≡◌, ◌≢◌, ◌↔◌, ℕ, ◌<◌, ◌≤◌, List, get_or, slice_get, Some, arith, sym, ap, ◌∙◌, subst, ⊎_elim}
use Rattle.std.proofs.lemmas.Bool.{cases_lt}
use Rattle.std.proofs.lemmas.Option.{slice_get_within, get_or_from_slice_get}
use Rattle.model_meet.specs.ExclusionTables.{TellsExclusions}
use Rattle.model_meet.specs.ModelStates.{ModelState}
use Rattle.model_meet.specs.RelationBits.{KeepsExclusion}
use Rattle.refute_tests.specs.Clearing.{HaveNamesBelow}
use Rattle.refute_tests.specs.Survivors.{AreSurvivors}
use Rattle.trace_types.specs.NamedSegments.{number_of_name}
use Rattle.trace_types.specs.Parts.{by_number}
use Rattle.trace_types.specs.declared.named_segment.NamedSegment.{NamedSegment}
use Rattle.trace_types.specs.declared.named_trace.NamedTrace.{NamedTrace}
use Rattle.weighted_dag.specs.Graphs.{Graph}
use Rattle.trace_rules.specs.VertexOrder.{IsEarlier}
use Rattle.trace_rules.specs.TraceGraphs.{ExcludesIn, IsDependency, IsTraceGraph}
use Rattle.trace_graph.proofs.GraphLemmas.{earlier_asym, same_segment}

module _ (model : ModelState) (trace : NamedTrace) (tells : TellsExclusions model) (below : HaveNamesBelow model.names trace) (traces : List NamedTrace) (left : AreSurvivors traces model.words) where
  name_below : (i : ℕ) (s : NamedSegment) → slice_get trace.segments i ≡ Some s → s.name < model.names
  name_below i s got = subst (λ (x : NamedSegment). x.name < model.names) (get_or_from_slice_get trace.segments i s s got) (below i s (slice_get_within trace.segments i s got))

  ordered : (i j : ℕ) (s t : NamedSegment) → slice_get trace.segments i ≡ Some s → slice_get trace.segments j ≡ Some t → i < j → s.name ≢ t.name
  ordered i j s t is ts lt same = trace.names_differ i j s lt (slice_get_within trace.segments j t ts)
      (ap number_of_name (get_or_from_slice_get trace.segments i s s is) ∙ (same ∙ sym (ap number_of_name (get_or_from_slice_get trace.segments j t s ts))))

  -- two segments of which one comes before the other have two names
  names_apart : (i j : ℕ) (s t : NamedSegment) → slice_get trace.segments i ≡ Some s → slice_get trace.segments j ≡ Some t → IsEarlier by_number s i t j → s.name ≢ t.name
  names_apart i j s t is ts earlier same = ⊎_elim
      (λ (l : i < j). ordered i j s t is ts l same)
      (λ (ge : j ≤ i). ⊎_elim
      (λ (l : j < i). ordered j i t s ts is l (sym same))
      (λ (le : i ≤ j).
      let one : j ≡ i = omega arith in
      let both : t ≡ s = same_segment trace.segments j i t s ts is one in
      let self : IsEarlier by_number s i s i = subst (λ (x : NamedSegment). IsEarlier by_number s i x i) both (subst (λ (k : ℕ). IsEarlier by_number s i t k) one earlier) in
      earlier_asym s s i i self self)
      (cases_lt j i))
      (cases_lt i j)

  told : (i j : ℕ) (s t : NamedSegment) → slice_get trace.segments i ≡ Some s → slice_get trace.segments j ≡ Some t → IsEarlier by_number s i t j → KeepsExclusion model.words s.name t.name ↔ ExcludesIn by_number traces s.name t.name
  told i j s t is ts earlier = tells traces left s.name t.name (names_apart i j s t is ts earlier) (name_below i s is) (name_below j t ts)

  by_traces : (i j : ℕ) → IsDependency by_number (KeepsExclusion model.words) trace i j → IsDependency by_number (ExcludesIn by_number traces) trace i j
  by_traces i j d = record { s = d.s; t = d.t; first = d.first; second = d.second; earlier = d.earlier; excludes = (told i j d.s d.t d.first d.second d.earlier).0 d.excludes }

  by_bits : (i j : ℕ) → IsDependency by_number (ExcludesIn by_number traces) trace i j → IsDependency by_number (KeepsExclusion model.words) trace i j
  by_bits i j d = record { s = d.s; t = d.t; first = d.first; second = d.second; earlier = d.earlier; excludes = (told i j d.s d.t d.first d.second d.earlier).1 d.excludes }

  pub told_graph : (order : List ℕ) (g : Graph) → IsTraceGraph by_number (KeepsExclusion model.words) trace order g → IsTraceGraph by_number (ExcludesIn by_number traces) trace order g
  told_graph order g a = record {
    has = a.has;
    edges = λ v w i j iv jw. (
      (λ edge. by_traces i j ((a.edges v w i j iv jw).0 edge)),
      (λ d. (a.edges v w i j iv jw).1 (by_bits i j d)),
    );
  }
