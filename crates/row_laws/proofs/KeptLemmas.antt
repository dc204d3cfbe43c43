-- The names and tasks of a text of the evidence, and the figures of each two of them.
use Rattle.std.proofs.Common.{◌≡◌, ◌≢◌, ◌↔◌, ℕ, ◌<◌, true, Some, List, get_or, slice_get, Contains, AllPairs, sym, ap, ◌∙◌, subst, Ordering, ⊎_elim}
use Rattle.std.specs.Cmp.{IsTotalOrder}
use Rattle.std.specs.Cmp.Lexicographic.{slice_cmp}
use Rattle.std.specs.Ordering.{nat_cmp, ordering_reverse}
use Rattle.std.specs.declared.cmp.Ordering.TheVariants.{Less, Greater}
use Rattle.std.proofs.lemmas.Bool.{cases_order}
use Rattle.std.proofs.lemmas.Option.{get_or_from_slice_get, slice_get_within}
use Rattle.trace_types.specs.NameOrder.{name_cmp}
use Rattle.trace_types.specs.Parts.{segments_of}
use Rattle.trace_types.specs.Pipelines.{RefutesPipe, RefutesUnshared}
use Rattle.trace_types.specs.Refuting.{RefutesApart}
use Rattle.trace_types.specs.Segments.{SegmentName, name_of}
use Rattle.trace_types.specs.Surviving.{IsRefuted}
use Rattle.trace_types.proofs.ComparingLemmas.{less_differs, text_total}
use Rattle.trace_types.proofs.ElementLemmas.{Contains-flat_map, Contains-map, one_item, one_place}
use Rattle.trace_types.proofs.ListingLemmas.{name_total}
use Rattle.segment_names.specs.Known.{same_name}
use Rattle.segment_names.proofs.TextLemmas.{name_means, name_own}
use Rattle.evidence_rules.specs.Sharings.{AreSharings}
use Rattle.evidence_rules.specs.declared.choice.Choice.{Choice}
use Rattle.evidence_laws.specs.ModelLaws.{ExclusionsAreTold, OrdersAreTold, PipesAreTold, TellsSame}
use Rattle.session_rules.specs.EvidenceTexts.{IsEvidenceText}
use Rattle.session_rules.specs.KeptTraces.{Kept, by_kept}
use Rattle.row_laws.specs.TraceCounts.{AreSoMany, CountTraces, FiguresCountTraces, HaveNamesOnce}

pub same_names : TellsSame same_name
same_names a b = (name_means a b, λ e. subst (λ (n : SegmentName). same_name a n ≡ true) e (name_own a))

-- ---- a rising list
module _ {X : Type 0} (cmp : X → X → Ordering) (total : IsTotalOrder cmp) (xs : List X) (rising : AllPairs (λ x y. cmp x y ≡ Less) xs) where
  pub rising_differ : AllPairs (λ x y. x ≢ y) xs
  rising_differ i j d lt within = less_differs cmp total (get_or xs i d) (get_or xs j d) (rising i j d lt within)

  rises_to : (i j : ℕ) (a b : X) → slice_get xs i ≡ Some a → slice_get xs j ≡ Some b → i < j → cmp a b ≡ Less
  rises_to i j a b ai bj lt =
      let e = get_or_from_slice_get xs i a a ai in
      let f = get_or_from_slice_get xs j b a bj in
      subst (λ (y : X). cmp a y ≡ Less) f (subst (λ (x : X). cmp x (get_or xs j a) ≡ Less) e (rising i j a lt (slice_get_within xs j b bj)))

  pub rises_tells : (i j : ℕ) (a b : X) → slice_get xs i ≡ Some a → slice_get xs j ≡ Some b → (i < j) ↔ (cmp a b ≡ Less)
  rises_tells i j a b ai bj = (
    rises_to i j a b ai bj,
    (λ less. ⊎_elim
        (λ (e : i ≡ j). absurd (less_differs cmp total a b less (one_item xs j a b (subst (λ (k : ℕ). slice_get xs k ≡ Some a) e ai) bj)))
        (⊎_elim (λ (l : i < j). l)
        (λ (l : j < i).
        let turned = total.antisymm a b ∙ ap ordering_reverse (rises_to j i b a bj ai l) in
        let f : Less ≡ Greater = sym less ∙ turned in
        absurd (cc f)))
        (cases_order i j)),
  )

  pub differ_tells : (i j : ℕ) (a b : X) → slice_get xs i ≡ Some a → slice_get xs j ≡ Some b → (i ≢ j) ↔ (a ≢ b)
  differ_tells i j a b ai bj = (
    (λ n e. n (one_place xs rising_differ i j b (ai ∙ ap Some e) bj)),
    (λ n e. n (one_item xs j a b (subst (λ (k : ℕ). slice_get xs k ≡ Some a) e ai) bj)),
  )

-- the laws of the layers below that are cited
pub record Told : Type 0 where
  pub orders : OrdersAreTold by_kept same_name
  pub exclusions : ExclusionsAreTold by_kept same_name
  pub pipes : PipesAreTold by_kept
  pub counts : FiguresCountTraces by_kept same_name

pub names_once : (kept : List Kept) → HaveNamesOnce by_kept kept
names_once kept i d lt = (get_or kept i d).trace.names_differ

module _ (told : Told) (choice : Choice) (kept : List Kept) (bytes : List ℕ) (text : IsEvidenceText choice kept bytes) where
  pub names_differ : AllPairs (λ x y. x ≢ y) text.names
  names_differ = rising_differ name_cmp name_total text.names text.names_are.rising

  pub tasks_differ : AllPairs (λ x y. x ≢ y) text.tasks
  tasks_differ = rising_differ (slice_cmp nat_cmp) text_total text.tasks text.tasks_are.rising

  -- two names that some trace has both are listed
  pub names_listed : (p : SegmentName × SegmentName) → IsRefuted (RefutesApart by_kept p.0 p.1) kept → Contains text.names p.0 × Contains text.names p.1
  names_listed p (k, d, lt, e, r) = (
    (text.names_are.exactly p.0).1 (Contains-map name_of (segments_of by_kept kept) r.0 p.0 (Contains-flat_map by_kept.segments kept d r.0 (k, lt, e) r.2) r.4),
    (text.names_are.exactly p.1).1 (Contains-map name_of (segments_of by_kept kept) r.1 p.1 (Contains-flat_map by_kept.segments kept d r.1 (k, lt, e) r.3) r.5),
  )

  -- two tasks with an element in both are listed
  pub tasks_listed : (p : List ℕ × List ℕ) → IsRefuted (RefutesUnshared by_kept p.0 p.1) kept → Contains text.tasks p.0 × Contains text.tasks p.1
  tasks_listed p (k, d, lt, e, r) = (
    (text.tasks_are.exactly p.0).1 (k, d, lt, e, record { element = r.element; k = r.k; l = r.k; s = r.s; r = r.s; one = r.one; other = r.one }),
    (text.tasks_are.exactly p.1).1 (k, d, lt, e, record { element = r.element; k = r.l; l = r.l; s = r.r; r = r.r; one = r.other; other = r.other }),
  )

  -- ---- two names at their places
  module _ (i j : ℕ) (a b : SegmentName) (ai : slice_get text.names i ≡ Some a) (bj : slice_get text.names j ≡ Some b) where
    pub counts : CountTraces by_kept kept a b (text.between i j)
    counts = told.counts same_names kept a b (text.between i j) (names_once kept) (text.met i j a b ai bj)

  -- ---- two tasks at their places
  module _ (i j : ℕ) (t u : List ℕ) (ti : slice_get text.tasks i ≡ Some t) (uj : slice_get text.tasks j ≡ Some u) where
    shared : AreSharings by_kept kept t u (text.sharing i j)
    shared = text.shared i j t u ti uj

    pub have_both : AreSoMany (RefutesUnshared by_kept t u) kept (text.sharing i j).traces
    have_both = record { verdicts = shared.shared; told = shared.share; count = shared.traces_are }

    pub refute : AreSoMany (RefutesPipe by_kept t u) kept (text.sharing i j).refuted
    refute = record { verdicts = shared.refuted; told = shared.refute; count = shared.refuted_are }
