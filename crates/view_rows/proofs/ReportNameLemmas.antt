-- The names of kept traces, by their numbers.
use Rattle.std.proofs.Common.{◌≡◌, ◌↔◌, ℕ, ◌<◌, List, length, map, get_or, refl, sym, ap, ◌∙◌, subst, arith, Ordering}
use Rattle.std.specs.declared.cmp.Ordering.TheVariants.{Less}
use Rattle.std.specs.Cmp.{IsTotalOrder}
use Rattle.std.specs.List.{All, AllPairs, Contains}
use Rattle.std.proofs.lemmas.List.{get_or-map, length-map}
use Rattle.std.proofs.lemmas.List.Elements.{All-contains}
use Rattle.std.proofs.lemmas.Option.{slice_get_within}
use Rattle.day_partitions.specs.Books.{BookState, IsBook, KeptDay, all_traces}
use Rattle.refute_tests.specs.Clearing.{HaveNamesBelow}
use Rattle.segment_names.specs.Known.{Known}
use Rattle.session_rules.specs.KeptTraces.{Kept, by_kept}
use Rattle.session_rules.specs.ReportTexts as texts
use Rattle.trace_paths.specs.NameOrders.{name_with_number}
use Rattle.trace_paths.specs.NameOrders as numbers
use Rattle.trace_types.specs.declared.named_segment.NamedSegment.{NamedSegment}
use Rattle.trace_types.specs.declared.named_trace.NamedTrace.{NamedTrace}
use Rattle.trace_types.specs.NamedSegments.{number_of_name}
use Rattle.trace_types.specs.NameOrder.{name_cmp}
use Rattle.trace_types.specs.Parts.{by_number, segments_of}
use Rattle.trace_types.specs.Segments.{SegmentName, name_of}
use Rattle.trace_types.proofs.ElementLemmas.{Contains-map, from_map, from_flat_map}
use Rattle.trace_types.proofs.MatchLemmas.{partner_in}
use Rattle.view_rows.specs.inner.ShownPaths.{AreSegmentsShown, IsSegmentShown}
use Rattle.view_rows.specs.inner.ShownReports.{NamesAreBelow}
use Rattle.view_rows.proofs.DurationLemmas.{name_shown}
use Rattle.view_rows.proofs.ListLemmas.{All-unmap}
use Rattle.view_rows.proofs.ElementLemmas.{zip_right}

-- elements are listed in rising order in one way
abbrev pub AreListedInOneWay : Type 0
AreListedInOneWay = (cmp : SegmentName → SegmentName → Ordering) → IsTotalOrder cmp → (xs ys : List SegmentName)
    → AllPairs (λ x y. cmp x y ≡ Less) xs → AllPairs (λ x y. cmp x y ≡ Less) ys
    → ((x : SegmentName) → Contains xs x ↔ Contains ys x) → xs ≡ ys

module _ (known : Known) (traces : List NamedTrace) (kept : List Kept) (shown : AreSegmentsShown known (segments_of by_number traces) (segments_of by_kept kept))
    (ns : List ℕ) (told : numbers.AreNamesOf known.names traces ns) where
  -- each number is that of a name
  pub number_within : (n : ℕ) → Contains ns n → n < length known.names
  number_within n c =
      let s = from_map number_of_name (segments_of by_number traces) n ((told.exactly n).0 c) in
      let x = partner_in (IsSegmentShown known) (segments_of by_number traces) (segments_of by_kept kept) shown s.0 s.1 in
      subst (λ (m : ℕ). m < length known.names) s.2 (slice_get_within known.names (number_of_name s.0) (name_of x.0) x.2.name)

  module _ (names : List SegmentName) (are : texts.AreKeptNames kept names) where
    names_rise : AllPairs (λ (x y : SegmentName). name_cmp x y ≡ Less) (map (name_with_number known.names) ns)
    names_rise i j d lt inside =
        let within : j < length ns = omega (arith, length-map ns (name_with_number known.names)) in
        let ei = get_or-map (name_with_number known.names) ns i 0 d (omega arith) in
        let ej = get_or-map (name_with_number known.names) ns j 0 d within in
        subst (λ (x : SegmentName). name_cmp x (get_or (map (name_with_number known.names) ns) j d) ≡ Less) (sym ei)
        (subst (λ (y : SegmentName). name_cmp (name_with_number known.names (get_or ns i 0)) y ≡ Less) (sym ej) (told.rising i j 0 lt within))

    name_listed : (x : SegmentName) → Contains (map (name_with_number known.names) ns) x → Contains names x
    name_listed x c =
        let n = from_map (name_with_number known.names) ns x c in
        let s = from_map number_of_name (segments_of by_number traces) n.0 ((told.exactly n.0).0 n.1) in
        let y = partner_in (IsSegmentShown known) (segments_of by_number traces) (segments_of by_kept kept) shown s.0 s.1 in
        (are.exactly x).1 (Contains-map name_of (segments_of by_kept kept) y.0 x y.1 (sym (name_shown known s.0 y.0 y.2) ∙ (ap (name_with_number known.names) s.2 ∙ n.2)))

    name_numbered : (x : SegmentName) → Contains names x → Contains (map (name_with_number known.names) ns) x
    name_numbered x c =
        let y = from_map name_of (segments_of by_kept kept) x ((are.exactly x).0 c) in
        let s = zip_right (IsSegmentShown known) (segments_of by_number traces) (segments_of by_kept kept) shown y.0 y.1 in
        Contains-map (name_with_number known.names) ns (number_of_name s.0) x ((told.exactly (number_of_name s.0)).1 (Contains-map number_of_name (segments_of by_number traces) s.0 (number_of_name s.0) s.1 refl))
        (name_shown known s.0 y.0 s.2 ∙ y.2)

    pub names_told : AreListedInOneWay → IsTotalOrder name_cmp → map (name_with_number known.names) ns ≡ names
    names_told one total = one name_cmp total (map (name_with_number known.names) ns) names names_rise are.rising (λ x. (name_listed x, name_numbered x))

-- the names of a book's traces are below its number of names
pub names_below : (b : BookState) (known : List SegmentName) (ns : List ℕ) → IsBook b → numbers.AreNamesOf known (all_traces b.days) ns → (n : ℕ) → Contains ns n → n < b.names
names_below b known ns is told n c =
    let s = from_map number_of_name (segments_of by_number (all_traces b.days)) n ((told.exactly n).0 c) in
    let t = from_flat_map (λ (t : NamedTrace). t.segments) (all_traces b.days) s.0 s.1 in
    let k = from_flat_map (λ (k : KeptDay). k.traces) b.days t.0 t.1 in
    let day = All-contains (λ (k : KeptDay). All (HaveNamesBelow b.names) k.traces) b.days k.0 is.named k.1 in
    let trace = All-contains (HaveNamesBelow b.names) k.0.traces t.0 day k.2 in
    subst (λ (m : ℕ). m < b.names) s.2 (All-contains (λ (x : NamedSegment). x.name < b.names) t.0.segments s.0 trace t.2)

-- and so are those of the rows of a report
pub rows_below : {X : Type 0} (number : X → ℕ) (b : BookState) (known : Known) (rows items : List X) → NamesAreBelow → IsBook b → b.names ≡ length known.names → numbers.AreNamesOf known.names (all_traces b.days) (map number rows) → items ≡ rows → All (λ x. number x < length known.names) items
rows_below {X} number b known rows items below is same told all =
    let within : All (λ n. n < length known.names) (map number rows) = subst (λ (m : ℕ). All (λ n. n < m) (map number rows)) same (below b known.names (map number rows) is told) in
    subst (λ (xs : List X). All (λ x. number x < length known.names) xs) (sym all) (All-unmap (λ n. n < length known.names) number rows (λ y c. All-contains (λ n. n < length known.names) (map number rows) y within c))
