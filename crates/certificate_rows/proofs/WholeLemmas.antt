-- A whole certificate by number is that of the kept traces.
use Rattle.std.proofs.Common.{◌≡◌, ◌↔◌, ℕ, ◌<◌, Some, List, [], ◌∷◌, ◌++◌, length, map, get_or, All, Contains, refl, sym, ap, ◌∙◌, subst, append_assoc, arith, Ordering}
use Rattle.std.specs.declared.cmp.Ordering.TheVariants.{Less}
use Rattle.std.specs.Cmp.{IsTotalOrder}
use Rattle.std.specs.Cmp.Lexicographic.{slice_cmp}
use Rattle.std.specs.Ordering.{nat_cmp}
use Rattle.std.specs.List.{AllPairs, slice_get}
use Rattle.std.specs.Option.{is_some}
use Rattle.std.proofs.lemmas.List.{length-append, length-map, map-append}
use Rattle.std.proofs.lemmas.List.Elements.{Contains-get_or}
use Rattle.std.proofs.lemmas.Option.{get_or_from_slice_get, slice_get_within}
use Rattle.certificates.specs.declared.matter.Matter.{Matter}
use Rattle.certificates.specs.declared.matter.Matter.TheVariants as matter
use Rattle.counterexamples.specs.FirstRefuters.{FindingTable}
use Rattle.day_partitions.specs.Books.{BookState, all_traces}
use Rattle.book_laws.specs.Shown.{AreShown, IsShown}
use Rattle.segment_names.specs.Known.{Known}
use Rattle.session_rules.specs.CertificateTexts.{why_row}
use Rattle.session_rules.specs.KeptTraces.{Kept}
use Rattle.session_rules.specs.Parts.{IsPart, Part, RefutedOf}
use Rattle.session_rules.specs.Refutations.{AreRefutations, Refutations, RefutesMatter, matters_of}
use Rattle.session_rules.specs.Sessions.{why_parts}
use Rattle.text_rows.specs.TextsOfParts.{AreTexts}
use Rattle.trace_types.specs.Listing.{ListsExactly}
use Rattle.trace_types.specs.NameOrder.{name_cmp, pair_cmp}
use Rattle.trace_types.specs.Segments.{SegmentName}
use Rattle.trace_types.specs.Surviving.{IsRefuted}
use Rattle.trace_types.proofs.ListingLemmas.{name_total, pair_total}
use Rattle.trace_types.proofs.ComparingLemmas.{text_total}
use Rattle.trace_types.proofs.ElementLemmas.{map_twice}
use Rattle.trace_types.proofs.ZipLemmas.{zip_length}
use Rattle.certificate_rows.specs.declared.kind.Kind.{Kind}
use Rattle.certificate_rows.specs.declared.kind.Kind.TheVariants.{Before, Exclusive, Pipe}
use Rattle.certificate_rows.specs.inner.Numbered.{kind_count, kind_rows}
use Rattle.certificate_rows.specs.Orders.{name_number_cmp, numbered_name, numbered_task, task_number_cmp}
use Rattle.certificate_rows.specs.inner.Pairs.{pairs_of, refuted_pairs, refuter_between}
use Rattle.certificate_rows.specs.inner.Sources.{HasRefuters}
use Rattle.certificate_rows.specs.inner.Wholes.{certificate_text, refuted_count, refuted_rows}
use Rattle.certificate_rows.proofs.BridgeLemmas.{AreLaws}
use Rattle.certificate_rows.proofs.FirstLemmas.{refuted_found, refuted_told, rows_told}
use Rattle.certificate_rows.proofs.PairLemmas.{IsAsked, asked_to, pairs_listed, texts_of}

-- a text of some parts and one of others are one of both
texts_more : (ps qs : List Part) (a b : List ℕ) → AreTexts IsPart ps a → AreTexts IsPart qs b → AreTexts IsPart (ps ++ qs) (a ++ b)
texts_more [] qs a b h k = rw h k
texts_more (p ∷ ps) qs a b h k = (h.0, h.1 ++ b, h.2, texts_more ps qs h.1 b h.3 k, ap (λ t. t ++ b) h.4 ∙ append_assoc h.0 h.1 b)

-- elements are listed in rising order in one way
abbrev pub AreListedInOneWay : Type 0 → Type 0
AreListedInOneWay X = (cmp : X → X → Ordering) → IsTotalOrder cmp → (xs ys : List X) → AllPairs (λ x y. cmp x y ≡ Less) xs → AllPairs (λ x y. cmp x y ≡ Less) ys → ((x : X) → Contains xs x ↔ Contains ys x) → xs ≡ ys

one_way : {X : Type 0} (cmp : X → X → Ordering) (P : X → Type 0) → AreListedInOneWay X → IsTotalOrder cmp → (xs ys : List X) → ListsExactly cmp P xs → ListsExactly cmp P ys → xs ≡ ys
one_way cmp P one total xs ys p q = one cmp total xs ys p.rising q.rising (λ x. ((λ c. (q.exactly x).1 ((p.exactly x).0 c)), (λ c. (p.exactly x).1 ((q.exactly x).0 c))))

-- what holds of all numbers holds of both of each pair
asked_all : {X : Type 0} (cmp : X → X → Ordering) (total : IsTotalOrder cmp) (text : ℕ → X) (kind : Kind) (all : List ℕ) (P : ℕ → Type 0) → AllPairs (λ m n. cmp (text m) (text n) ≡ Less) all → ((n : ℕ) → Contains all n → P n)
    → ((m n : ℕ) → IsAsked cmp total text kind all m n → Contains all m × Contains all n) → All (λ (p : ℕ × ℕ). P p.0 × P p.1) (pairs_of kind all all)
asked_all cmp total text kind all P rising holds both i d lt =
    let p = get_or (pairs_of kind all all) i d in
    let h = both p.0 p.1 (asked_to cmp total text kind all rising p.0 p.1 (Contains-get_or (pairs_of kind all all) i d lt)) in
    (holds p.0 h.0, holds p.1 h.1)

module _ (known : Known) (laws : AreLaws known) (b : BookState) (table : FindingTable) (has : HasRefuters known b table) (kept : List Kept) (shown : AreShown known (all_traces b.days) kept)
    (names tasks : List ℕ) (ns : ListsExactly (name_number_cmp known) (λ n. n < length known.names) names) (ts : ListsExactly (task_number_cmp known) (λ n. n < length known.tasks) tasks)
    (refuted : Refutations) (are : AreRefutations kept refuted) (one_name : AreListedInOneWay (SegmentName × SegmentName)) (one_task : AreListedInOneWay (List ℕ × List ℕ)) where
  -- ---- names
  name_within : (n : ℕ) (x : SegmentName) → slice_get known.names n ≡ Some x → Contains names n × (numbered_name known n ≡ x)
  name_within n x at = ((ns.exactly n).1 (slice_get_within known.names n x at), get_or_from_slice_get known.names n x ([], [], []) at)

  before_listed : map (texts_of name_cmp name_total (numbered_name known)) (refuted_pairs table Before (pairs_of Before names names)) ≡ refuted.before
  before_listed =
      let told = refuted_told known laws b table has kept shown Before known.names ([], [], []) matter.Before refl (λ m n. refl) (λ x y m n. ((λ h. h), (λ h. h))) (λ x y m n. refl) in
      let found = refuted_found known laws b table has kept shown Before known.names ([], [], []) matter.Before refl (λ m n. refl) (λ x y m n. ((λ h. h), (λ h. h))) (λ x y m n. refl) in
      one_way (pair_cmp name_cmp) (λ pair. IsRefuted (RefutesMatter (matter.Before pair.0 pair.1)) kept) one_name (pair_total name_cmp name_total) _ refuted.before
      (pairs_listed name_cmp name_total (numbered_name known) Before names (λ p. is_some (refuter_between table Before p.0 p.1)) (λ pair. IsRefuted (RefutesMatter (matter.Before pair.0 pair.1)) kept) ns.rising
      (λ m n asked test. told m n ((ns.exactly m).0 asked.0) ((ns.exactly n).0 asked.1) test)
      (λ x r.
      let f = found x.0 x.1 r in
      let one = name_within f.0 x.0 f.2 in
      let other = name_within f.1 x.1 f.3 in
      (f.0, f.1, (one.0, other.0), f.4, one.1, other.1)))
      are.before

  exclusive_listed : map (texts_of name_cmp name_total (numbered_name known)) (refuted_pairs table Exclusive (pairs_of Exclusive names names)) ≡ refuted.exclusive
  exclusive_listed =
      let told = refuted_told known laws b table has kept shown Exclusive known.names ([], [], []) matter.Exclusive refl (λ m n. refl) (λ x y m n. ((λ h. h), (λ h. h))) (λ x y m n. refl) in
      let found = refuted_found known laws b table has kept shown Exclusive known.names ([], [], []) matter.Exclusive refl (λ m n. refl) (λ x y m n. ((λ h. h), (λ h. h))) (λ x y m n. refl) in
      let P : SegmentName × SegmentName → Type 0 = λ pair. (name_cmp pair.0 pair.1 ≡ Less) × IsRefuted (RefutesMatter (matter.Exclusive pair.0 pair.1)) kept in
      one_way (pair_cmp name_cmp) P one_name (pair_total name_cmp name_total) _ refuted.exclusive
      (pairs_listed name_cmp name_total (numbered_name known) Exclusive names (λ p. is_some (refuter_between table Exclusive p.0 p.1)) P ns.rising
      (λ m n asked test. (asked.2, told m n ((ns.exactly m).0 asked.0) ((ns.exactly n).0 asked.1) test))
      (λ x r.
      let f = found x.0 x.1 r.1 in
      let one = name_within f.0 x.0 f.2 in
      let other = name_within f.1 x.1 f.3 in
      let rises : name_cmp (numbered_name known f.0) (numbered_name known f.1) ≡ Less = rw (one.1, other.1) r.0 in
      (f.0, f.1, (one.0, other.0, rises), f.4, one.1, other.1)))
      are.exclusive

  -- ---- tasks
  task_within : (n : ℕ) (x : List ℕ) → slice_get known.tasks n ≡ Some x → Contains tasks n × (numbered_task known n ≡ x)
  task_within n x at = ((ts.exactly n).1 (slice_get_within known.tasks n x at), get_or_from_slice_get known.tasks n x [] at)

  pipe_listed : map (texts_of (slice_cmp nat_cmp) text_total (numbered_task known)) (refuted_pairs table Pipe (pairs_of Pipe tasks tasks)) ≡ refuted.pipe
  pipe_listed =
      let told = refuted_told known laws b table has kept shown Pipe known.tasks [] matter.Pipe refl (λ m n. refl) (λ x y m n. ((λ h. h), (λ h. h))) (λ x y m n. refl) in
      let found = refuted_found known laws b table has kept shown Pipe known.tasks [] matter.Pipe refl (λ m n. refl) (λ x y m n. ((λ h. h), (λ h. h))) (λ x y m n. refl) in
      one_way (pair_cmp (slice_cmp nat_cmp)) (λ pair. IsRefuted (RefutesMatter (matter.Pipe pair.0 pair.1)) kept) one_task (pair_total (slice_cmp nat_cmp) text_total) _ refuted.pipe
      (pairs_listed (slice_cmp nat_cmp) text_total (numbered_task known) Pipe tasks (λ p. is_some (refuter_between table Pipe p.0 p.1)) (λ pair. IsRefuted (RefutesMatter (matter.Pipe pair.0 pair.1)) kept) ts.rising
      (λ m n asked test. told m n ((ts.exactly m).0 asked.0) ((ts.exactly n).0 asked.1) test)
      (λ x r.
      let f = found x.0 x.1 r in
      let one = task_within f.0 x.0 f.2 in
      let other = task_within f.1 x.1 f.3 in
      (f.0, f.1, (one.0, other.0), f.4, one.1, other.1)))
      are.pipe

  -- ---- how many there are
  counted : refuted_count table names tasks ≡ length (matters_of refuted)
  counted =
      let before : kind_count table Before names ≡ length refuted.before = sym (length-map (refuted_pairs table Before (pairs_of Before names names)) (texts_of name_cmp name_total (numbered_name known))) ∙ ap length before_listed in
      let exclusive : kind_count table Exclusive names ≡ length refuted.exclusive = sym (length-map (refuted_pairs table Exclusive (pairs_of Exclusive names names)) (texts_of name_cmp name_total (numbered_name known))) ∙ ap length exclusive_listed in
      let pipe : kind_count table Pipe tasks ≡ length refuted.pipe = sym (length-map (refuted_pairs table Pipe (pairs_of Pipe tasks tasks)) (texts_of (slice_cmp nat_cmp) text_total (numbered_task known))) ∙ ap length pipe_listed in
      let first : List Matter = map (λ pair. matter.Before pair.0 pair.1) refuted.before in
      let second : List Matter = map (λ pair. matter.Exclusive pair.0 pair.1) refuted.exclusive in
      let third : List Matter = map (λ pair. matter.Pipe pair.0 pair.1) refuted.pipe in
      let sizes = length-append first (second ++ third) in
      let others = length-append second third in
      let one : length first ≡ length refuted.before = length-map refuted.before (λ pair. matter.Before pair.0 pair.1) in
      let two : length second ≡ length refuted.exclusive = length-map refuted.exclusive (λ pair. matter.Exclusive pair.0 pair.1) in
      let three : length third ≡ length refuted.pipe = length-map refuted.pipe (λ pair. matter.Pipe pair.0 pair.1) in
      omega (arith, before, exclusive, pipe, sizes, others, one, two, three)

  -- ---- the rows
  before_told : AreTexts IsPart (map (RefutedOf kept) (map (λ pair. matter.Before pair.0 pair.1) refuted.before)) (kind_rows known b.days table Before names)
  before_told =
      let texts = texts_of name_cmp name_total (numbered_name known) in
      let pairs = refuted_pairs table Before (pairs_of Before names names) in
      let same : map (λ (p : ℕ × ℕ). matter.Before (numbered_name known p.0) (numbered_name known p.1)) pairs ≡ map (λ pair. matter.Before pair.0 pair.1) refuted.before = sym (map_twice (λ (pair : SegmentName × SegmentName). matter.Before pair.0 pair.1) texts pairs) ∙ ap (map (λ (pair : SegmentName × SegmentName). matter.Before pair.0 pair.1)) before_listed in
      subst (λ ms. AreTexts IsPart (map (RefutedOf kept) ms) (kind_rows known b.days table Before names)) same
      (rows_told known laws b table has kept shown Before known.names ([], [], []) matter.Before refl (λ m n. refl) (λ x y m n. ((λ h. h), (λ h. h))) (λ x y m n. refl) (pairs_of Before names names)
      (asked_all name_cmp name_total (numbered_name known) Before names (λ n. n < length known.names) ns.rising (λ n c. (ns.exactly n).0 c) (λ m n h. h)))

  exclusive_told : AreTexts IsPart (map (RefutedOf kept) (map (λ pair. matter.Exclusive pair.0 pair.1) refuted.exclusive)) (kind_rows known b.days table Exclusive names)
  exclusive_told =
      let texts = texts_of name_cmp name_total (numbered_name known) in
      let pairs = refuted_pairs table Exclusive (pairs_of Exclusive names names) in
      let same : map (λ (p : ℕ × ℕ). matter.Exclusive (numbered_name known p.0) (numbered_name known p.1)) pairs ≡ map (λ pair. matter.Exclusive pair.0 pair.1) refuted.exclusive = sym (map_twice (λ (pair : SegmentName × SegmentName). matter.Exclusive pair.0 pair.1) texts pairs) ∙ ap (map (λ (pair : SegmentName × SegmentName). matter.Exclusive pair.0 pair.1)) exclusive_listed in
      subst (λ ms. AreTexts IsPart (map (RefutedOf kept) ms) (kind_rows known b.days table Exclusive names)) same
      (rows_told known laws b table has kept shown Exclusive known.names ([], [], []) matter.Exclusive refl (λ m n. refl) (λ x y m n. ((λ h. h), (λ h. h))) (λ x y m n. refl) (pairs_of Exclusive names names)
      (asked_all name_cmp name_total (numbered_name known) Exclusive names (λ n. n < length known.names) ns.rising (λ n c. (ns.exactly n).0 c) (λ m n h. (h.0, h.1))))

  pipe_told : AreTexts IsPart (map (RefutedOf kept) (map (λ pair. matter.Pipe pair.0 pair.1) refuted.pipe)) (kind_rows known b.days table Pipe tasks)
  pipe_told =
      let texts = texts_of (slice_cmp nat_cmp) text_total (numbered_task known) in
      let pairs = refuted_pairs table Pipe (pairs_of Pipe tasks tasks) in
      let same : map (λ (p : ℕ × ℕ). matter.Pipe (numbered_task known p.0) (numbered_task known p.1)) pairs ≡ map (λ pair. matter.Pipe pair.0 pair.1) refuted.pipe = sym (map_twice (λ (pair : List ℕ × List ℕ). matter.Pipe pair.0 pair.1) texts pairs) ∙ ap (map (λ (pair : List ℕ × List ℕ). matter.Pipe pair.0 pair.1)) pipe_listed in
      subst (λ ms. AreTexts IsPart (map (RefutedOf kept) ms) (kind_rows known b.days table Pipe tasks)) same
      (rows_told known laws b table has kept shown Pipe known.tasks [] matter.Pipe refl (λ m n. refl) (λ x y m n. ((λ h. h), (λ h. h))) (λ x y m n. refl) (pairs_of Pipe tasks tasks)
      (asked_all (slice_cmp nat_cmp) text_total (numbered_task known) Pipe tasks (λ n. n < length known.tasks) ts.rising (λ n c. (ts.exactly n).0 c) (λ m n h. h)))

  -- ---- the whole
  pub whole_told : AreTexts IsPart (why_parts kept refuted) (certificate_text known b.days table names tasks)
  whole_told =
      let first : List Matter = map (λ pair. matter.Before pair.0 pair.1) refuted.before in
      let second : List Matter = map (λ pair. matter.Exclusive pair.0 pair.1) refuted.exclusive in
      let third : List Matter = map (λ pair. matter.Pipe pair.0 pair.1) refuted.pipe in
      let head : why_row (length (all_traces b.days)) (refuted_count table names tasks) ≡ why_row (length kept) (length (matters_of refuted)) =
      ap (λ (n : ℕ). why_row n (refuted_count table names tasks)) (zip_length (IsShown known) (all_traces b.days) kept shown) ∙ ap (λ (n : ℕ). why_row (length kept) n) counted in
      let split : map (RefutedOf kept) (matters_of refuted) ≡ map (RefutedOf kept) first ++ (map (RefutedOf kept) second ++ map (RefutedOf kept) third) =
      map-append (RefutedOf kept) first (second ++ third) ∙ ap (λ l. map (RefutedOf kept) first ++ l) (map-append (RefutedOf kept) second third) in
      let rows : AreTexts IsPart (map (RefutedOf kept) (matters_of refuted)) (refuted_rows known b.days table names tasks) =
      subst (λ ps. AreTexts IsPart ps (refuted_rows known b.days table names tasks)) (sym split)
      (texts_more (map (RefutedOf kept) first) (map (RefutedOf kept) second ++ map (RefutedOf kept) third) (kind_rows known b.days table Before names) (kind_rows known b.days table Exclusive names ++ kind_rows known b.days table Pipe tasks) before_told
      (texts_more (map (RefutedOf kept) second) (map (RefutedOf kept) third) (kind_rows known b.days table Exclusive names) (kind_rows known b.days table Pipe tasks) exclusive_told pipe_told)) in
      (why_row (length (all_traces b.days)) (refuted_count table names tasks), refuted_rows known b.days table names tasks, head, rows, refl)
