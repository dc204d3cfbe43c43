-- The first refuter by number is the first kept trace that refutes the relation by texts.
use Rattle.std.proofs.Common.{◌≡◌, ◌≢◌, ◌↔◌, ℕ, ◌<◌, ◌==◌, true, Option, Some, None, List, [], ◌∷◌, ◌++◌, length, filter, map, get_or, All, Contains, codes, decimal, refl, sym, ap, ◌∙◌, subst, arith}
use Rattle.std.specs.List.{flat_map, slice_get}
use Rattle.std.specs.Option.{is_some, option_and_then}
use Rattle.std.proofs.lemmas.Bool.{false≢true}
use Rattle.std.proofs.lemmas.List.Elements.{All-contains, All-head, All-tail, Contains-append_right, Contains-get_or}
use Rattle.std.proofs.lemmas.Option.{slice_get-get_or, slice_get_within}
use Rattle.certificates.specs.declared.matter.Matter.{Matter}
use Rattle.counterexamples.specs.Findings as findings
use Rattle.counterexamples.specs.Findings.{StandsAt}
use Rattle.counterexamples.specs.ShownClaims as claims
use Rattle.counterexamples.specs.declared.finding.Finding.{Finding}
use Rattle.counterexamples.specs.FirstRefuters.{FindingTable}
use Rattle.day_partitions.specs.Books.{AreOfDay, BookState, IsBook, KeptDay, all_traces}
use Rattle.hypothesis_index.specs.Refuting.{Refutes}
use Rattle.hypothesis_index.specs.declared.relation.Relation.{Relation}
use Rattle.book_laws.specs.Shown.{AreShown, IsShown}
use Rattle.segment_names.specs.Known.{Known}
use Rattle.session_rules.specs.CertificateTexts.{IsRefutedText, matter_fields, refuted_row}
use Rattle.session_rules.specs.KeptTraces.{Kept, day_of, is_of_day, traces_on}
use Rattle.session_rules.specs.Parts.{IsPart, RefutedOf}
use Rattle.session_rules.specs.Refutations.{IsFirstToRefute, RefutesMatter}
use Rattle.text_rows.specs.Rows.{row_of}
use Rattle.text_rows.specs.TextsOfParts.{AreTexts}
use Rattle.trace_types.specs.Surviving.{IsRefuted}
use Rattle.trace_types.specs.declared.named_trace.NamedTrace.{NamedTrace}
use Rattle.book_laws.proofs.BookLemmas.{book_days}
use Rattle.trace_types.proofs.ListingLemmas.{Contains-here}
use Rattle.trace_types.proofs.ElementLemmas.{Contains-from_get}
use Rattle.trace_types.proofs.ZipLemmas.{zip_filter, zip_length}
use Rattle.certificate_rows.specs.declared.kind.Kind.{Kind}
use Rattle.certificate_rows.specs.inner.Numbered.{matter_between, row_of_pair, refuter_row, row_of_finding, trace_at, refuted_by_row}
use Rattle.certificate_rows.specs.inner.Pairs.{refuted_pairs, refuter_between, relation_of_kind}
use Rattle.certificate_rows.specs.inner.Sources.{HasRefuters, count_of}
use Rattle.certificate_rows.proofs.BridgeLemmas.{AreLaws, AreNumbers, refuted_numbers, refutes_alike}
use Rattle.certificate_rows.proofs.DayLemmas.{all_split, before_counted, before_in, is_of, stands_before}
use Rattle.certificate_rows.proofs.ElementLemmas.{zip_right, zip_split}
use Rattle.certificate_rows.proofs.RefuterLemmas.{refuter_differs, refuter_found, refuter_told}

-- the first refuter among the kept traces, which shows the trace by number
pub record IsShownFirst (known : Known) (kept : List Kept) (matter : Matter) (trace : NamedTrace) (index : ℕ) : Type 0 where
  pub k : Kept
  pub first : IsFirstToRefute kept matter k index
  pub shown : IsShown known trace k

module _ (known : Known) (laws : AreLaws known) (b : BookState) (kept : List Kept) (is : IsBook b) (shown : AreShown known (all_traces b.days) kept) (matter : Matter) (m n : ℕ) (numbers : AreNumbers known matter m n) (differ : m ≢ n) where
  pub first_shown : (f : Finding) (first : findings.IsFirstRefuter b.days (claims.relation_between matter m n) f) → IsShownFirst known kept matter first.trace f.index
  first_shown f first =
      let d = first.stands.day in
      let t = first.trace in
      let front = before_in b.days f.place d f.index in
      let split = all_split b.days f.place f.index d t first.stands.kept first.stands.trace in
      let z = zip_split (IsShown known) front t split.0 kept (subst (λ ts. AreShown known ts kept) split.1 shown) in
      let within = slice_get_within d.traces f.index t first.stands.trace in
      let dated = All-contains (λ (x : KeptDay). AreOfDay x.day x.traces) b.days d is.dated (Contains-from_get b.days f.place d first.stands.kept) in
      let day : t.day ≡ d.day = All-contains (λ (u : NamedTrace). u.day ≡ d.day) d.traces t dated (Contains-from_get d.traces f.index t first.stands.trace) in
      let alike = refutes_alike known laws matter m n numbers differ in
      let count : length (filter (is_of d.day) front) ≡ f.index = before_counted b.days f.place f.index d (book_days b is) first.stands.kept (omega arith) in
      let zipped = zip_filter (IsShown known) (is_of d.day) (is_of_day d.day) (λ u k s. ap (λ (e : ℕ). e == d.day) s.day) front z.before z.first in
      let same_day : d.day ≡ day_of z.here = sym day ∙ z.is.day in
      record {
        k = z.here;
        first = record {
          before = z.before;
          after = z.after;
          split = z.split;
          refutes = (alike t z.here z.is).0 first.refutes;
          first = λ i e lt refutes.
              let k = get_or z.before i e in
              let u = zip_right (IsShown known) front z.before z.first k (Contains-get_or z.before i e lt) in
              let g = stands_before b.days f d first.stands.kept u.0 u.1 in
              first.first g.0 u.0 g.1 g.2 ((alike u.0 k u.2).1 refutes);
          counted = sym count ∙ (zip_length (IsShown known) (filter (is_of d.day) front) (traces_on d.day z.before) zipped ∙ ap (λ (e : ℕ). length (traces_on e z.before)) same_day);
        };
        shown = z.is;
      }

-- a first refuter refutes
refuted_there : (kept : List Kept) (matter : Matter) (k : Kept) (index : ℕ) → IsFirstToRefute kept matter k index → IsRefuted (RefutesMatter matter) kept
refuted_there kept matter k index first =
    let c : Contains kept k = subst (λ l. Contains l k) (sym first.split) (Contains-append_right first.before (k ∷ first.after) k (Contains-here k first.after k refl)) in
    (c.0, k, c.1, c.2, first.refutes)

-- the row of a trace by number is that of the kept trace
row_shown : (known : Known) (matter : Matter) (t : NamedTrace) (k : Kept) (index : ℕ) → IsShown known t k → refuted_by_row matter t index ≡ refuted_row matter k index
row_shown known matter t k index shown =
    ap (λ (d : ℕ). row_of (codes "refuted" ∷ (matter_fields matter ++ decimal d ∷ decimal index ∷ t.request ∷ []))) shown.day
    ∙ ap (λ (r : List ℕ). row_of (codes "refuted" ∷ (matter_fields matter ++ decimal (day_of k) ∷ decimal index ∷ r ∷ []))) shown.request

-- the trace that stands there
stands_there : (days : List KeptDay) (f : Finding) (t : NamedTrace) → StandsAt days f t → trace_at days f ≡ Some t
stands_there days f t stands = ap (option_and_then (λ (k : KeptDay). slice_get k.traces f.index)) stands.kept ∙ stands.trace

-- ---- one kind of relations, between texts of a catalogue
module _ {X : Type 0} (known : Known) (laws : AreLaws known) (b : BookState) (table : FindingTable) (has : HasRefuters known b table) (kept : List Kept) (shown : AreShown known (all_traces b.days) kept)
    (kind : Kind) (texts : List X) (none : X) (matter_of : X → X → Matter)
    (counts : count_of known kind ≡ length texts)
    (between : (m n : ℕ) → matter_between known kind m n ≡ matter_of (get_or texts m none) (get_or texts n none))
    (numbers : (x y : X) (m n : ℕ) → AreNumbers known (matter_of x y) m n ↔ ((slice_get texts m ≡ Some x) × (slice_get texts n ≡ Some y)))
    (relation : (x y : X) (m n : ℕ) → claims.relation_between (matter_of x y) m n ≡ relation_of_kind kind m n) where
  abbrev text : ℕ → X
  text m = get_or texts m none

  text_numbers : (m n : ℕ) → m < length texts → n < length texts → AreNumbers known (matter_of (text m) (text n)) m n
  text_numbers m n lm ln = (numbers (text m) (text n) m n).1 (slice_get-get_or texts m none lm, slice_get-get_or texts n none ln)

  module _ (m n : ℕ) (lm : m < length texts) (ln : n < length texts) where
    below_m : m < count_of known kind
    below_m = subst (λ (c : ℕ). m < c) (sym counts) lm

    below_n : n < count_of known kind
    below_n = subst (λ (c : ℕ). n < c) (sym counts) ln

    found : (f : Finding) → refuter_between table kind m n ≡ Some f → findings.IsFirstRefuter b.days (claims.relation_between (matter_of (text m) (text n)) m n) f
    found f e = subst (λ (r : Relation). findings.IsFirstRefuter b.days r f) (sym (relation (text m) (text n) m n)) (refuter_found known b table has kind m n below_m below_n f e)

    first : (f : Finding) (e : refuter_between table kind m n ≡ Some f) → IsShownFirst known kept (matter_of (text m) (text n)) (found f e).trace f.index
    first f e = first_shown known laws b kept has.kept.book shown (matter_of (text m) (text n)) m n (text_numbers m n lm ln) (refuter_differs table kind m n f e) f (found f e)

    -- a pair that has a refuter is refuted
    pub refuted_told : is_some (refuter_between table kind m n) ≡ true → IsRefuted (RefutesMatter (matter_of (text m) (text n))) kept
    refuted_told some = by (refuter_between table kind m n) refl some
      where
        by : (o : Option Finding) → refuter_between table kind m n ≡ o → is_some o ≡ true → IsRefuted (RefutesMatter (matter_of (text m) (text n))) kept
        by None e s = absurd (false≢true s)
        by (Some f) e s = let s = first f e in refuted_there kept (matter_of (text m) (text n)) s.k f.index s.first

    -- its row is that of its first refuter
    pub row_told : (f : Finding) → refuter_between table kind m n ≡ Some f → IsRefutedText kept (matter_of (text m) (text n)) (row_of_finding b.days (matter_of (text m) (text n)) (Some f))
    row_told f e =
        let s = first f e in
        record {
          trace = s.k;
          index = f.index;
          first = s.first;
          text = ap (refuter_row (matter_of (text m) (text n)) f.index) (stands_there b.days f (found f e).trace (found f e).stands) ∙ row_shown known (matter_of (text m) (text n)) (found f e).trace s.k f.index s.shown;
        }

  -- ---- what is refuted has a refuter
  pub refuted_found : (x y : X) → IsRefuted (RefutesMatter (matter_of x y)) kept → (m : ℕ) × (n : ℕ) × (slice_get texts m ≡ Some x) × (slice_get texts n ≡ Some y) × (is_some (refuter_between table kind m n) ≡ true)
  refuted_found x y (i, k, lt, at, refutes) =
      let t = zip_right (IsShown known) (all_traces b.days) kept shown k (i, lt, at) in
      let r = refuted_numbers known laws t.0 k t.2 (matter_of x y) refutes in
      let is = (numbers x y r.0 r.1).0 r.2 in
      let lm : r.0 < count_of known kind = subst (λ (c : ℕ). r.0 < c) (sym counts) (slice_get_within texts r.0 x is.0) in
      let ln : r.1 < count_of known kind = subst (λ (c : ℕ). r.1 < c) (sym counts) (slice_get_within texts r.1 y is.1) in
      let told = refuter_told known b table has kind r.0 r.1 lm ln r.3 in
      let alike = refutes_alike known laws (matter_of x y) r.0 r.1 r.2 r.3 t.0 k t.2 in
      (r.0, r.1, is.0, is.1, some_there (relation_of_kind kind r.0 r.1) t.0 t.1 (subst (λ (q : Relation). Refutes q t.0) (relation x y r.0 r.1) (alike.1 refutes)) (refuter_between table kind r.0 r.1) told.none)
    where
      some_there : (r : Relation) (t : NamedTrace) → Contains (all_traces b.days) t → Refutes r t → (o : Option Finding) → (o ≡ None) ↔ All (λ u. Refutes r u → ⊥) (all_traces b.days) → is_some o ≡ true
      some_there r t c refutes None tells = absurd (All-contains (λ u. Refutes r u → ⊥) (all_traces b.days) t (tells.0 refl) c refutes)
      some_there r t c refutes (Some f) tells = refl

  -- ---- the rows of pairs
  pub rows_told : (pairs : List (ℕ × ℕ)) → All (λ (p : ℕ × ℕ). (p.0 < length texts) × (p.1 < length texts)) pairs
      → AreTexts IsPart (map (RefutedOf kept) (map (λ (p : ℕ × ℕ). matter_of (text p.0) (text p.1)) (refuted_pairs table kind pairs))) (flat_map (row_of_pair known b.days table kind) pairs)
  rows_told [] below = refl
  rows_told (p ∷ pairs) below =
      let here = All-head (λ (q : ℕ × ℕ). (q.0 < length texts) × (q.1 < length texts)) p pairs below in
      let rest = rows_told pairs (All-tail (λ (q : ℕ × ℕ). (q.0 < length texts) × (q.1 < length texts)) p pairs below) in
      by (refuter_between table kind p.0 p.1) refl here rest
    where
      by : (o : Option Finding) → refuter_between table kind p.0 p.1 ≡ o → (p.0 < length texts) × (p.1 < length texts)
          → AreTexts IsPart (map (RefutedOf kept) (map (λ (q : ℕ × ℕ). matter_of (text q.0) (text q.1)) (refuted_pairs table kind pairs))) (flat_map (row_of_pair known b.days table kind) pairs)
          → AreTexts IsPart (map (RefutedOf kept) (map (λ (q : ℕ × ℕ). matter_of (text q.0) (text q.1)) (refuted_pairs table kind (p ∷ pairs)))) (flat_map (row_of_pair known b.days table kind) (p ∷ pairs))
      by None e here rest = rw e rest
      by (Some f) e here rest = rw e
          (row_of_finding b.days (matter_of (text p.0) (text p.1)) (Some f), flat_map (row_of_pair known b.days table kind) pairs, row_told p.0 p.1 here.0 here.1 f e, rest, ap (λ (mt : Matter). row_of_finding b.days mt (Some f) ++ flat_map (row_of_pair known b.days table kind) pairs) (between p.0 p.1))
