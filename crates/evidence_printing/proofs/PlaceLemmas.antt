-- Where the traces of days stand is where the kept traces stand among those of their days.
use Rattle.std.proofs.Common.{◌≡◌, ℕ, zero, suc, ◌+◌, ◌<◌, ◌==◌, Bool, true, false, List, [], ◌∷◌, ◌++◌, length, take, filter, All, decimal, get_or, slice_get, refl, sym, ap, ◌∙◌, subst, arith}
use Rattle.std.specs.List.{AllZip}
use Rattle.std.proofs.lemmas.Bool.{cond-false, cond-true, eq-eqb, ne_eqb}
use Rattle.std.proofs.lemmas.List.{append-nil, append_assoc, length-append}
use Rattle.std.proofs.lemmas.List.Elements.{All-head, All-tail, filter-append}
use Rattle.book_laws.specs.Shown.{AreShown, IsShown}
use Rattle.book_laws.proofs.BookLemmas.{AreDays, days_tail, own_day, pairs_head}
use Rattle.day_partitions.specs.Books.{AreOfDay, KeptDay, all_traces}
use Rattle.evidence_rules.specs.RowTexts.{fields_at}
use Rattle.segment_names.specs.Known.{Known}
use Rattle.session_rules.specs.EvidenceTexts.{place_fields}
use Rattle.session_rules.specs.KeptTraces.{Kept, day_of, is_of_day, traces_on}
use Rattle.trace_types.specs.declared.named_trace.NamedTrace.{NamedTrace}
use Rattle.evidence_printing.specs.inner.Places.{places_from, places_of}

-- ---- kept traces behind others
abbrev pub fields : List Kept → Kept → List (List ℕ)
fields before k = decimal (day_of k) ∷ decimal (length (traces_on (day_of k) before)) ∷ k.trace.request ∷ []

abbrev kept_places : List Kept → List Kept → List (List (List ℕ))
kept_places before [] = []
kept_places before (k ∷ ks) = fields before k ∷ kept_places (before ++ k ∷ []) ks

at_place : (before ks : List Kept) (i : ℕ) → fields_at (λ f. f) (slice_get (kept_places before ks) i) ≡ fields_at (fields (before ++ take i ks)) (slice_get ks i)
at_place before [] i = refl
at_place before (k ∷ ks) zero = ap (λ (l : List Kept). fields l k) (sym (append-nil before))
at_place before (k ∷ ks) (suc i) = at_place (before ++ k ∷ []) ks i ∙ ap (λ (l : List Kept). fields_at (fields l) (slice_get ks i)) (append_assoc before (k ∷ []) (take i ks))

kept_more : (before ks ls : List Kept) → kept_places before (ks ++ ls) ≡ kept_places before ks ++ kept_places (before ++ ks) ls
kept_more before [] ls = ap (λ (l : List Kept). kept_places l ls) (sym (append-nil before))
kept_more before (k ∷ ks) ls = ap (λ l. fields before k ∷ l) (kept_more (before ++ k ∷ []) ks ls
    ∙ ap (λ (l : List Kept). kept_places (before ++ k ∷ []) ks ++ kept_places l ls) (append_assoc before (k ∷ []) ks))

-- ---- how many are of a day
one_of_day : (d : ℕ) (before : List Kept) (k : Kept) → day_of k ≡ d → length (traces_on d (before ++ k ∷ [])) ≡ length (traces_on d before) + 1
one_of_day d before k e =
    ap length (filter-append (is_of_day d) before (k ∷ []))
    ∙ (length-append (filter (is_of_day d) before) (filter (is_of_day d) (k ∷ []))
    ∙ ap (λ (l : List Kept). length (filter (is_of_day d) before) + length l) (cond-true (is_of_day d k) (k ∷ []) [] (eq-eqb (day_of k) d e)))

none_of_day : (d : ℕ) (before : List Kept) (k : Kept) → (day_of k ≡ d → ⊥) → length (traces_on d (before ++ k ∷ [])) ≡ length (traces_on d before)
none_of_day d before k n =
    ap length (filter-append (is_of_day d) before (k ∷ []))
    ∙ (ap (λ (l : List Kept). length (filter (is_of_day d) before ++ l)) (cond-false (is_of_day d k) (k ∷ []) [] (ne_eqb (day_of k) d n))
    ∙ ap length (append-nil (filter (is_of_day d) before)))

module _ (known : Known) where
  -- traces of one day
  day_places : (d : ℕ) (ts : List NamedTrace) (ks before : List Kept) (index : ℕ) → AreOfDay d ts → AreShown known ts ks → length (traces_on d before) ≡ index → kept_places before ks ≡ places_from index ts
  day_places d [] [] before index of shown e = refl
  day_places d [] (k ∷ ks) before index of shown e = absurd shown
  day_places d (t ∷ ts) [] before index of shown e = absurd shown
  day_places d (t ∷ ts) (k ∷ ks) before index of shown e =
      let own : t.day ≡ d = All-head (λ (x : NamedTrace). x.day ≡ d) t ts of in
      let is : day_of k ≡ d = sym shown.0.day ∙ own in
      let rest = day_places d ts ks (before ++ k ∷ []) (index + 1) (All-tail (λ (x : NamedTrace). x.day ≡ d) t ts of) shown.1 (one_of_day d before k is ∙ ap (λ (n : ℕ). n + 1) e) in
      let same : fields before k ≡ decimal t.day ∷ decimal index ∷ t.request ∷ [] =
      ap (λ (n : ℕ). decimal (day_of k) ∷ decimal (length (traces_on n before)) ∷ k.trace.request ∷ []) is
      ∙ (ap (λ (n : ℕ). decimal (day_of k) ∷ decimal n ∷ k.trace.request ∷ []) e
      ∙ (ap (λ (n : ℕ). decimal n ∷ decimal index ∷ k.trace.request ∷ []) (sym shown.0.day)
      ∙ ap (λ (r : List ℕ). decimal t.day ∷ decimal index ∷ r ∷ []) (sym shown.0.request))) in
      ap (λ f. f ∷ kept_places (before ++ k ∷ []) ks) same ∙ ap (λ l. (decimal t.day ∷ decimal index ∷ t.request ∷ []) ∷ l) rest

  -- they are of no other
  other_day : (d e : ℕ) → (d ≡ e → ⊥) → (ts : List NamedTrace) (ks before : List Kept) → AreOfDay d ts → AreShown known ts ks → length (traces_on e (before ++ ks)) ≡ length (traces_on e before)
  other_day d e n [] [] before of shown = ap (λ (l : List Kept). length (traces_on e l)) (append-nil before)
  other_day d e n [] (k ∷ ks) before of shown = absurd shown
  other_day d e n (t ∷ ts) [] before of shown = absurd shown
  other_day d e n (t ∷ ts) (k ∷ ks) before of shown =
      let own : t.day ≡ d = All-head (λ (x : NamedTrace). x.day ≡ d) t ts of in
      let is : day_of k ≡ d = sym shown.0.day ∙ own in
      ap (λ (l : List Kept). length (traces_on e l)) (sym (append_assoc before (k ∷ []) ks))
      ∙ (other_day d e n ts ks (before ++ k ∷ []) (All-tail (λ (x : NamedTrace). x.day ≡ d) t ts of) shown.1
      ∙ none_of_day e before k (λ f. n (sym is ∙ f)))

  zip_split : (xs ys : List NamedTrace) (ks : List Kept) → AreShown known (xs ++ ys) ks → (us : List Kept) × (vs : List Kept) × (ks ≡ us ++ vs) × AreShown known xs us × AreShown known ys vs
  zip_split [] ys ks z = ([], ks, refl, tt, z)
  zip_split (x ∷ xs) ys [] z = absurd z
  zip_split (x ∷ xs) ys (k ∷ ks) z = let r = zip_split xs ys ks z.1 in (k ∷ r.0, r.1, ap (λ l. k ∷ l) r.2, (z.0, r.3), r.4)

  -- the traces before are of none of the days
  abbrev NoneOf : List Kept → List KeptDay → Type 0
  NoneOf before days = All (λ (k : KeptDay). length (traces_on k.day before) ≡ 0) days

  days_places : (days : List KeptDay) → AreDays days → (kept before : List Kept) → AreShown known (all_traces days) kept → NoneOf before days → kept_places before kept ≡ places_of days
  days_places [] are [] before shown none = refl
  days_places [] are (k ∷ ks) before shown none = absurd shown
  days_places (day ∷ days) are kept before shown none =
      let s = zip_split day.traces (all_traces days) kept shown in
      let own = own_day day days are in
      let first = day_places day.day day.traces s.0 before 0 own s.3 (All-head (λ (k : KeptDay). length (traces_on k.day before) ≡ 0) day days none) in
      let above = pairs_head day days are.rising in
      let rest = All-tail (λ (k : KeptDay). length (traces_on k.day before) ≡ 0) day days none in
      let later : NoneOf (before ++ s.0) days = λ i d lt.
      other_day day.day (get_or days i d).day (let l = above i d lt in (λ e. omega (arith, l, e))) day.traces s.0 before own s.3 ∙ rest i d lt in
      ap (kept_places before) s.2
      ∙ (kept_more before s.0 s.1
      ∙ (ap (λ l. l ++ kept_places (before ++ s.0) s.1) first
      ∙ ap (λ l. places_from 0 day.traces ++ l) (days_places days (days_tail day days are) s.1 (before ++ s.0) s.4 later)))

  pub places_are : (days : List KeptDay) → AreDays days → (kept : List Kept) → AreShown known (all_traces days) kept → (i : ℕ) → fields_at (λ f. f) (slice_get (places_of days) i) ≡ place_fields kept i
  places_are days are kept shown i = ap (λ (l : List (List (List ℕ))). fields_at (λ f. f) (slice_get l i)) (sym (days_places days are kept [] shown (λ k d lt. refl))) ∙ at_place [] kept i

-- each trace stands somewhere
from_long : (index : ℕ) (ts : List NamedTrace) → length (places_from index ts) ≡ length ts
from_long index [] = refl
from_long index (t ∷ ts) = ap (λ (n : ℕ). suc n) (from_long (index + 1) ts)

pub places_long : (days : List KeptDay) → length (places_of days) ≡ length (all_traces days)
places_long [] = refl
places_long (day ∷ days) =
    let a = length-append (places_from 0 day.traces) (places_of days) in
    let b = length-append day.traces (all_traces days) in
    let c = from_long 0 day.traces in
    let d = places_long days in
    omega (arith, a, b, c, d)
