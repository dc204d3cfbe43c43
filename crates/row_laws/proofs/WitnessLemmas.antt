-- A row `nearly` names the trace that a certificate names.
use Rattle.std.proofs.Common.{◌≡◌, ◌↔◌, ℕ, zero, suc, ◌+◌, ◌<◌, Bool, true, false, cond, Some, List, [], ◌∷◌, ◌++◌, length, slice_get, take, count_by, Contains, refl, sym, ap, ◌∙◌, subst, arith, ⊎_elim}
use Rattle.std.specs.Prelude.{codes, decimal}
use Rattle.std.proofs.lemmas.Bool.{cases_order}
use Rattle.std.proofs.lemmas.List.Elements.{All-contains, Contains-append_left, Contains-append_right}
use Rattle.std.proofs.lemmas.List.Sums.{sum_by-cons}
use Rattle.std.proofs.lemmas.Option.{same_Some, slice_get_within}
use Rattle.certificates.specs.declared.matter.Matter.{Matter}
use Rattle.certificates.specs.declared.matter.Matter.TheVariants.{Before, Exclusive, Pipe}
use Rattle.text_rows.specs.Rows.{row_of}
use Rattle.trace_types.specs.NameOrder.{name_cmp}
use Rattle.trace_types.specs.Pipelines.{RefutesPipe}
use Rattle.trace_types.specs.Refuting.{RefutesBefore, RefutesExclusive}
use Rattle.trace_types.proofs.ComparingLemmas.{less_differs}
use Rattle.trace_types.proofs.ElementLemmas.{one_item}
use Rattle.trace_types.proofs.ListingLemmas.{Contains-cons, Contains-here, Contains-nil, name_total}
use Rattle.trace_types.proofs.MatchLemmas.{partner_in}
use Rattle.trace_types.proofs.PuttingLemmas.{all_contained}
use Rattle.segment_names.specs.Known.{same_name}
use Rattle.evidence_rules.specs.RowTexts.{fields_at}
use Rattle.evidence_rules.specs.Sharings.{AreVerdicts, first_true}
use Rattle.evidence_rules.specs.declared.pair_row.PairRow.{PairRow}
use Rattle.evidence_laws.specs.FirstLaws.{FirstBothIsFirst, FirstEarlyIsFirst, IsFirstWith}
use Rattle.session_rules.specs.CertificateTexts.{matter_fields}
use Rattle.session_rules.specs.EvidenceTexts.{place_fields}
use Rattle.session_rules.specs.KeptTraces.{Kept, by_kept, day_of, traces_on}
use Rattle.session_rules.specs.Refutations.{IsFirstToRefute, RefutesMatter}
use Rattle.row_laws.specs.NamedRows.{NameExactly, NamesTwo}
use Rattle.row_laws.specs.ModelRows.{NamesMeet, TasksMeet}
use Rattle.row_laws.specs.NearlyRows.{IsNearlyExclusion, IsNearlyOrder, IsNearlyPipe, NearlyExclusionRowsAreFew, NearlyOrderRowsAreFew, NearlyPipeRowsAreFew}
use Rattle.row_laws.specs.RowFigures.{NameRowsAreMet, NameRowsCountTraces, TaskRowsAreShared}
use Rattle.row_laws.specs.TraceCounts.{AreSoMany}
use Rattle.row_laws.specs.WitnessRows.{IsNamedByWhy, NearlyExclusionsNameWitness, NearlyOrdersNameWitness, NearlyPipesNameWitness}
use Rattle.row_laws.proofs.CountLemmas.{so_many_one}
use Rattle.row_laws.proofs.KeptLemmas.{same_names}

-- ---- what stands before an element
module _ {X : Type 0} where
  split_at : (xs : List X) (i : ℕ) (x : X) → slice_get xs i ≡ Some x → (back : List X) × (xs ≡ take i xs ++ x ∷ back)
  split_at [] i x e = let lt = slice_get_within [] i x e in absurd (omega arith)
  split_at (y ∷ ys) zero x e = (ys, ap (λ v. v ∷ ys) (same_Some y x e))
  split_at (y ∷ ys) (suc i) x e = let s = split_at ys i x e in (s.0, ap (λ l. y ∷ l) s.1)

  at_split : (front : List X) (x : X) (back : List X) → slice_get (front ++ x ∷ back) (length front) ≡ Some x
  at_split [] x back = refl
  at_split (y ∷ front) x back = at_split front x back

  take_split : (front rest : List X) → take (length front) (front ++ rest) ≡ front
  take_split [] rest = refl
  take_split (y ∷ front) rest = ap (λ l. y ∷ l) (take_split front rest)

  in_split : (front rest : List X) (i : ℕ) (x : X) → i < length front → slice_get (front ++ rest) i ≡ Some x → Contains front x
  in_split [] rest i x lt e = absurd (omega arith)
  in_split (y ∷ front) rest zero x lt e = Contains-here y front x (same_Some y x e)
  in_split (y ∷ front) rest (suc i) x lt e = Contains-cons y front x (in_split front rest i x (omega (arith, lt)) e)

  in_take : (xs : List X) (i : ℕ) (x : X) → Contains (take i xs) x → (k : ℕ) × (k < i) × (slice_get xs k ≡ Some x)
  in_take xs zero x c = absurd (Contains-nil x c)
  in_take [] (suc i) x c = absurd (Contains-nil x c)
  in_take (y ∷ xs) (suc i) x (zero, lt, e) = (0, omega arith, ap Some e)
  in_take (y ∷ xs) (suc i) x (suc k, lt, e) = let r = in_take xs i x (k, omega (arith, lt), e) in (suc r.0, omega (arith, r.1), r.2)

-- ---- the first that refutes
module _ (kept : List Kept) (matter : Matter) (P : Kept → Type 0) (means : (k : Kept) → P k ↔ RefutesMatter matter k) (index : ℕ) (is : IsFirstWith P kept index) where
  abbrev fields_of : List Kept → Kept → List (List ℕ)
  fields_of front k = decimal (day_of k) ∷ decimal (length (traces_on (day_of k) front)) ∷ k.trace.request ∷ []

  named : place_fields kept index ≡ fields_of (take index kept) is.trace
  named = ap (fields_at (fields_of (take index kept))) is.at

  first : IsFirstToRefute kept matter is.trace (length (traces_on (day_of is.trace) (take index kept)))
  first =
      let split = split_at kept index is.trace is.at in
      record {
        before = take index kept;
        after = split.0;
        split = split.1;
        refutes = (means is.trace).0 is.has;
        first = all_contained (λ (b : Kept). RefutesMatter matter b → ⊥) (take index kept) (λ b c r. let p = in_take kept index b c in is.first p.0 b p.1 p.2 ((means b).1 r));
        counted = refl;
      }

  module _ (k : Kept) (n : ℕ) (other : IsFirstToRefute kept matter k n) where
    there : slice_get kept (length other.before) ≡ Some k
    there = subst (λ (l : List Kept). slice_get l (length other.before) ≡ Some k) (sym other.split) (at_split other.before k other.after)

    one_index : length other.before ≡ index
    one_index = ⊎_elim (λ (e : length other.before ≡ index). e)
        (⊎_elim
        (λ (l : length other.before < index). absurd (is.first (length other.before) k l there ((means k).1 other.refutes)))
        (λ (l : index < length other.before). absurd
        (All-contains (λ (b : Kept). RefutesMatter matter b → ⊥) other.before is.trace other.first
        (in_split other.before (k ∷ other.after) index is.trace l (subst (λ (l : List Kept). slice_get l index ≡ Some is.trace) other.split is.at))
        ((means is.trace).0 is.has))))
        (cases_order (length other.before) index)

    one_trace : k ≡ is.trace
    one_trace = one_item kept index k is.trace (subst (λ (i : ℕ). slice_get kept i ≡ Some k) one_index there) is.at

    one_front : take index kept ≡ other.before
    one_front = subst (λ (i : ℕ). take i kept ≡ other.before) one_index
        (subst (λ (l : List Kept). take (length other.before) l ≡ other.before) (sym other.split) (take_split other.before (k ∷ other.after)))

    -- so its fields are those of the place
    fields_one : decimal (day_of k) ∷ decimal n ∷ k.trace.request ∷ [] ≡ place_fields kept index
    fields_one =
        ap (λ (m : ℕ). decimal (day_of k) ∷ decimal m ∷ k.trace.request ∷ []) other.counted
        ∙ (ap (λ (front : List Kept). fields_of front k) (sym one_front) ∙ (ap (fields_of (take index kept)) one_trace ∙ sym named))

  pub named_by_why : IsNamedByWhy kept matter index
  named_by_why bytes = (
    (λ t. t.text ∙ ap (λ (fields : List (List ℕ)). row_of (codes "refuted" ∷ (matter_fields matter ++ fields))) (fields_one t.trace t.index t.first)),
    (λ e. record {
      trace = is.trace;
      index = length (traces_on (day_of is.trace) (take index kept));
      first = first;
      text = e ∙ ap (λ (fields : List (List ℕ)). row_of (codes "refuted" ∷ (matter_fields matter ++ fields))) named;
    }),
  )

-- ---- verdicts
later : {A : Type 0} (P : A → Type 0) (x : A) (xs : List A) (k : ℕ) → (P x → ⊥) → IsFirstWith P xs k → IsFirstWith P (x ∷ xs) (suc k)
later {A} P x xs k none r = record {
  trace = r.trace;
  at = r.at;
  has = r.has;
  first = λ i t lt at is. by i t lt at is;
}
  where
    by : (i : ℕ) (t : A) → i < suc k → slice_get (x ∷ xs) i ≡ Some t → P t → ⊥
    by zero t lt at is = none (subst P (sym (same_Some x t at)) is)
    by (suc i) t lt at is = r.first i t (omega (arith, lt)) at is

first_verdict : {A : Type 0} (P : A → Type 0) (xs : List A) (vs : List Bool) → AreVerdicts P xs vs → 0 < count_by (λ (v : Bool). v) vs → IsFirstWith P xs (first_true vs)
first_verdict P [] [] z l = absurd (omega arith)
first_verdict P [] (v ∷ vs) z l = absurd z
first_verdict P (x ∷ xs) [] z l = absurd z
first_verdict P (x ∷ xs) (true ∷ vs) z l = record { trace = x; at = refl; has = z.0.0 refl; first = λ i t lt at is. absurd (omega (arith, lt)) }
first_verdict P (x ∷ xs) (false ∷ vs) z l =
    let e = sum_by-cons (λ (v : Bool). cond v 1 0) false vs in
    let r = first_verdict P xs vs z.1 (omega (arith, l, e)) in
    let same : suc (first_true vs) ≡ first_true vs + 1 = omega arith in
    subst (IsFirstWith P (x ∷ xs)) same (later P x xs (first_true vs) (λ h. let f : false ≡ true = z.0.1 h in cc) r)

-- ---- a row and what it names
named_has : {X F : Type 0} (xs : List X) (P : X × X → Type 0) (rows : List (PairRow F)) → NameExactly xs P rows → (row : PairRow F) → Contains rows row → (pair : X × X) → NamesTwo xs row pair → P pair
named_has {X} xs P rows h row c pair named =
    let p = partner_in (NamesTwo xs) rows h.pairs h.named row c in
    let first = one_item xs row.first p.0.0 pair.0 p.2.0 named.0 in
    let second = one_item xs row.second p.0.1 pair.1 p.2.1 named.1 in
    let same : p.0 ≡ pair = λ i. (first i, second i) in
    subst P same ((h.exactly p.0).0 p.1)

some_of : {A : Type 0} (P : A → Type 0) (traces : List A) (n m : ℕ) → AreSoMany P traces n → AreSoMany P traces m → 0 < n → 0 < m
some_of P traces n m h k l = let e = so_many_one P traces n m h k in omega (arith, l, e)

-- ---- the laws
module _ (met : NameRowsAreMet) (counts : NameRowsCountTraces) where
  pub orders_name_witness : NearlyOrderRowsAreFew → FirstEarlyIsFirst by_kept same_name → NearlyOrdersNameWitness
  orders_name_witness few early choice kept bytes text row pair c turn =
      let has = named_has text.names (λ p. IsNearlyOrder kept p × NamesMeet choice.least kept p) text.rows.nearly_orders (few choice kept bytes text) row c pair turn in
      let rest = text.rows.nearly_orders ++ text.rows.nearly_exclusions in
      let listed = Contains-append_right text.rows.orders (text.rows.exclusions ++ rest) row (Contains-append_right text.rows.exclusions rest row (Contains-append_left text.rows.nearly_orders text.rows.nearly_exclusions row c)) in
      let some = some_of (RefutesBefore by_kept pair.0 pair.1) kept has.0.1.refuting row.figures.early has.0.1.refute (counts choice kept bytes text row pair listed turn).early has.0.1.some in
      named_by_why kept (Before pair.0 pair.1) (RefutesBefore by_kept pair.0 pair.1) (λ k. ((λ r. (has.0.0, r)), (λ r. r.1))) row.figures.first_early
      (early same_names kept pair.0 pair.1 row.figures (met choice kept bytes text row pair listed turn) some)

  pub exclusions_name_witness : NearlyExclusionRowsAreFew → FirstBothIsFirst by_kept same_name → NearlyExclusionsNameWitness
  exclusions_name_witness few both choice kept bytes text row pair c turn =
      let has = named_has text.names (λ p. IsNearlyExclusion kept p × NamesMeet choice.least kept p) text.rows.nearly_exclusions (few choice kept bytes text) row c pair turn in
      let rest = text.rows.nearly_orders ++ text.rows.nearly_exclusions in
      let listed = Contains-append_right text.rows.orders (text.rows.exclusions ++ rest) row (Contains-append_right text.rows.exclusions rest row (Contains-append_right text.rows.nearly_orders text.rows.nearly_exclusions row c)) in
      let some = some_of (RefutesExclusive by_kept pair.0 pair.1) kept has.0.1.refuting row.figures.both has.0.1.refute (counts choice kept bytes text row pair listed turn).both has.0.1.some in
      let differ = less_differs name_cmp name_total pair.0 pair.1 has.0.0 in
      named_by_why kept (Exclusive pair.0 pair.1) (RefutesExclusive by_kept pair.0 pair.1) (λ k. ((λ r. (differ, r)), (λ r. r.1))) row.figures.first_both
      (both same_names kept pair.0 pair.1 row.figures (met choice kept bytes text row pair listed turn) some)

pub pipes_name_witness : TaskRowsAreShared → NearlyPipeRowsAreFew → NearlyPipesNameWitness
pipes_name_witness shared few choice kept bytes text row pair c turn =
    let has = named_has text.tasks (λ p. IsNearlyPipe kept p × TasksMeet choice.least kept p) text.rows.nearly_pipes (few choice kept bytes text) row c pair turn in
    let are = shared choice kept bytes text row pair (Contains-append_right text.rows.pipes text.rows.nearly_pipes row c) turn in
    let some = some_of (RefutesPipe by_kept pair.0 pair.1) kept has.0.1.refuting (count_by (λ (v : Bool). v) are.refuted) has.0.1.refute (record { verdicts = are.refuted; told = are.refute; count = refl }) has.0.1.some in
    let first = first_verdict (RefutesPipe by_kept pair.0 pair.1) kept are.refuted are.refute some in
    named_by_why kept (Pipe pair.0 pair.1) (RefutesPipe by_kept pair.0 pair.1) (λ k. ((λ r. (has.0.0, r)), (λ r. r.1))) row.figures.first_refuted
    (subst (IsFirstWith (RefutesPipe by_kept pair.0 pair.1) kept) (sym are.first) first)
