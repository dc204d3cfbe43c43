-- Figures, and the rows of a choice, are one.
use Rattle.std.proofs.Common.{◌≡◌, ◌↔◌, ℕ, zero, suc, ◌+◌, ◌<◌, ℤ, ◌≤ℤ◌, Bool, true, false, cond, List, [], ◌∷◌, ◌++◌, map, filter, flat_map, Some, slice_get, count_by, refl, sym, ◌∙◌, ap, subst, arith}
use Rattle.std.specs.Prelude.{not, sum}
use Rattle.std.specs.List.{range_with_len, zip}
use Rattle.std.specs.Cmp.{IsTotalOrder}
use Rattle.std.proofs.lemmas.Cmp.{back_total, nat_cmp_total, on_total, then_total}
use Rattle.std.proofs.lemmas.Int.{ints}
use Rattle.std.proofs.lemmas.List.Elements.{All-contains}
use Rattle.trace_types.specs.Listing.{AreExactly, CountsDistinct}
use Rattle.trace_types.specs.Parts.{Parts}
use Rattle.trace_types.specs.Pipelines.{RefutesPipe, RefutesUnshared}
use Rattle.evidence_rules.specs.EvidenceRows.{AreBySupport, AreNameRows, AreOrderRows, AreOrdersLeft, AreReduced, AreRows, AreTaskRows, Listing, Rows, by_support, is_exclusion, is_nearly_exclusion, is_nearly_order, is_nearly_pipe, is_order, is_pipe, places_of, rows_where, supported}
use Rattle.evidence_rules.specs.Meetings.{AreMeetingFigures, IsGreatestOf, IsLeastOf}
use Rattle.evidence_rules.specs.Reaching.{IsImplied}
use Rattle.evidence_rules.specs.Sharings.{AreSharings, AreVerdicts, Share, first_true}
use Rattle.evidence_rules.specs.declared.between.Between.{Between}
use Rattle.evidence_rules.specs.declared.choice.Choice.{Choice}
use Rattle.evidence_rules.specs.declared.meeting.Meeting.{Meeting}
use Rattle.evidence_rules.specs.declared.pair_row.PairRow.{PairRow}
use Rattle.evidence_rules.specs.declared.sharing.Sharing.{Sharing}
use Rattle.session_laws.proofs.JobLemmas.{OneRisingList, one_listed, zip_one}

-- ---- figures of meetings

least_one : (xs : List ℤ) (m n : ℤ) → IsLeastOf xs m → IsLeastOf xs n → m ≡ n
least_one [] m n h k = h ∙ sym k
least_one (x ∷ xs) m n h k = omega (arith, ints, All-contains (λ (y : ℤ). m ≤ℤ y) (x ∷ xs) n h.1 k.0, All-contains (λ (y : ℤ). n ≤ℤ y) (x ∷ xs) m k.1 h.0)

greatest_one : (xs : List ℤ) (m n : ℤ) → IsGreatestOf xs m → IsGreatestOf xs n → m ≡ n
greatest_one [] m n h k = h ∙ sym k
greatest_one (x ∷ xs) m n h k = omega (arith, ints, All-contains (λ (y : ℤ). y ≤ℤ m) (x ∷ xs) n h.1 k.0, All-contains (λ (y : ℤ). y ≤ℤ n) (x ∷ xs) m k.1 h.0)

pub between_one : (meetings : List Meeting) (f g : Between) → AreMeetingFigures meetings f → AreMeetingFigures meetings g → f ≡ g
between_one meetings f g h k = λ i. record {
  traces = traces i;
  early = early i;
  turned = turned i;
  both = both i;
  first_early = first_early i;
  first_both = first_both i;
  least = least i;
  greatest = greatest i;
  nearest = nearest i;
}
  where
    traces : f.traces ≡ g.traces
    traces = h.traces ∙ sym k.traces

    early : f.early ≡ g.early
    early = h.early ∙ sym k.early

    turned : f.turned ≡ g.turned
    turned = h.turned ∙ sym k.turned

    both : f.both ≡ g.both
    both = h.both ∙ sym k.both

    first_early : f.first_early ≡ g.first_early
    first_early = h.first_early ∙ sym k.first_early

    first_both : f.first_both ≡ g.first_both
    first_both = h.first_both ∙ sym k.first_both

    least : f.least ≡ g.least
    least = least_one _ f.least g.least h.least k.least

    greatest : f.greatest ≡ g.greatest
    greatest = greatest_one _ f.greatest g.greatest h.greatest k.greatest

    nearest : f.nearest ≡ g.nearest
    nearest = least_one _ f.nearest g.nearest h.nearest k.nearest

-- ---- figures of shared elements

-- two verdicts on one question
verdict_one : {P : Type 0} (v w : Bool) → (v ≡ true) ↔ P → (w ≡ true) ↔ P → v ≡ w
verdict_one true true h k = refl
verdict_one true false h k = sym (k.1 (h.0 refl))
verdict_one false true h k = h.1 (k.0 refl)
verdict_one false false h k = refl

verdicts_one : {A : Type 0} (P : A → Type 0) (xs : List A) (vs ws : List Bool) → AreVerdicts P xs vs → AreVerdicts P xs ws → vs ≡ ws
verdicts_one P = zip_one (λ x v. (v ≡ true) ↔ P x) (λ x v w h k. verdict_one v w h k)

-- exactly so many have a property
exactly_one : {X : Type 0} → ((n m : ℕ) (xs : List X) → CountsDistinct n xs → CountsDistinct m xs → n ≡ m) → (P : X → Type 0) (n m : ℕ) → AreExactly P n → AreExactly P m → n ≡ m
exactly_one counted P n m h k = counted n m h.all
    (record { all = h.all; differ = h.differ; exactly = λ x. ((λ c. c), (λ c. c)); count = h.count })
    (record { all = k.all; differ = k.differ; exactly = λ x. ((λ c. (h.exactly x).1 ((k.exactly x).0 c)), (λ c. (k.exactly x).1 ((h.exactly x).0 c))); count = k.count })

pub sharing_one : {A S N T E : Type 0} → ((n m : ℕ) (xs : List E) → CountsDistinct n xs → CountsDistinct m xs → n ≡ m) → (p : Parts A S N T E) (traces : List A) (t u : T) (f g : Sharing) → AreSharings p traces t u f → AreSharings p traces t u g → f ≡ g
sharing_one counted p traces t u f g h k = λ i. record {
  traces = traces_are i;
  elements = elements i;
  refuted = refuted i;
  first_refuted = first i;
}
  where
    shared : h.shared ≡ k.shared
    shared = verdicts_one (RefutesUnshared p t u) traces h.shared k.shared h.share k.share

    refutes : h.refuted ≡ k.refuted
    refutes = verdicts_one (RefutesPipe p t u) traces h.refuted k.refuted h.refute k.refute

    counts : h.elements ≡ k.elements
    counts = zip_one (λ trace n. AreExactly (Share p trace t u) n) (λ trace n m a b. exactly_one counted (Share p trace t u) n m a b) traces h.elements k.elements h.are k.are

    traces_are : f.traces ≡ g.traces
    traces_are = h.traces_are ∙ ap (count_by (λ v. v)) shared ∙ sym k.traces_are

    elements : f.elements ≡ g.elements
    elements = h.elements_are ∙ ap sum counts ∙ sym k.elements_are

    refuted : f.refuted ≡ g.refuted
    refuted = h.refuted_are ∙ ap (count_by (λ v. v)) refutes ∙ sym k.refuted_are

    first : f.first_refuted ≡ g.first_refuted
    first = h.first ∙ ap first_true refutes ∙ sym k.first

-- ---- rows

-- two functions that agree below a number
flat_below : {X : Type 0} (f g : ℕ → List X) (a n : ℕ) → ((i : ℕ) → i < a + n → f i ≡ g i) → flat_map f (range_with_len a n) ≡ flat_map g (range_with_len a n)
flat_below f g a zero same = refl
flat_below {X} f g a (suc n) same =
    ap (λ (ys : List X). ys ++ flat_map f (range_with_len (a + 1) n)) (same a (omega arith))
    ∙ ap (λ (ys : List X). g a ++ ys) (flat_below f g (a + 1) n (λ i lt. same i (omega (arith, lt))))

rows_one : {F : Type 0} (f g : ℕ → ℕ → F) (is : Listing F) (count : ℕ) → ((i j : ℕ) → i < count → j < count → f i j ≡ g i j) → rows_where f is count ≡ rows_where g is count
rows_one {F} f g is count same = flat_below _ _ 0 count (λ a la. flat_below _ _ 0 count (λ b lb.
    ap (λ (x : F). cond (is a b x) (record { first = a; second = b; figures = x } ∷ []) []) (same a b (omega (arith, la)) (omega (arith, lb)))))

some_injective : {X : Type 0} (xs ys : List X) → map Some xs ≡ map Some ys → xs ≡ ys
some_injective [] [] e = refl
some_injective [] (y ∷ ys) e = absurd (cc e)
some_injective (x ∷ xs) [] e = absurd (cc e)
some_injective {X} (x ∷ xs) (y ∷ ys) e =
    let head : x ≡ y = cc in
    let tail : map Some xs ≡ map Some ys = cc in
    ap (λ (z : X). z ∷ xs) head ∙ ap (λ (zs : List X). y ∷ zs) (some_injective xs ys tail)

support_total : IsTotalOrder by_support
support_total = then_total (back_total (on_total (λ (x : ℕ × ℕ). x.0) nat_cmp_total)) (on_total (λ (x : ℕ × ℕ). x.1) nat_cmp_total)

module _ (listed : OneRisingList (ℕ × ℕ)) where
  sorted_one : {F : Type 0} (traces : F → ℕ) (rows xs ys : List (PairRow F)) → AreBySupport traces rows xs → AreBySupport traces rows ys → xs ≡ ys
  sorted_one {F} traces rows xs ys h k = some_injective xs ys (h.are ∙ ap (map (λ x. slice_get rows x.1)) order ∙ sym k.are)
    where
      order : h.order ≡ k.order
      order = one_listed listed by_support (λ x. (row : PairRow F) × (slice_get rows x.1 ≡ Some row) × (traces row.figures ≡ x.0)) h.order k.order support_total h.lists k.lists

  reduced_one : {F : Type 0} (rows xs ys : List (PairRow F)) → AreReduced rows xs → AreReduced rows ys → xs ≡ ys
  reduced_one {F} rows xs ys h k = h.are ∙ ap (λ (vs : List Bool). map (λ x. x.0) (filter (λ x. not x.1) (zip rows vs))) same ∙ sym k.are
    where
      same : h.implied ≡ k.implied
      same = zip_one (λ row v. (v ≡ true) ↔ IsImplied (map places_of rows) row.first row.second) (λ row v w a b. verdict_one v w a b) rows h.implied k.implied h.told k.told

  left_one : (reduced : Bool) (rows xs ys : List (PairRow Between)) → AreOrdersLeft reduced rows xs → AreOrdersLeft reduced rows ys → xs ≡ ys
  left_one true rows xs ys h k = reduced_one rows xs ys h k
  left_one false rows xs ys h k = h ∙ sym k

  module _ (choice : Choice) (names tasks : ℕ) (between met : ℕ → ℕ → Between) (sharing shared : ℕ → ℕ → Sharing) (same : (i j : ℕ) → i < names → j < names → between i j ≡ met i j) (alike : (i j : ℕ) → i < tasks → j < tasks → sharing i j ≡ shared i j) where
    name_rows_one : (is : Listing Between) (xs ys : List (PairRow Between)) → AreNameRows choice names between is xs → AreNameRows choice names met is ys → xs ≡ ys
    name_rows_one is xs ys h k = sorted_one (λ (f : Between). f.traces) _ xs ys (subst (λ (rows : List (PairRow Between)). AreBySupport (λ (f : Between). f.traces) rows xs) (rows_one between met (supported (λ (f : Between). f.traces) choice.least is) names same) h) k

    task_rows_one : (is : Listing Sharing) (xs ys : List (PairRow Sharing)) → AreTaskRows choice tasks sharing is xs → AreTaskRows choice tasks shared is ys → xs ≡ ys
    task_rows_one is xs ys h k = sorted_one (λ (f : Sharing). f.traces) _ xs ys (subst (λ (rows : List (PairRow Sharing)). AreBySupport (λ (f : Sharing). f.traces) rows xs) (rows_one sharing shared (supported (λ (f : Sharing). f.traces) choice.least is) tasks alike) h) k

    order_rows_one : (xs ys : List (PairRow Between)) → AreOrderRows choice names between xs → AreOrderRows choice names met ys → xs ≡ ys
    order_rows_one xs ys h k = sorted_one (λ (f : Between). f.traces) k.left xs ys (subst (λ (rows : List (PairRow Between)). AreBySupport (λ (f : Between). f.traces) rows xs) left h.sorted) k.sorted
      where
        left : h.left ≡ k.left
        left = left_one choice.reduced _ h.left k.left (subst (λ (rows : List (PairRow Between)). AreOrdersLeft choice.reduced rows h.left) (rows_one between met (supported (λ (f : Between). f.traces) choice.least is_order) names same) h.are_left) k.are_left

    pub all_rows_one : (r q : Rows) → AreRows choice names tasks between sharing r → AreRows choice names tasks met shared q → r ≡ q
    all_rows_one r q h k = λ i. record {
      orders = orders i;
      exclusions = exclusions i;
      pipes = pipes i;
      nearly_orders = nearly_orders i;
      nearly_exclusions = nearly_exclusions i;
      nearly_pipes = nearly_pipes i;
    }
      where
        orders : r.orders ≡ q.orders
        orders = order_rows_one r.orders q.orders h.orders k.orders

        exclusions : r.exclusions ≡ q.exclusions
        exclusions = name_rows_one is_exclusion r.exclusions q.exclusions h.exclusions k.exclusions

        pipes : r.pipes ≡ q.pipes
        pipes = task_rows_one is_pipe r.pipes q.pipes h.pipes k.pipes

        nearly_orders : r.nearly_orders ≡ q.nearly_orders
        nearly_orders = name_rows_one is_nearly_order r.nearly_orders q.nearly_orders h.nearly_orders k.nearly_orders

        nearly_exclusions : r.nearly_exclusions ≡ q.nearly_exclusions
        nearly_exclusions = name_rows_one is_nearly_exclusion r.nearly_exclusions q.nearly_exclusions h.nearly_exclusions k.nearly_exclusions

        nearly_pipes : r.nearly_pipes ≡ q.nearly_pipes
        nearly_pipes = task_rows_one is_nearly_pipe r.nearly_pipes q.nearly_pipes h.nearly_pipes k.nearly_pipes
