-- Traces that are split by their days.
use Rattle.std.proofs.Common.{◌≡◌, ◌≢◌, ℕ, zero, suc, ◌<◌, ◌≤◌, inl, inr, ◌==◌, List, [], ◌∷◌, ◌++◌, length, map, take, set, get_or, All, AllPairs, Contains, refl, sym, ap, ◌∙◌, subst, arith, append-nil}
use Rattle.std.specs.declared.cmp.Ordering.{Ordering}
use Rattle.std.specs.declared.cmp.Ordering.TheVariants.{Less, Equal, Greater}
use Rattle.std.specs.Cmp.{nat_cmp_is}
use Rattle.std.specs.List.{dedup}
use Rattle.std.specs.List.Sorted.{IsSorted, IsNonDecreasingBy, IsSearchInRange, IsBinarySearchResult}
use Rattle.std.specs.Ordering.{nat_cmp, ordering_index}
use Rattle.std.specs.Prelude.{IsPermutation, nat_eq, Result, Ok, Err, IfSome, IfNone}
use Rattle.std.specs.Result.{result_ok}
use Rattle.std.proofs.lemmas.Cmp.{ranked}
use Rattle.std.proofs.lemmas.Bool.Decides.{nat_tests}
use Rattle.std.proofs.lemmas.List.{take_all, length-map, get_or-map}
use Rattle.std.proofs.lemmas.List.Elements.{All-contains_itself}
use Rattle.std.proofs.lemmas.List.Kept.{AllPairs-from_increasing, Contains-dedup_nat, Contains-from_dedup}
use Rattle.std.proofs.lemmas.List.Sorted.{Contains-permutation, IsPermutation-sym}
use Rattle.std.proofs.lemmas.Map.Keys.{IsStrictlyIncreasing-dedup}
use Rattle.trace_types.specs.Listing.{ListsExactly}
use Rattle.std.proofs.lemmas.Bool.{eq-eqb, ne_eqb, cond-true, cond-false, cases_eq, cases_lt}
use Rattle.std.proofs.lemmas.List.Elements.{All-nil, All-cons, All-head, All-tail, All-weaker, filter-append}
use Rattle.trace_types.specs.declared.named_trace.NamedTrace.{NamedTrace}
use Rattle.book_laws.specs.Shown.{named_on}
use Rattle.trace_types.proofs.ComparingLemmas.{less_to}
use Rattle.batch_sheets.specs.declared.days.DayTraces.{DayTraces}
use Rattle.batch_sheets.specs.Splitting.{AreSplit, AreSplitSoFar, named_day, split_day}

-- one more trace is one more of its own day
on_its_day : (d : ℕ) (named : List NamedTrace) (t : NamedTrace) → t.day ≡ d → named_on d (named ++ t ∷ []) ≡ named_on d named ++ t ∷ []
on_its_day d named t is = filter-append (λ (u : NamedTrace). u.day == d) named (t ∷ []) ∙ ap (λ l. named_on d named ++ l) (cond-true (t.day == d) (t ∷ []) [] (eq-eqb t.day d is))

on_another : (d : ℕ) (named : List NamedTrace) (t : NamedTrace) → t.day ≢ d → named_on d (named ++ t ∷ []) ≡ named_on d named
on_another d named t other = filter-append (λ (u : NamedTrace). u.day == d) named (t ∷ []) ∙ ap (λ l. named_on d named ++ l) (cond-false (t.day == d) (t ∷ []) [] (ne_eqb t.day d other)) ∙ append-nil (named_on d named)

abbrev HasThose : List NamedTrace → DayTraces → Type 0
HasThose named s = s.traces.items ≡ named_on s.day named

others_stay : (named : List NamedTrace) (t : NamedTrace) (ss : List DayTraces) → All (λ d. t.day ≢ d) (map split_day ss) → All (HasThose named) ss → All (HasThose (named ++ t ∷ [])) ss
others_stay named t [] o h = All-nil (HasThose (named ++ t ∷ []))
others_stay named t (s ∷ ss) o h = All-cons (HasThose (named ++ t ∷ [])) s ss
    (All-head (HasThose named) s ss h ∙ sym (on_another s.day named t (All-head (λ d. t.day ≢ d) s.day (map split_day ss) o)))
    (others_stay named t ss (All-tail (λ d. t.day ≢ d) s.day (map split_day ss) o) (All-tail (HasThose named) s ss h))

pub heads : (x : ℕ) (xs : List ℕ) → AllPairs (λ x y. x ≢ y) (x ∷ xs) → All (λ y. x ≢ y) xs
heads x xs p k d l = p 0 (suc k) d (omega arith) (omega (arith, l))

pub tails : (x : ℕ) (xs : List ℕ) → AllPairs (λ x y. x ≢ y) (x ∷ xs) → AllPairs (λ x y. x ≢ y) xs
tails x xs p i j d l m = p (suc i) (suc j) d (omega (arith, l)) (omega (arith, m))

day_at : (ss : List DayTraces) (i : ℕ) (d : DayTraces) (t : NamedTrace) → i < length ss → ((e : DayTraces) → (get_or ss i e).day ≡ t.day) → get_or (map split_day ss) i d.day ≡ t.day
day_at [] i d t l h = absurd (omega (arith, l))
day_at (s ∷ ss) zero d t l h = h d
day_at (s ∷ ss) (suc i) d t l h = day_at ss i d t (omega (arith, l)) h

-- the list at a place with one trace more
put_there : (named : List NamedTrace) (t : NamedTrace) (ss : List DayTraces) (i : ℕ) (new : DayTraces) → i < length ss → ((e : DayTraces) → (get_or ss i e).day ≡ t.day) → new.day ≡ t.day → ((e : DayTraces) → new.traces.items ≡ (get_or ss i e).traces.items ++ t ∷ [])
    → AllPairs (λ x y. x ≢ y) (map split_day ss) → All (HasThose named) ss → All (HasThose (named ++ t ∷ [])) (set ss i new)
put_there named t [] i new l at day more p h = absurd (omega (arith, l))
put_there named t (s ∷ ss) zero new l at day more p h = All-cons (HasThose (named ++ t ∷ [])) new ss
    (more s ∙ ap (λ m. m ++ t ∷ []) (All-head (HasThose named) s ss h ∙ ap (λ d. named_on d named) (at s ∙ sym day)) ∙ sym (on_its_day new.day named t (sym day)))
    (others_stay named t ss (subst (λ d. All (λ e. d ≢ e) (map split_day ss)) (at s) (heads s.day (map split_day ss) p)) (All-tail (HasThose named) s ss h))
put_there named t (s ∷ ss) (suc i) new l at day more p h = All-cons (HasThose (named ++ t ∷ [])) s (set ss i new)
    (All-head (HasThose named) s ss h ∙ sym (on_another s.day named t (λ e. heads s.day (map split_day ss) p i s.day (omega (arith, l, length_map_day ss)) (sym e ∙ sym (day_at ss i s t (omega (arith, l)) at)))))
    (put_there named t ss i new (omega (arith, l)) at day more (tails s.day (map split_day ss) p) (All-tail (HasThose named) s ss h))
  where
    length_map_day : (rs : List DayTraces) → length (map split_day rs) ≡ length rs
    length_map_day [] = refl
    length_map_day (r ∷ rs) = ap suc (length_map_day rs)

same_days : (ss : List DayTraces) (i : ℕ) (new : DayTraces) → i < length ss → ((e : DayTraces) → (get_or ss i e).day ≡ new.day) → map split_day (set ss i new) ≡ map split_day ss
same_days [] i new l at = absurd (omega (arith, l))
same_days (s ∷ ss) zero new l at = ap (λ d. d ∷ map split_day ss) (sym (at s))
same_days (s ∷ ss) (suc i) new l at = ap (λ ds. s.day ∷ ds) (same_days ss i new (omega (arith, l)) at)

pub put_more : (days : List ℕ) (named : List NamedTrace) (t : NamedTrace) (ss : List DayTraces) (i : ℕ) (new : DayTraces) → AllPairs (λ x y. x ≢ y) days → i < length ss → ((e : DayTraces) → (get_or ss i e).day ≡ t.day) → new.day ≡ t.day → ((e : DayTraces) → new.traces.items ≡ (get_or ss i e).traces.items ++ t ∷ [])
    → AreSplitSoFar days named ss → AreSplitSoFar days (named ++ t ∷ []) (set ss i new)
put_more days named t ss i new p l at day more h = record {
  each_day = same_days ss i new l (λ e. at e ∙ sym day) ∙ h.each_day;
  each_list = put_there named t ss i new l at day more (subst (AllPairs (λ x y. x ≢ y)) (sym h.each_day) p) h.each_list;
}

-- no list is of a day that is among their days
pub day_missing : (ss : List DayTraces) (day : ℕ) → All (λ (s : DayTraces). s.day ≢ day) ss → Contains (map split_day ss) day → ⊥
day_missing [] day h (k, l, e) = absurd (omega (arith, l))
day_missing (s ∷ ss) day h (zero, l, e) = All-head (λ (r : DayTraces). r.day ≢ day) s ss h e
day_missing (s ∷ ss) day h (suc k, l, e) = day_missing ss day (All-tail (λ (r : DayTraces). r.day ≢ day) s ss h) (k, omega (arith, l), e)

-- ---- what a list of different days is made from
abbrev is_less : Ordering → Type 0
is_less Less = Unit {0}
is_less Equal = ⊥
is_less Greater = ⊥

pub less_differ : (x y : ℕ) → nat_cmp x y ≡ Less → x ≢ y
less_differ x y e same = subst is_less (sym e ∙ sym (nat_cmp_is x y Equal same)) tt

-- the days of traces, sorted and each kept once, are their different days
pub days_listed : (traces : List NamedTrace) (i : ℕ) (days sorted once : List ℕ) → length traces ≤ i → days ≡ map named_day (take i traces) → IsPermutation days sorted → IsSorted nat_cmp sorted → once ≡ dedup nat_eq sorted
    → ListsExactly nat_cmp (Contains (map named_day traces)) once
days_listed traces i days sorted once le is moved rises made = rw made (record {
  rising = All-pairs (dedup nat_eq sorted) (AllPairs-from_increasing (dedup nat_eq sorted) (IsStrictlyIncreasing-dedup sorted rises));
  exactly = λ d. (
    (λ c. subst (λ l. Contains l d) all (Contains-permutation sorted days d (IsPermutation-sym days sorted moved) (Contains-from_dedup nat_eq sorted d c))),
    (λ c. Contains-dedup_nat sorted d (Contains-permutation days sorted d moved (subst (λ l. Contains l d) (sym all) c))),
  );
})
  where
    all : days ≡ map named_day traces
    all = is ∙ ap (map named_day) (take_all i traces le)

    All-pairs : (ds : List ℕ) → AllPairs (λ x y. x < y) ds → AllPairs (λ x y. nat_cmp x y ≡ Less) ds
    All-pairs ds p j k d l m = less_to (get_or ds j d) (get_or ds k d) (p j k d l m)

pub days_differ : (days : List ℕ) → AllPairs (λ x y. nat_cmp x y ≡ Less) days → AllPairs (λ x y. x ≢ y) days
days_differ days p j k d l m = less_differ (get_or days j d) (get_or days k d) (p j k d l m)

-- ---- the list of a day among lists whose days rise
compared : (a b day : ℕ) → a ≤ b → ordering_index (nat_cmp a day) ≤ ordering_index (nat_cmp b day)
compared a b day le = grind (arith, nat_tests)

-- a search by halves finds the list of a day, where there is one
pub searched : (ss : List DayTraces) (day : ℕ) → IsNonDecreasingBy split_day ss → (r : Result ℕ ℕ) → IsSearchInRange r (length ss) → IsBinarySearchResult (λ (s : DayTraces). nat_cmp s.day day) ss r
    → record { some : IfSome (result_ok r) (λ place. (place < length ss) × ((d : DayTraces) → (get_or ss place d).day ≡ day)); none : IfNone (result_ok r) (All (λ (s : DayTraces). s.day ≢ day) ss) }
searched ss day rising (Ok place) within equal = record { some = (within, λ d. ranked (get_or ss place d).day day Equal (sym (equal d))); none = tt }
searched ss day rising (Err place) within parted =
    let sides = parted (λ i j d le l. compared (get_or ss i d).day (get_or ss j d).day day (rising i j d le l)) in
    record {
      some = tt;
      none = λ k d l same.
          elim (cases_lt k place) [
            | inl before ↦ let less : (get_or ss k d).day < day = ranked (get_or ss k d).day day Less (sym (sides.0 k d (omega arith) before)) in absurd (omega (arith, same, less))
            | inr after ↦ let more : day < (get_or ss k d).day = ranked (get_or ss k d).day day Greater (sym (sides.1 k d (omega (arith, after)) l)) in absurd (omega (arith, same, more))
          ];
    }

-- lists with the different days of traces have rising days
pub days_rise : (days : List ℕ) (ss : List DayTraces) → AllPairs (λ x y. nat_cmp x y ≡ Less) days → map split_day ss ≡ days → IsNonDecreasingBy split_day ss
days_rise days ss rising is i j d le l =
    let long : length days ≡ length ss = ap length (sym is) ∙ length-map ss split_day in
    let there : (k : ℕ) → k < length ss → get_or days k 0 ≡ (get_or ss k d).day = λ k m. ap (λ ds. get_or ds k 0) (sym is) ∙ get_or-map split_day ss k d 0 m in
    elim (cases_lt i j) [
      | inl before ↦
          let less : get_or days i 0 < get_or days j 0 = ranked (get_or days i 0) (get_or days j 0) Less (sym (rising i j 0 before (omega (arith, l, long)))) in
          omega (arith, less, there i (omega (arith, before, l)), there j l)
      | inr after ↦
          let same : i ≡ j = omega (arith, le, after) in
          rw same (omega arith)
    ]

-- ---- one item among others
pub in_middle : (done rest : List NamedTrace) (t : NamedTrace) → Contains (map named_day (done ++ t ∷ rest)) t.day
in_middle [] rest t = (0, omega arith, refl)
in_middle (d ∷ done) rest t = let c = in_middle done rest t in (suc c.0, omega (arith, c.1), c.2)

-- ---- no day is empty
pub on_some : (d : ℕ) (named : List NamedTrace) → Contains (map named_day named) d → 0 < length (named_on d named)
on_some d [] (k, l, e) = absurd (omega (arith, l))
on_some d (t ∷ ts) (zero, l, e) = rw (cond-true (t.day == d) (t ∷ named_on d ts) (named_on d ts) (eq-eqb t.day d e)) (omega arith)
on_some d (t ∷ ts) (suc k, l, e) =
    let rest = on_some d ts (k, omega (arith, l), e) in
    elim (cases_eq t.day d) [
      | inl is ↦ rw (cond-true (t.day == d) (t ∷ named_on d ts) (named_on d ts) (eq-eqb t.day d is)) (omega arith)
      | inr other ↦ rw (cond-false (t.day == d) (t ∷ named_on d ts) (named_on d ts) (ne_eqb t.day d other)) rest
    ]

some_each : (named : List NamedTrace) (ss : List DayTraces) → All (HasThose named) ss → All (λ d. Contains (map named_day named) d) (map split_day ss) → All (λ (s : DayTraces). 0 < length s.traces.items) ss
some_each named [] h c = All-nil (λ (s : DayTraces). 0 < length s.traces.items)
some_each named (s ∷ ss) h c =
    let own = ap length (All-head (HasThose named) s ss h) in
    let some = on_some s.day named (All-head (λ d. Contains (map named_day named) d) s.day (map split_day ss) c) in
    All-cons (λ (r : DayTraces). 0 < length r.traces.items) s ss (omega (arith, own, some))
    (some_each named ss (All-tail (HasThose named) s ss h) (All-tail (λ d. Contains (map named_day named) d) s.day (map split_day ss) c))

pub split_done : (days : List ℕ) (named yielded : List NamedTrace) (ss : List DayTraces) → ListsExactly nat_cmp (Contains (map named_day named)) days → yielded ≡ named → AreSplitSoFar days yielded ss → AreSplit days named ss
split_done days named yielded ss lists all h =
    let so_far : AreSplitSoFar days named ss = subst (λ l. AreSplitSoFar days l ss) all h in
    record {
      so_far = so_far;
      some = some_each named ss so_far.each_list (subst (All (λ d. Contains (map named_day named) d)) (sym so_far.each_day) (All-weaker (Contains days) (λ d. Contains (map named_day named) d) (λ d c. (lists.exactly d).0 c) days (All-contains_itself days)));
    }

-- ---- traces that all are of one day
kept_all : (day : ℕ) (named : List NamedTrace) → All (λ (t : NamedTrace). t.day ≡ day) named → named ≡ named_on day named
kept_all day [] h = refl
kept_all day (t ∷ ts) h =
    let own : t.day ≡ day = All-head (λ (u : NamedTrace). u.day ≡ day) t ts h in
    let rest = kept_all day ts (All-tail (λ (u : NamedTrace). u.day ≡ day) t ts h) in
    ap (λ l. t ∷ l) rest ∙ sym (cond-true (t.day == day) (t ∷ named_on day ts) (named_on day ts) (eq-eqb t.day day own))

pub one_day : (day : ℕ) (named : List NamedTrace) (s : DayTraces) → s.day ≡ day → s.traces.items ≡ named → All (λ (t : NamedTrace). t.day ≡ day) named → AreSplitSoFar (day ∷ []) named (s ∷ [])
one_day day named s own has h = record {
  each_day = ap (λ d. d ∷ []) own;
  each_list = All-cons (HasThose named) s [] (has ∙ kept_all day named h ∙ ap (λ d. named_on d named) (sym own)) (All-nil (HasThose named));
}

pub all_in : (xs : List NamedTrace) → All (λ (t : NamedTrace). Contains (map named_day xs) t.day) xs
all_in xs k d l = (k, rw (length-map xs named_day) l, get_or-map named_day xs k d (get_or xs k d).day l)

pub all_of_day : (day : ℕ) (named : List NamedTrace) → ListsExactly nat_cmp (Contains (map named_day named)) (day ∷ []) → All (λ (t : NamedTrace). t.day ≡ day) named
all_of_day day named lists k d l = single (get_or named k d).day ((lists.exactly (get_or named k d).day).1 (all_in named k d l))
  where
    single : (x : ℕ) → Contains (day ∷ []) x → x ≡ day
    single x (zero, m, e) = sym e
    single x (suc j, m, e) = absurd (omega (arith, m))

pub one_item : (days : List ℕ) → length days ≡ 1 → days ≡ get_or days 0 0 ∷ []
one_item [] h = absurd (omega (arith, h))
one_item (d ∷ []) h = refl
one_item (d ∷ e ∷ days) h = absurd (omega (arith, h))
