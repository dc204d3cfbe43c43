-- The traces of all days of a book: by day, and what a drop, a keep and an add leave of them.
use Rattle.std.proofs.Common.{◌≡◌, ℕ, zero, suc, ◌-◌, ◌<◌, ◌≤◌, ◌⊎◌, inl, inr, Bool, true, false, not, ◌==◌, nat_lt, nat_eq, List, [], ◌∷◌, ◌++◌, length, map, filter, drop, All, refl, sym, ap, ◌∙◌, subst, arith}
use Rattle.std.proofs.lemmas.Bool.{cases_eq, cases_lt, cases_order, eq-eqb, ne_eqb, lt-ltb, le-ltb, cond-true, cond-false, not_from_true, not_from_false}
use Rattle.std.proofs.lemmas.List.{append-nil, map-append}
use Rattle.std.proofs.lemmas.List.Elements.{All-nil, All-cons, All-head, All-tail, All-weaker, All-append, filter-append}
use Rattle.trace_types.specs.declared.named_trace.NamedTrace.{NamedTrace}
use Rattle.trace_types.specs.Firsts.{firsts_of}
use Rattle.day_partitions.specs.Books.{BookState, KeptDay, kept_day, all_traces, traces_kept_on, AreRising, HasTraces, AreOfDay, IsBook, with_day_traces, days_without, newest_days}
use Rattle.trace_types.proofs.ListingLemmas.{pairs_tail}
use Rattle.day_partitions.proofs.DayLemmas.{with_below, with_same, with_above}
use Rattle.day_partitions.proofs.FilterLemmas.{filter_yes, filter_no, filter_all, filter_none, filter_same}
use Rattle.book_laws.proofs.TakenLemmas.{put_all, has_key, Rises, filter_above, put_all_before, put_all_behind, rises_append}

abbrev pub named_day : NamedTrace → ℕ
named_day t = t.day

-- days that rise, each with at least one trace, all of that day
pub record AreDays (ks : List KeptDay) : Type 0 where
  pub rising : AreRising ks
  pub some : All HasTraces ks
  pub dated : All (λ (k : KeptDay). AreOfDay k.day k.traces) ks

pub book_days : (b : BookState) → IsBook b → AreDays b.days
book_days b h = record { rising = h.rising; some = h.some; dated = h.dated }

pub pairs_head : (k : KeptDay) (ks : List KeptDay) → AreRising (k ∷ ks) → All (λ (j : KeptDay). k.day < j.day) ks
pairs_head k ks p i d l = p 0 (suc i) d (omega arith) (omega arith)

pairs_cons : (k : KeptDay) (ks : List KeptDay) → All (λ (j : KeptDay). k.day < j.day) ks → AreRising ks → AreRising (k ∷ ks)
pairs_cons k ks h p zero zero d l m = absurd (omega arith)
pairs_cons k ks h p zero (suc j) d l m = h j d (omega arith)
pairs_cons k ks h p (suc i) zero d l m = absurd (omega arith)
pairs_cons k ks h p (suc i) (suc j) d l m = p i j d (omega arith) (omega arith)

abbrev Rising : KeptDay → KeptDay → Type 0
Rising j k = j.day < k.day

abbrev IsDated : KeptDay → Type 0
IsDated k = AreOfDay k.day k.traces

pub days_tail : (k : KeptDay) (ks : List KeptDay) → AreDays (k ∷ ks) → AreDays ks
days_tail k ks h = record { rising = pairs_tail Rising k ks h.rising; some = All-tail HasTraces k ks h.some; dated = All-tail IsDated k ks h.dated }

pub own_day : (k : KeptDay) (ks : List KeptDay) → AreDays (k ∷ ks) → AreOfDay k.day k.traces
own_day k ks h = All-head IsDated k ks h.dated

-- all traces of later days are of greater days
pub above_all : (d : ℕ) (ks : List KeptDay) → All (λ (k : KeptDay). d < k.day) ks → All IsDated ks → All (λ (t : NamedTrace). d < t.day) (all_traces ks)
above_all d [] h g = All-nil (λ (t : NamedTrace). d < t.day)
above_all d (k ∷ ks) h g =
    let l = All-head (λ (j : KeptDay). d < j.day) k ks h in
    All-append (λ (t : NamedTrace). d < t.day) k.traces (all_traces ks)
    (All-weaker (λ (t : NamedTrace). t.day ≡ k.day) (λ (t : NamedTrace). d < t.day) (λ t e. omega (arith, l, e)) k.traces (All-head IsDated k ks g))
    (above_all d ks (All-tail (λ (j : KeptDay). d < j.day) k ks h) (All-tail IsDated k ks g))

later : (k : KeptDay) (ks : List KeptDay) → AreDays (k ∷ ks) → All (λ (t : NamedTrace). k.day < t.day) (all_traces ks)
later k ks h = above_all k.day ks (pairs_head k ks h.rising) (All-tail IsDated k ks h.dated)

pub all_rise : (ks : List KeptDay) → AreDays ks → Rises named_day (all_traces ks)
all_rise [] h = tt
all_rise (k ∷ ks) h = rises_append named_day k.day k.traces (all_traces ks) (own_day k ks h) (all_rise ks (days_tail k ks h))
    (All-weaker (λ (t : NamedTrace). k.day < t.day) (λ (t : NamedTrace). k.day ≤ t.day) (λ t l. omega (arith, l)) (all_traces ks) (later k ks h))

-- ---- one day
passes : (p : ℕ → Bool) (d : ℕ) (ts : List NamedTrace) → AreOfDay d ts → p d ≡ true → filter (λ (t : NamedTrace). p t.day) ts ≡ ts
passes p d ts h e = filter_all (λ (t : NamedTrace). p t.day) ts (All-weaker (λ (t : NamedTrace). t.day ≡ d) (λ (t : NamedTrace). p t.day ≡ true) (λ t s. ap p s ∙ e) ts h)

fails : (p : ℕ → Bool) (d : ℕ) (ts : List NamedTrace) → AreOfDay d ts → p d ≡ false → filter (λ (t : NamedTrace). p t.day) ts ≡ []
fails p d ts h e = filter_none (λ (t : NamedTrace). p t.day) ts (All-weaker (λ (t : NamedTrace). t.day ≡ d) (λ (t : NamedTrace). p t.day ≡ false) (λ t s. ap p s ∙ e) ts h)

pub all_of_day : (d : ℕ) (ks : List KeptDay) → AreDays ks → filter (λ (t : NamedTrace). t.day == d) (all_traces ks) ≡ traces_kept_on ks d
all_of_day d [] h = refl
all_of_day d (k ∷ ks) h =
    let rest = all_of_day d ks (days_tail k ks h) in
    filter-append (λ (t : NamedTrace). t.day == d) k.traces (all_traces ks) ∙ elim (cases_eq k.day d) [
      | inl is ↦
          let none : filter (has_key named_day d) (all_traces ks) ≡ [] = filter_above named_day d (all_traces ks) (subst (λ e. All (λ (t : NamedTrace). e < t.day) (all_traces ks)) is (later k ks h)) in
          ap (λ l. l ++ filter (has_key named_day d) (all_traces ks)) (passes (λ e. e == d) k.day k.traces (own_day k ks h) (eq-eqb k.day d is)) ∙ ap (λ l. k.traces ++ l) none ∙ append-nil k.traces ∙ sym (cond-true (k.day == d) k.traces (traces_kept_on ks d) (eq-eqb k.day d is))
      | inr other ↦ ap (λ l. l ++ filter (has_key named_day d) (all_traces ks)) (fails (λ e. e == d) k.day k.traces (own_day k ks h) (ne_eqb k.day d other)) ∙ rest ∙ sym (cond-false (k.day == d) k.traces (traces_kept_on ks d) (ne_eqb k.day d other))
    ]

-- ---- without a day
pub all_without : (d : ℕ) (ks : List KeptDay) → AreDays ks → all_traces (days_without d ks) ≡ filter (λ (t : NamedTrace). not (t.day == d)) (all_traces ks)
all_without d [] h = refl
all_without d (k ∷ ks) h =
    let rest = all_without d ks (days_tail k ks h) in
    let p : ℕ → Bool = λ e. not (e == d) in
    elim (cases_eq k.day d) [
      | inl is ↦ ap all_traces (filter_no (λ (j : KeptDay). not (j.day == d)) k ks (not_from_true (k.day == d) (eq-eqb k.day d is))) ∙ rest
          ∙ sym (filter-append (λ (t : NamedTrace). p t.day) k.traces (all_traces ks) ∙ ap (λ l. l ++ filter (λ (t : NamedTrace). p t.day) (all_traces ks)) (fails p k.day k.traces (own_day k ks h) (not_from_true (k.day == d) (eq-eqb k.day d is))))
      | inr other ↦ ap all_traces (filter_yes (λ (j : KeptDay). not (j.day == d)) k ks (not_from_false (k.day == d) (ne_eqb k.day d other))) ∙ ap (λ l. k.traces ++ l) rest
          ∙ sym (filter-append (λ (t : NamedTrace). p t.day) k.traces (all_traces ks) ∙ ap (λ l. l ++ filter (λ (t : NamedTrace). p t.day) (all_traces ks)) (passes p k.day k.traces (own_day k ks h) (not_from_false (k.day == d) (ne_eqb k.day d other))))
    ]

-- ---- the newest_days days
abbrev pub days_in : List KeptDay → List ℕ
days_in ks = map (λ (k : KeptDay). k.day) ks

-- how many days are above this one
abbrev pub above : List ℕ → ℕ → ℕ
above ds e = length (filter (λ d. nat_lt e d) ds)

above_next : (k : KeptDay) (ks : List KeptDay) (e : ℕ) → k.day ≤ e → above (days_in (k ∷ ks)) e ≡ above (days_in ks) e
above_next k ks e l = ap length (filter_no (λ d. nat_lt e d) k.day (days_in ks) (le-ltb e k.day l))

above_own : (d : ℕ) (ks : List KeptDay) → All (λ (k : KeptDay). d < k.day) ks → above (days_in ks) d ≡ length ks
above_own d [] h = refl
above_own d (k ∷ ks) h =
    let rest = above_own d ks (All-tail (λ (j : KeptDay). d < j.day) k ks h) in
    let e = ap length (filter_yes (λ e. nat_lt d e) k.day (days_in ks) (lt-ltb d k.day (All-head (λ (j : KeptDay). d < j.day) k ks h))) in
    omega (arith, rest, e)

above_most : (ks : List KeptDay) (e : ℕ) → above (days_in ks) e ≤ length ks
above_most [] e = omega arith
above_most (k ∷ ks) e = let rest = above_most ks e in elim (cases_lt e k.day) [
  | inl l ↦ let h = ap length (filter_yes (λ d. nat_lt e d) k.day (days_in ks) (lt-ltb e k.day l)) in omega (arith, rest, h)
  | inr l ↦ let h = above_next k ks e l in omega (arith, rest, h)
]

abbrev pub is_new : List KeptDay → ℕ → ℕ → Bool
is_new ks n e = nat_lt (above (days_in ks) e) n

-- with one day more before them, later days have as many above them
new_next : (k : KeptDay) (ks : List KeptDay) (n : ℕ) → AreDays (k ∷ ks) → filter (λ (t : NamedTrace). is_new (k ∷ ks) n t.day) (all_traces ks) ≡ filter (λ (t : NamedTrace). is_new ks n t.day) (all_traces ks)
new_next k ks n h = filter_same (λ (t : NamedTrace). is_new (k ∷ ks) n t.day) (λ (t : NamedTrace). is_new ks n t.day) (all_traces ks)
    (All-weaker (λ (t : NamedTrace). k.day < t.day) (λ (t : NamedTrace). is_new (k ∷ ks) n t.day ≡ is_new ks n t.day) (λ t l. ap (λ c. nat_lt c n) (above_next k ks t.day (omega (arith, l)))) (all_traces ks) (later k ks h))

own_above : (k : KeptDay) (ks : List KeptDay) → AreDays (k ∷ ks) → above (days_in (k ∷ ks)) k.day ≡ length ks
own_above k ks h = above_next k ks k.day (omega arith) ∙ above_own k.day ks (pairs_head k ks h.rising)

all_new : (n : ℕ) (ks : List KeptDay) → length ks ≤ n → AreDays ks → filter (λ (t : NamedTrace). is_new ks n t.day) (all_traces ks) ≡ all_traces ks
all_new n [] l h = refl
all_new n (k ∷ ks) l h =
    let rest = new_next k ks n h ∙ all_new n ks (omega (arith, l)) (days_tail k ks h) in
    let own = own_above k ks h in
    filter-append (λ (t : NamedTrace). is_new (k ∷ ks) n t.day) k.traces (all_traces ks)
    ∙ ap (λ m. m ++ filter (λ (t : NamedTrace). is_new (k ∷ ks) n t.day) (all_traces ks)) (passes (is_new (k ∷ ks) n) k.day k.traces (own_day k ks h) (lt-ltb (above (days_in (k ∷ ks)) k.day) n (omega (arith, own, l))))
    ∙ ap (λ m. k.traces ++ m) rest

pub all_newest : (n : ℕ) (ks : List KeptDay) → AreDays ks → all_traces (newest_days n ks) ≡ filter (λ (t : NamedTrace). is_new ks n t.day) (all_traces ks)
all_newest n [] h = nil_drop (0 - n)
  where
    nil_drop : (m : ℕ) → all_traces (drop m []) ≡ []
    nil_drop zero = refl
    nil_drop (suc m) = refl
all_newest n (k ∷ ks) h =
    let rest = all_newest n ks (days_tail k ks h) in
    elim (cases_lt (length ks) n) [
      | inl all ↦
          let zero_gap : length (k ∷ ks) - n ≡ 0 = omega (arith, all) in
          ap (λ i. all_traces (drop i (k ∷ ks))) zero_gap ∙ sym (all_new n (k ∷ ks) (omega (arith, all)) h)
      | inr some ↦
          let gap : length (k ∷ ks) - n ≡ suc (length ks - n) = omega (arith, some) in
          let own = own_above k ks h in
          ap (λ i. all_traces (drop i (k ∷ ks))) gap ∙ rest ∙ sym (new_next k ks n h)
          ∙ sym (filter-append (λ (t : NamedTrace). is_new (k ∷ ks) n t.day) k.traces (all_traces ks)
          ∙ ap (λ m. m ++ filter (λ (t : NamedTrace). is_new (k ∷ ks) n t.day) (all_traces ks)) (fails (is_new (k ∷ ks) n) k.day k.traces (own_day k ks h) (le-ltb (above (days_in (k ∷ ks)) k.day) n (omega (arith, own, some)))))
    ]

-- ---- the different days of all traces
others_all : (d : ℕ) (ds : List ℕ) → All (λ e. d < e) ds → filter (λ e. not (nat_eq d e)) ds ≡ ds
others_all d ds h = filter_all (λ e. not (nat_eq d e)) ds (All-weaker (λ e. d < e) (λ e. not (nat_eq d e) ≡ true) (λ e l. not_from_false (nat_eq d e) (ne_eqb d e (λ s. omega (arith, l, s)))) ds h)

firsts_behind : (d : ℕ) (ts : List NamedTrace) (ds es : List ℕ) → firsts_of nat_eq ds ≡ es → All (λ e. d < e) es → AreOfDay d ts → 0 < length ts → firsts_of nat_eq (map named_day ts ++ ds) ≡ d ∷ es
firsts_behind d [] ds es f l h n = absurd (omega (arith, n))
firsts_behind d (t ∷ []) ds es f l h n =
    let is = All-head (λ (u : NamedTrace). u.day ≡ d) t [] h in
    ap (λ e. e ∷ filter (λ y. not (nat_eq e y)) (firsts_of nat_eq ds)) is ∙ ap (λ m. d ∷ filter (λ y. not (nat_eq d y)) m) f ∙ ap (λ m. d ∷ m) (others_all d es l)
firsts_behind d (t ∷ u ∷ ts) ds es f l h n =
    let is = All-head (λ (u : NamedTrace). u.day ≡ d) t (u ∷ ts) h in
    let rest = firsts_behind d (u ∷ ts) ds es f l (All-tail (λ (u : NamedTrace). u.day ≡ d) t (u ∷ ts) h) (omega arith) in
    ap (λ e. e ∷ filter (λ y. not (nat_eq e y)) (firsts_of nat_eq (map named_day (u ∷ ts) ++ ds))) is
    ∙ ap (λ m. d ∷ filter (λ y. not (nat_eq d y)) m) rest
    ∙ ap (λ m. d ∷ m) (filter_no (λ y. not (nat_eq d y)) d es (not_from_true (nat_eq d d) (eq-eqb d d refl)) ∙ others_all d es l)

days_above : (d : ℕ) (ks : List KeptDay) → All (λ (k : KeptDay). d < k.day) ks → All (λ e. d < e) (days_in ks)
days_above d [] h = All-nil (λ e. d < e)
days_above d (k ∷ ks) h = All-cons (λ e. d < e) k.day (days_in ks) (All-head (λ (j : KeptDay). d < j.day) k ks h) (days_above d ks (All-tail (λ (j : KeptDay). d < j.day) k ks h))

pub days_are : (ks : List KeptDay) → AreDays ks → firsts_of nat_eq (map named_day (all_traces ks)) ≡ days_in ks
days_are [] h = refl
days_are (k ∷ ks) h =
    ap (firsts_of nat_eq) (map-append named_day k.traces (all_traces ks))
    ∙ firsts_behind k.day k.traces (map named_day (all_traces ks)) (days_in ks) (days_are ks (days_tail k ks h)) (days_above k.day ks (pairs_head k ks h.rising)) (own_day k ks h) (All-head HasTraces k ks h.some)

-- ---- more traces of one day
pub with_cases : (d : ℕ) (ts : List NamedTrace) (k : KeptDay) (ks : List KeptDay) → (k.day < d) ⊎ ((k.day ≡ d) ⊎ (d < k.day))
with_cases d ts k ks = elim (cases_order k.day d) [
  | inl same ↦ inr (inl same)
  | inr (inl low) ↦ inl low
  | inr (inr high) ↦ inr (inr high)
]

at_most_all : (d : ℕ) (ts : List NamedTrace) (e : ℕ) → AreOfDay e ts → e ≤ d → All (λ (t : NamedTrace). t.day ≤ d) ts
at_most_all d ts e h l = All-weaker (λ (t : NamedTrace). t.day ≡ e) (λ (t : NamedTrace). t.day ≤ d) (λ t s. omega (arith, l, s)) ts h

pub with_puts : (d : ℕ) (ts : List NamedTrace) (ks : List KeptDay) → AreDays ks → AreOfDay d ts → all_traces (with_day_traces d ts ks) ≡ put_all named_day (all_traces ks) ts
with_puts d ts [] h g = append-nil ts ∙ sym (put_all_before named_day d [] [] ts (All-nil (λ (t : NamedTrace). t.day ≤ d)) (All-nil (λ (t : NamedTrace). d < t.day)) g ∙ append-nil ts)
with_puts d ts (k ∷ ks) h g =
    let rest = with_puts d ts ks (days_tail k ks h) g in
    elim (with_cases d ts k ks) [
      | inl low ↦ ap all_traces (with_below d ts k ks low) ∙ ap (λ l. k.traces ++ l) rest ∙ sym (put_all_behind named_day d k.traces (all_traces ks) ts (at_most_all d k.traces k.day (own_day k ks h) (omega (arith, low))) g)
      | inr (inl same) ↦ ap all_traces (with_same d ts k ks same) ∙ sym (put_all_before named_day d k.traces (all_traces ks) ts (at_most_all d k.traces k.day (own_day k ks h) (omega (arith, same))) (subst (λ e. All (λ (t : NamedTrace). e < t.day) (all_traces ks)) same (later k ks h)) g)
      | inr (inr high) ↦
          let all_high : All (λ (t : NamedTrace). d < t.day) (all_traces (k ∷ ks)) = above_all d (k ∷ ks) (All-cons (λ (j : KeptDay). d < j.day) k ks high (All-weaker (λ (j : KeptDay). k.day < j.day) (λ (j : KeptDay). d < j.day) (λ j l. omega (arith, high, l)) ks (pairs_head k ks h.rising))) h.dated in
          ap all_traces (with_above d ts k ks high) ∙ sym (put_all_before named_day d [] (all_traces (k ∷ ks)) ts (All-nil (λ (t : NamedTrace). t.day ≤ d)) all_high g)
    ]

with_above_all : (e d : ℕ) (ts : List NamedTrace) (ks : List KeptDay) → e < d → All (λ (k : KeptDay). e < k.day) ks → All (λ (k : KeptDay). e < k.day) (with_day_traces d ts ks)
with_above_all e d ts [] l h = All-cons (λ (k : KeptDay). e < k.day) (kept_day d ts) [] l (All-nil (λ (k : KeptDay). e < k.day))
with_above_all e d ts (k ∷ ks) l h =
    let one = All-head (λ (j : KeptDay). e < j.day) k ks h in
    let tail = All-tail (λ (j : KeptDay). e < j.day) k ks h in
    let rest = with_above_all e d ts ks l tail in
    elim (with_cases d ts k ks) [
      | inl low ↦ rw (with_below d ts k ks low) (All-cons (λ (j : KeptDay). e < j.day) k (with_day_traces d ts ks) one rest)
      | inr (inl same) ↦ rw (with_same d ts k ks same) (All-cons (λ (j : KeptDay). e < j.day) (kept_day d (k.traces ++ ts)) ks l tail)
      | inr (inr high) ↦ rw (with_above d ts k ks high) (All-cons (λ (j : KeptDay). e < j.day) (kept_day d ts) (k ∷ ks) l h)
    ]

pub with_days : (d : ℕ) (ts : List NamedTrace) (ks : List KeptDay) → AreDays ks → AreOfDay d ts → 0 < length ts → AreDays (with_day_traces d ts ks)
with_days d ts [] h g n = record { rising = pairs_cons (kept_day d ts) [] (All-nil (λ (j : KeptDay). d < j.day)) h.rising; some = All-cons HasTraces (kept_day d ts) [] n (All-nil HasTraces); dated = All-cons IsDated (kept_day d ts) [] g (All-nil IsDated) }
with_days d ts (k ∷ ks) h g n =
    let rest = with_days d ts ks (days_tail k ks h) g n in
    let highs = pairs_head k ks h.rising in
    elim (with_cases d ts k ks) [
      | inl low ↦ rw (with_below d ts k ks low) (record {
        rising = pairs_cons k (with_day_traces d ts ks) (with_above_all k.day d ts ks low highs) rest.rising;
        some = All-cons HasTraces k (with_day_traces d ts ks) (All-head HasTraces k ks h.some) rest.some;
        dated = All-cons IsDated k (with_day_traces d ts ks) (own_day k ks h) rest.dated;
      })
      | inr (inl same) ↦ rw (with_same d ts k ks same) (record {
        rising = pairs_cons (kept_day d (k.traces ++ ts)) ks (subst (λ e. All (λ (j : KeptDay). e < j.day) ks) same highs) (days_tail k ks h).rising;
        some = All-cons HasTraces (kept_day d (k.traces ++ ts)) ks (long k.traces ts n) (All-tail HasTraces k ks h.some);
        dated = All-cons IsDated (kept_day d (k.traces ++ ts)) ks (All-append (λ (t : NamedTrace). t.day ≡ d) k.traces ts (subst (λ e. AreOfDay e k.traces) same (own_day k ks h)) g) (All-tail IsDated k ks h.dated);
      })
      | inr (inr high) ↦ rw (with_above d ts k ks high) (record {
        rising = pairs_cons (kept_day d ts) (k ∷ ks) (All-cons (λ (j : KeptDay). d < j.day) k ks high (All-weaker (λ (j : KeptDay). k.day < j.day) (λ (j : KeptDay). d < j.day) (λ j l. omega (arith, high, l)) ks highs)) h.rising;
        some = All-cons HasTraces (kept_day d ts) (k ∷ ks) n h.some;
        dated = All-cons IsDated (kept_day d ts) (k ∷ ks) g h.dated;
      })
    ]
  where
    long : (xs ys : List NamedTrace) → 0 < length ys → 0 < length (xs ++ ys)
    long [] ys l = l
    long (x ∷ xs) ys l = omega arith
