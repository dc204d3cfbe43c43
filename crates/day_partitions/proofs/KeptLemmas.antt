-- What one more command leaves of the kept traces.
use Rattle.std.proofs.Common.{◌≡◌, ℕ, suc, ◌-◌, ◌<◌, ◌≤◌, inl, inr, Bool, true, false, not, ◌&&◌, ◌||◌, ◌==◌, nat_lt, nat_le, if◌then◌else◌, List, [], ◌∷◌, ◌++◌, length, map, drop, filter, All, refl, sym, ap, ◌∙◌, subst, arith}
use Rattle.std.proofs.lemmas.Bool.{cases_eq, cases_lt, cases_order, cases_Bool, eq-eqb, ne_eqb, lt-ltb, le-ltb, le-leb, lt-leb, cond-true, cond-false, and_left, or_from, not_from_true, not_from_false}
use Rattle.std.proofs.lemmas.List.{append-nil, map-append}
use Rattle.std.proofs.lemmas.List.Elements.{All-nil, All-append, All-weaker, All-map, filter-append}
use Rattle.trace_types.specs.declared.named_trace.NamedTrace.{NamedTrace}
use Rattle.day_partitions.specs.Books.{KeptDay, kept_day, AreRising, traces_kept_on, with_day_traces, days_without, newest_days}
use Rattle.day_partitions.specs.Kept.{DayCommand, Add, Drop, Keep, Taken, traces_taken_by, taken_traces, drops, is_dropped, kept_traces, kept_of}
use Rattle.day_partitions.proofs.DayLemmas.{Below, with_below, with_same, with_above, above_all, pairs_tail}
use Rattle.day_partitions.proofs.DropLemmas.{without_other, without_same, traces_other, traces_same, traces_above}
use Rattle.day_partitions.proofs.FilterLemmas.{filter_both, filter_same, filter_all, filter_key, filter_yes, filter_no, nil_either}

-- ---- the definition, one command on
abbrev IsEarlier : ℕ → Taken → Type 0
IsEarlier n t = t.before < n

abbrev IsNow : ℕ → Taken → Type 0
IsNow n t = t.before ≡ n

now_taken : (n : ℕ) (c : DayCommand) → All (IsNow n) (traces_taken_by n c)
now_taken n (Add d ts) = All-map (IsNow n) (λ t. record { day = d; trace = t; before = n }) ts (λ k e l. refl)
now_taken n (Drop d) = All-nil (IsNow n)
now_taken n (Keep m) = All-nil (IsNow n)

earlier_taken : (cs : List DayCommand) → All (IsEarlier (length cs)) (taken_traces cs)
earlier_taken [] = All-nil (IsEarlier 0)
earlier_taken (c ∷ cs) =
    All-append (IsEarlier (suc (length cs))) (taken_traces cs) (traces_taken_by (length cs) c)
    (All-weaker (IsEarlier (length cs)) (IsEarlier (suc (length cs))) (λ t h. omega arith) (taken_traces cs) (earlier_taken cs))
    (All-weaker (IsNow (length cs)) (IsEarlier (suc (length cs))) (λ t h. omega arith) (traces_taken_by (length cs) c) (now_taken (length cs) c))

-- no command before its own drops a trace
not_dropped_yet : (cs : List DayCommand) (t : Taken) → length cs ≤ t.before → is_dropped cs t ≡ false
not_dropped_yet [] t l = refl
not_dropped_yet (c ∷ cs) t l = or_from (is_dropped cs t) _ (not_dropped_yet cs t (omega arith)) (and_left (nat_lt t.before (length cs)) _ (le-ltb t.before (length cs) (omega arith)))

abbrev Stays : DayCommand → List DayCommand → Taken → Bool
Stays c cs t = not (drops (kept_traces cs) c t.day)

not_or : (a b : Bool) → not (a || b) ≡ (not a && not b)
not_or true b = refl
not_or false b = refl

pub kept_next : (c : DayCommand) (cs : List DayCommand) → kept_traces (c ∷ cs) ≡ filter (Stays c cs) (kept_traces cs) ++ traces_taken_by (length cs) c
kept_next c cs =
    let now = traces_taken_by (length cs) c in
    let keeps : Taken → Bool = λ t. not (is_dropped (c ∷ cs) t) in
    let kept : Taken → Bool = λ t. not (is_dropped cs t) in
    let old : filter keeps (taken_traces cs) ≡ filter (Stays c cs) (kept_traces cs) =
    filter_same keeps (λ t. kept t && Stays c cs t) (taken_traces cs)
    (All-weaker (IsEarlier (length cs)) (λ t. keeps t ≡ (kept t && Stays c cs t)) (λ t h.
    ap (λ b. not (is_dropped cs t || (b && drops (kept_traces cs) c t.day))) (lt-ltb t.before (length cs) h) ∙ not_or (is_dropped cs t) (drops (kept_traces cs) c t.day)) (taken_traces cs) (earlier_taken cs))
    ∙ filter_both kept (Stays c cs) (taken_traces cs) in
    let new : filter keeps now ≡ now = filter_all keeps now
    (All-weaker (IsNow (length cs)) (λ t. keeps t ≡ true) (λ t h. not_from_false (is_dropped (c ∷ cs) t)
    (or_from (is_dropped cs t) _ (not_dropped_yet cs t (omega arith)) (and_left (nat_lt t.before (length cs)) _ (le-ltb t.before (length cs) (omega arith))))) now (now_taken (length cs) c)) in
    filter-append keeps (taken_traces cs) now ∙ ap (λ l. l ++ filter keeps now) old ∙ ap (λ l. filter (Stays c cs) (kept_traces cs) ++ l) new

abbrev pub day_is : ℕ → Taken → Bool
day_is d t = t.day == d

abbrev pub trace_in : Taken → NamedTrace
trace_in t = t.trace

-- the traces of one day that a command adds
abbrev adds_of : DayCommand → ℕ → List NamedTrace
adds_of (Add e ts) d = if e == d then ts else []
adds_of (Drop e) d = []
adds_of (Keep n) d = []

now_of : (n d : ℕ) (c : DayCommand) → map trace_in (filter (day_is d) (traces_taken_by n c)) ≡ adds_of c d
now_of n d (Add e ts) = go ts
  where
    go : (us : List NamedTrace) → map trace_in (filter (day_is d) (traces_taken_by n (Add e us))) ≡ (if e == d then us else [])
    go [] = sym (nil_either (e == d))
    go (u ∷ us) = elim (cases_Bool (e == d)) [
      | inl same ↦ ap (map trace_in) (filter_yes (day_is d) (record { day = e; trace = u; before = n }) (traces_taken_by n (Add e us)) same) ∙ ap (λ l. u ∷ l) (go us ∙ cond-true (e == d) us [] same) ∙ sym (cond-true (e == d) (u ∷ us) [] same)
      | inr other ↦ ap (map trace_in) (filter_no (day_is d) (record { day = e; trace = u; before = n }) (traces_taken_by n (Add e us)) other) ∙ go us ∙ cond-false (e == d) us [] other ∙ sym (cond-false (e == d) (u ∷ us) [] other)
    ]
now_of n d (Drop e) = refl
now_of n d (Keep m) = refl

map_if : (b : Bool) (ts : List Taken) → map trace_in (if b then ts else []) ≡ (if b then map trace_in ts else [])
map_if true ts = refl
map_if false ts = refl

pub kept_of_next : (c : DayCommand) (cs : List DayCommand) (d : ℕ) → kept_of (c ∷ cs) d ≡ (if not (drops (kept_traces cs) c d) then kept_of cs d else []) ++ adds_of c d
kept_of_next c cs d =
    let old = filter (Stays c cs) (kept_traces cs) in
    let now = traces_taken_by (length cs) c in
    ap (λ l. map trace_in (filter (day_is d) l)) (kept_next c cs)
    ∙ ap (map trace_in) (filter-append (day_is d) old now) ∙ map-append trace_in (filter (day_is d) old) (filter (day_is d) now)
    ∙ ap (λ l. map trace_in l ++ map trace_in (filter (day_is d) now)) (filter_key (λ (t : Taken). t.day) (λ e. not (drops (kept_traces cs) c e)) d (kept_traces cs))
    ∙ ap (λ l. l ++ map trace_in (filter (day_is d) now)) (map_if (not (drops (kept_traces cs) c d)) (filter (day_is d) (kept_traces cs)))
    ∙ ap (λ l. (if not (drops (kept_traces cs) c d) then kept_of cs d else []) ++ l) (now_of (length cs) d c)

-- ---- the same of a list of days
pub traces_with : (d : ℕ) (ts : List NamedTrace) (ks : List KeptDay) (e : ℕ) → AreRising ks → traces_kept_on (with_day_traces d ts ks) e ≡ traces_kept_on ks e ++ (if d == e then ts else [])
traces_with d ts [] e r = refl
traces_with d ts (k ∷ ks) e r = elim (cases_order k.day d) [
  | inl same ↦ ap (λ l. traces_kept_on l e) (with_same d ts k ks same) ∙ elim (cases_eq d e) [
    | inl at ↦ traces_same e (kept_day d (k.traces ++ ts)) ks at ∙ ap (λ l. k.traces ++ l) (sym (cond-true (d == e) ts [] (eq-eqb d e at))) ∙ ap (λ l. l ++ (if d == e then ts else [])) (sym (traces_same e k ks (same ∙ at)))
    | inr other ↦ traces_other e (kept_day d (k.traces ++ ts)) ks other ∙ sym (traces_other e k ks (λ h. other (sym same ∙ h))) ∙ sym (append-nil (traces_kept_on (k ∷ ks) e)) ∙ ap (λ l. traces_kept_on (k ∷ ks) e ++ l) (sym (cond-false (d == e) ts [] (ne_eqb d e other)))
  ]
  | inr (inl low) ↦ ap (λ l. traces_kept_on l e) (with_below d ts k ks low) ∙ elim (cases_eq k.day e) [
    | inl at ↦ traces_same e k (with_day_traces d ts ks) at ∙ sym (append-nil k.traces) ∙ ap (λ l. k.traces ++ l) (sym (cond-false (d == e) ts [] (ne_eqb d e (λ h. omega arith)))) ∙ ap (λ l. l ++ (if d == e then ts else [])) (sym (traces_same e k ks at))
    | inr other ↦ traces_other e k (with_day_traces d ts ks) other ∙ traces_with d ts ks e (pairs_tail Below k ks r) ∙ ap (λ l. l ++ (if d == e then ts else [])) (sym (traces_other e k ks other))
  ]
  | inr (inr high) ↦ ap (λ l. traces_kept_on l e) (with_above d ts k ks high) ∙ elim (cases_eq d e) [
    | inl at ↦ traces_same e (kept_day d ts) (k ∷ ks) at ∙ sym (cond-true (d == e) ts [] (eq-eqb d e at)) ∙ ap (λ l. l ++ (if d == e then ts else [])) (sym (traces_other e k ks (λ h. omega arith) ∙ traces_above e ks (subst (λ i. All (λ (j : KeptDay). i < j.day) ks) at (above_all d k ks (omega arith) r))))
    | inr other ↦ traces_other e (kept_day d ts) (k ∷ ks) other ∙ sym (append-nil (traces_kept_on (k ∷ ks) e)) ∙ ap (λ l. traces_kept_on (k ∷ ks) e ++ l) (sym (cond-false (d == e) ts [] (ne_eqb d e other)))
  ]
]

pub traces_without : (d : ℕ) (ks : List KeptDay) (e : ℕ) → traces_kept_on (days_without d ks) e ≡ (if not (e == d) then traces_kept_on ks e else [])
traces_without d [] e = sym (nil_either (not (e == d)))
traces_without d (k ∷ ks) e = elim (cases_eq k.day d) [
  | inl same ↦ ap (λ l. traces_kept_on l e) (without_same d k ks same) ∙ traces_without d ks e ∙ elim (cases_eq e d) [
    | inl at ↦ cond-false (not (e == d)) _ _ (not_from_true (e == d) (eq-eqb e d at)) ∙ sym (cond-false (not (e == d)) _ _ (not_from_true (e == d) (eq-eqb e d at)))
    | inr other ↦ ap (λ l. if not (e == d) then l else []) (sym (traces_other e k ks (λ h. other (sym h ∙ same))))
  ]
  | inr differs ↦ ap (λ l. traces_kept_on l e) (without_other d k ks differs) ∙ elim (cases_eq k.day e) [
    | inl at ↦ traces_same e k (days_without d ks) at ∙ sym (traces_same e k ks at) ∙ sym (cond-true (not (e == d)) _ _ (not_from_false (e == d) (ne_eqb e d (λ h. differs (at ∙ h)))))
    | inr other ↦ traces_other e k (days_without d ks) other ∙ traces_without d ks e ∙ ap (λ l. if not (e == d) then l else []) (sym (traces_other e k ks other))
  ]
]

-- how many days are above this one
abbrev pub count_above : ℕ → List KeptDay → ℕ
count_above e ks = length (filter (λ (k : KeptDay). nat_lt e k.day) ks)

count_next : (e : ℕ) (k : KeptDay) (ks : List KeptDay) → k.day ≤ e → count_above e (k ∷ ks) ≡ count_above e ks
count_next e k ks l = ap length (filter_no (λ (j : KeptDay). nat_lt e j.day) k ks (le-ltb e k.day l))

count_here : (e : ℕ) (k : KeptDay) (ks : List KeptDay) → e < k.day → count_above e (k ∷ ks) ≡ suc (count_above e ks)
count_here e k ks l = ap length (filter_yes (λ (j : KeptDay). nat_lt e j.day) k ks (lt-ltb e k.day l))

count_all_above : (e : ℕ) (ks : List KeptDay) → All (λ (k : KeptDay). e < k.day) ks → count_above e ks ≡ length ks
count_all_above e ks h = ap length (filter_all (λ (k : KeptDay). nat_lt e k.day) ks (All-weaker (λ (k : KeptDay). e < k.day) (λ (k : KeptDay). nat_lt e k.day ≡ true) (λ k l. lt-ltb e k.day l) ks h))

count_most : (e : ℕ) (ks : List KeptDay) → count_above e ks ≤ length ks
count_most e [] = omega arith
count_most e (k ∷ ks) = elim (cases_lt e k.day) [
  | inl l ↦ let h = count_here e k ks l in let r = count_most e ks in omega arith
  | inr l ↦ let h = count_next e k ks l in let r = count_most e ks in omega arith
]

-- a day with as many days above it as are kept in all is not kept
full_above : (e : ℕ) (ks : List KeptDay) → AreRising ks → length ks ≤ count_above e ks → traces_kept_on ks e ≡ []
full_above e [] r h = refl
full_above e (k ∷ ks) r h = elim (cases_lt e k.day) [
  | inl l ↦ traces_other e k ks (λ s. omega arith) ∙ traces_above e ks (above_all e k ks (omega arith) r)
  | inr l ↦ absurd (let c = count_next e k ks l in let m = count_most e ks in omega arith)
]

if_gone : (b : Bool) (ts : List NamedTrace) → b ≡ false → (if b then ts else []) ≡ []
if_gone b ts e = cond-false b ts [] e

pub traces_newest : (n : ℕ) (ks : List KeptDay) (e : ℕ) → AreRising ks → traces_kept_on (newest_days n ks) e ≡ (if not (nat_le n (count_above e ks)) then traces_kept_on ks e else [])
traces_newest n [] e r = nil_drop n ∙ sym (nil_either (not (nat_le n 0)))
  where
    nil_drop : (m : ℕ) → traces_kept_on (newest_days m []) e ≡ []
    nil_drop m = (let z : 0 - m ≡ 0 = omega arith in ap (λ i. traces_kept_on (drop i []) e) z)
traces_newest n (k ∷ ks) e r = elim (cases_lt (length ks) n) [
  | inl all ↦
      let zero_gap : length (k ∷ ks) - n ≡ 0 = omega arith in
      ap (λ i. traces_kept_on (drop i (k ∷ ks)) e) zero_gap ∙ elim (cases_lt (count_above e (k ∷ ks)) n) [
        | inl l ↦ sym (cond-true (not (nat_le n (count_above e (k ∷ ks)))) _ _ (not_from_false _ (lt-leb n (count_above e (k ∷ ks)) l)))
        | inr l ↦ full_above e (k ∷ ks) r (omega arith) ∙ sym (if_gone _ (traces_kept_on (k ∷ ks) e) (not_from_true _ (le-leb n (count_above e (k ∷ ks)) l)))
      ]
  | inr some ↦
      let gap : length (k ∷ ks) - n ≡ suc (length ks - n) = omega arith in
      let rest = traces_newest n ks e (pairs_tail Below k ks r) in
      ap (λ i. traces_kept_on (drop i (k ∷ ks)) e) gap ∙ rest ∙ elim (cases_order e k.day) [
        | inl same ↦
            let above = above_all e k ks (omega arith) r in
            let c = count_all_above e ks above in let d = count_next e k ks (omega arith) in
            if_gone _ (traces_kept_on ks e) (not_from_true _ (le-leb n (count_above e ks) (omega arith))) ∙ sym (if_gone _ (traces_kept_on (k ∷ ks) e) (not_from_true _ (le-leb n (count_above e (k ∷ ks)) (omega arith))))
        | inr (inl low) ↦
            let above = above_all e k ks (omega arith) r in
            let c = count_all_above e ks above in let d = count_here e k ks low in
            if_gone _ (traces_kept_on ks e) (not_from_true _ (le-leb n (count_above e ks) (omega arith))) ∙ sym (if_gone _ (traces_kept_on (k ∷ ks) e) (not_from_true _ (le-leb n (count_above e (k ∷ ks)) (omega arith))))
        | inr (inr high) ↦
            let d = count_next e k ks (omega arith) in
            ap (λ c. if not (nat_le n c) then traces_kept_on ks e else []) (sym d) ∙ ap (λ l. if not (nat_le n (count_above e (k ∷ ks))) then l else []) (sym (traces_other e k ks (λ h. omega arith)))
      ]
]
