-- Each call of a book leaves the kept traces of one more command.
use Rattle.std.proofs.Common.{◌≡◌, ℕ, ◌<◌, inl, inr, Bool, true, false, not, ◌&&◌, ◌||◌, ◌==◌, nat_lt, nat_le, if◌then◌else◌, List, [], ◌∷◌, ◌++◌, length, map, filter, All, refl, sym, ap, ◌∙◌, subst, arith, length-append}
use Rattle.std.proofs.lemmas.Bool.{cases_eq, cases_order, cases_Bool, eq-eqb, ne_eqb, and_from, and_right, or_left, not_from_false}
use Rattle.std.proofs.lemmas.List.{append-nil, length-map}
use Rattle.std.proofs.lemmas.List.Elements.{All-head, All-tail, All-nil, All-filter, All-drop}
use Rattle.trace_types.specs.declared.named_trace.NamedTrace.{NamedTrace}
use Rattle.day_partitions.specs.Books.{KeptDay, kept_day, AreRising, HasTraces, has_day, traces_kept_on}
use Rattle.day_partitions.specs.Kept.{DayCommand, Add, Drop, Keep, Taken, distinct_numbers, greater_days_taken, kept_traces, kept_of, AreKept, NothingIsKept, CallsKeep, OneListIsKept}
use Rattle.day_partitions.proofs.DayLemmas.{Below, has_next, has_here, has_above, above_all, all_with, rising_with, pairs_nil, pairs_cons, pairs_head, pairs_tail}
use Rattle.day_partitions.proofs.DropLemmas.{traces_other, traces_same, traces_above, rising_without}
use Rattle.day_partitions.proofs.SlotLemmas.{pairs_drop}
use Rattle.day_partitions.proofs.FilterLemmas.{filter_yes, filter_no, is_in, are_distinct, in_different, different_distinct, same_size}
use Rattle.day_partitions.proofs.KeptLemmas.{day_is, trace_in, kept_of_next, traces_with, traces_without, traces_newest, count_above}

-- ---- a day is kept exactly where it has traces
abbrev has_some : {X : Type 0} → List X → Bool
has_some [] = false
has_some (x ∷ xs) = true

some_of_length : {X : Type 0} (xs : List X) → 0 < length xs → has_some xs ≡ true
some_of_length [] l = absurd (omega arith)
some_of_length (x ∷ xs) l = refl

taken_in : (d : ℕ) (ts : List Taken) → is_in d (map (λ (t : Taken). t.day) ts) ≡ has_some (map trace_in (filter (day_is d) ts))
taken_in d [] = refl
taken_in d (t ∷ ts) = elim (cases_Bool (t.day == d)) [
  | inl same ↦ or_left (t.day == d) (is_in d (map (λ (t : Taken). t.day) ts)) same ∙ sym (ap (λ l. has_some (map trace_in l)) (filter_yes (day_is d) t ts same))
  | inr other ↦ ap (λ b. b || is_in d (map (λ (t : Taken). t.day) ts)) other ∙ taken_in d ts ∙ sym (ap (λ l. has_some (map trace_in l)) (filter_no (day_is d) t ts other))
]

has_traces : (d : ℕ) (ks : List KeptDay) → All HasTraces ks → has_some (traces_kept_on ks d) ≡ has_day ks d
has_traces d [] h = refl
has_traces d (k ∷ ks) h = elim (cases_eq k.day d) [
  | inl same ↦ ap has_some (traces_same d k ks same) ∙ some_of_length k.traces (All-head HasTraces k ks h) ∙ sym (has_here d k ks same)
  | inr other ↦ ap has_some (traces_other d k ks other) ∙ has_traces d ks (All-tail HasTraces k ks h) ∙ sym (has_next d k ks other)
]

in_greater : (e d : ℕ) (ns : List ℕ) → is_in d (filter (λ n. nat_lt e n) ns) ≡ (is_in d ns && nat_lt e d)
in_greater e d [] = refl
in_greater e d (n ∷ ns) = elim (cases_Bool (nat_lt e n)) [
  | inl yes_n ↦ ap (is_in d) (filter_yes (λ m. nat_lt e m) n ns yes_n) ∙ elim (cases_eq n d) [
    | inl same ↦ ap (λ b. b || is_in d (filter (λ m. nat_lt e m) ns)) (eq-eqb n d same) ∙ sym (ap (λ i. nat_lt e i) (sym same) ∙ yes_n) ∙ ap (λ b. (b || is_in d ns) && nat_lt e d) (sym (eq-eqb n d same))
    | inr other ↦ ap (λ b. b || is_in d (filter (λ m. nat_lt e m) ns)) (ne_eqb n d other) ∙ in_greater e d ns ∙ ap (λ b. (b || is_in d ns) && nat_lt e d) (sym (ne_eqb n d other))
  ]
  | inr no_n ↦ ap (is_in d) (filter_no (λ m. nat_lt e m) n ns no_n) ∙ in_greater e d ns ∙ elim (cases_eq n d) [
    | inl same ↦ let low : nat_lt e d ≡ false = ap (λ i. nat_lt e i) (sym same) ∙ no_n in and_right (is_in d ns) (nat_lt e d) low ∙ sym (and_right (is_in d (n ∷ ns)) (nat_lt e d) low)
    | inr other ↦ ap (λ b. (b || is_in d ns) && nat_lt e d) (sym (ne_eqb n d other))
  ]
]

abbrev days_of : List KeptDay → List ℕ
days_of ks = map (λ (k : KeptDay). k.day) ks

in_days : (d : ℕ) (ks : List KeptDay) → is_in d (days_of ks) ≡ has_day ks d
in_days d [] = refl
in_days d (k ∷ ks) = ap (λ b. (k.day == d) || b) (in_days d ks)

abbrev above : ℕ → KeptDay → Bool
above e k = nat_lt e k.day

days_above : (e : ℕ) (ks : List KeptDay) → days_of (filter (above e) ks) ≡ filter (λ n. nat_lt e n) (days_of ks)
days_above e [] = refl
days_above e (k ∷ ks) = elim (cases_Bool (nat_lt e k.day)) [
  | inl yes_k ↦ ap days_of (filter_yes (above e) k ks yes_k) ∙ ap (λ l. k.day ∷ l) (days_above e ks) ∙ sym (filter_yes (λ n. nat_lt e n) k.day (days_of ks) yes_k)
  | inr no_k ↦ ap days_of (filter_no (above e) k ks no_k) ∙ days_above e ks ∙ sym (filter_no (λ n. nat_lt e n) k.day (days_of ks) no_k)
]

rising_filter : (p : KeptDay → Bool) (ks : List KeptDay) → AreRising ks → AreRising (filter p ks)
rising_filter p [] r = r
rising_filter p (k ∷ ks) r = elim (cases_Bool (p k)) [
  | inl yes_k ↦ subst (λ l. AreRising l) (sym (filter_yes p k ks yes_k)) (pairs_cons Below k (filter p ks) (All-filter p (Below k) ks (pairs_head Below k ks r)) (rising_filter p ks (pairs_tail Below k ks r)))
  | inr no_k ↦ subst (λ l. AreRising l) (sym (filter_no p k ks no_k)) (rising_filter p ks (pairs_tail Below k ks r))
]

rising_distinct : (ks : List KeptDay) → AreRising ks → are_distinct (days_of ks) ≡ true
rising_distinct [] r = refl
rising_distinct (k ∷ ks) r = and_from (not (is_in k.day (days_of ks))) (are_distinct (days_of ks)) (not_from_false _ (in_days k.day ks ∙ has_above k.day ks (pairs_head Below k ks r))) (rising_distinct ks (pairs_tail Below k ks r))

greater_is : (ks : List KeptDay) (cs : List DayCommand) (e : ℕ) → AreKept ks cs → greater_days_taken (kept_traces cs) e ≡ count_above e ks
greater_is ks cs e h =
    let taken_days = map (λ (t : Taken). t.day) (kept_traces cs) in
    let same : (d : ℕ) → is_in d taken_days ≡ is_in d (days_of ks) = λ d. taken_in d (kept_traces cs) ∙ ap has_some (sym (h.traces d)) ∙ has_traces d ks h.some ∙ sym (in_days d ks) in
    same_size (distinct_numbers (filter (λ d. nat_lt e d) taken_days)) (days_of (filter (above e) ks)) (different_distinct (filter (λ d. nat_lt e d) taken_days)) (rising_distinct (filter (above e) ks) (rising_filter (above e) ks h.rising))
    (λ d. in_different d (filter (λ n. nat_lt e n) taken_days) ∙ in_greater e d taken_days ∙ ap (λ b. b && nat_lt e d) (same d) ∙ sym (in_greater e d (days_of ks)) ∙ sym (ap (is_in d) (days_above e ks)))
    ∙ length-map (filter (above e) ks) (λ (k : KeptDay). k.day)

pub nothing_is_kept : NothingIsKept
nothing_is_kept = record { rising = pairs_nil Below; some = All-nil HasTraces; traces = λ d. refl }

pub calls_keep : CallsKeep
calls_keep ks cs (Add d ts) some h =
    record {
      rising = rising_with d ts ks h.rising;
      some = all_with HasTraces d ts ks h.some some (λ k l e. omega (arith, length-append k.traces ts));
      traces = λ e. traces_with d ts ks e h.rising ∙ ap (λ l. l ++ (if d == e then ts else [])) (h.traces e) ∙ sym (kept_of_next (Add d ts) cs e);
    }
calls_keep ks cs (Drop d) some h =
    record {
      rising = rising_without d ks h.rising;
      some = All-filter (λ k. not (k.day == d)) HasTraces ks h.some;
      traces = λ e. traces_without d ks e ∙ ap (λ l. if not (e == d) then l else []) (h.traces e) ∙ sym (append-nil (if not (e == d) then kept_of cs e else [])) ∙ sym (kept_of_next (Drop d) cs e);
    }
calls_keep ks cs (Keep n) some h =
    record {
      rising = pairs_drop Below _ ks h.rising;
      some = All-drop HasTraces _ ks h.some;
      traces = λ e. traces_newest n ks e h.rising ∙ ap (λ l. if not (nat_le n (count_above e ks)) then l else []) (h.traces e) ∙ ap (λ c. if not (nat_le n c) then kept_of cs e else []) (sym (greater_is ks cs e h))
          ∙ sym (append-nil (if not (nat_le n (greater_days_taken (kept_traces cs) e)) then kept_of cs e else [])) ∙ sym (kept_of_next (Keep n) cs e);
    }

-- ---- the traces of each day fix the days
none_absurd : (ts : List NamedTrace) → 0 < length ts → ts ≡ [] → ⊥
none_absurd ts l e = let n = ap length e in omega arith

same_days_by : (js ks : List KeptDay) → AreRising js → AreRising ks → All HasTraces js → All HasTraces ks → ((d : ℕ) → traces_kept_on js d ≡ traces_kept_on ks d) → js ≡ ks
same_days_by [] [] rj rk sj sk h = refl
same_days_by [] (k ∷ ks) rj rk sj sk h = absurd (none_absurd k.traces (All-head HasTraces k ks sk) (sym (traces_same k.day k ks refl) ∙ sym (h k.day)))
same_days_by (j ∷ js) [] rj rk sj sk h = absurd (none_absurd j.traces (All-head HasTraces j js sj) (sym (traces_same j.day j js refl) ∙ h j.day))
same_days_by (j ∷ js) (k ∷ ks) rj rk sj sk h = elim (cases_order j.day k.day) [
  | inl same ↦
      let traces : j.traces ≡ k.traces = sym (traces_same j.day j js refl) ∙ h j.day ∙ traces_same j.day k ks (sym same) in
      let head : j ≡ k = ap (λ i. kept_day i j.traces) same ∙ ap (kept_day k.day) traces in
      let tails : (d : ℕ) → traces_kept_on js d ≡ traces_kept_on ks d = λ d. elim (cases_eq j.day d) [
        | inl at ↦ traces_above d js (subst (λ i. All (λ (x : KeptDay). i < x.day) js) at (pairs_head Below j js rj)) ∙ sym (traces_above d ks (subst (λ i. All (λ (x : KeptDay). i < x.day) ks) (sym same ∙ at) (pairs_head Below k ks rk)))
        | inr other ↦ sym (traces_other d j js other) ∙ h d ∙ traces_other d k ks (λ e. other (same ∙ e))
      ] in
      ap (λ x. x ∷ js) head ∙ ap (λ l. k ∷ l) (same_days_by js ks (pairs_tail Below j js rj) (pairs_tail Below k ks rk) (All-tail HasTraces j js sj) (All-tail HasTraces k ks sk) tails)
  | inr (inl low) ↦ absurd (none_absurd j.traces (All-head HasTraces j js sj) (sym (traces_same j.day j js refl) ∙ h j.day ∙ traces_other j.day k ks (λ e. omega arith) ∙ traces_above j.day ks (above_all j.day k ks (omega arith) rk)))
  | inr (inr high) ↦ absurd (none_absurd k.traces (All-head HasTraces k ks sk) (sym (traces_same k.day k ks refl) ∙ sym (h k.day) ∙ traces_other k.day j js (λ e. omega arith) ∙ traces_above k.day js (above_all k.day j js (omega arith) rj)))
]

pub one_list_is_kept : OneListIsKept
one_list_is_kept js ks cs a b = same_days_by js ks a.rising b.rising a.some b.some (λ d. a.traces d ∙ sym (b.traces d))
