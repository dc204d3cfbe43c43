-- The sheets of several days that are added to a book at once.
use Rattle.std.proofs.Common.{◌≡◌, ◌≢◌, ℕ, zero, suc, ◌+◌, ◌<◌, ◌⊎◌, inl, inr, Bool, true, false, not, ◌==◌, ◌||◌, if◌then◌else◌, List, [], ◌∷◌, ◌++◌, length, map, filter, All, AllPairs, Contains, refl, sym, ap, ◌∙◌, subst, arith}
use Rattle.std.proofs.lemmas.Bool.{cases_eq, eq-eqb, ne_eqb}
use Rattle.std.proofs.lemmas.List.{append-nil}
use Rattle.std.proofs.lemmas.List.Sums.{sum_by-cons}
use Rattle.std.proofs.lemmas.List.Elements.{All-nil, All-cons, All-head, All-tail, All-weaker, filter-append}
use Rattle.std.specs.List.{flat_map}
use Rattle.trace_types.specs.declared.named_trace.NamedTrace.{NamedTrace}
use Rattle.day_partitions.specs.Books.{BookState, KeptDay, all_traces, has_day, AreOfDay, with_day_traces, with_added}
use Rattle.day_partitions.specs.Batches.{with_all, new_days}
use Rattle.day_partitions.specs.declared.dated_sheet.DatedSheet.{DatedSheet}
use Rattle.day_partitions.proofs.DayLemmas.{with_below, with_same, with_above, has_above}
use Rattle.day_partitions.proofs.FilterLemmas.{filter_yes, filter_no, filter_all, filter_none}
use Rattle.book_laws.specs.Shown.{named_on}
use Rattle.book_laws.specs.BookLaws.{AreSheetsOf}
use Rattle.book_laws.proofs.BookLemmas.{AreDays, named_day, with_puts, with_days, with_cases, days_tail, all_rise}
use Rattle.book_laws.proofs.TakenLemmas.{put_all, put_in, has_key, filter_put_all, one_rising, put_all_rises}

abbrev pub sheet_day : DatedSheet → ℕ
sheet_day s = s.day

abbrev pub traces_in : List DatedSheet → List NamedTrace
traces_in ss = flat_map (λ (s : DatedSheet). s.sheet.traces) ss

-- what is used of sheets one by one
pub record AreOfDays (ss : List DatedSheet) : Type 0 where
  pub dated : All (λ (s : DatedSheet). AreOfDay s.day s.sheet.traces) ss
  pub some : All (λ (s : DatedSheet). 0 < length s.sheet.traces) ss

of_days_tail : (s : DatedSheet) (ss : List DatedSheet) → AreOfDays (s ∷ ss) → AreOfDays ss
of_days_tail s ss h = record { dated = All-tail (λ (r : DatedSheet). AreOfDay r.day r.sheet.traces) s ss h.dated; some = All-tail (λ (r : DatedSheet). 0 < length r.sheet.traces) s ss h.some }

put_append : (ts xs us : List NamedTrace) → put_all named_day xs (ts ++ us) ≡ put_all named_day (put_all named_day xs ts) us
put_append [] xs us = refl
put_append (t ∷ ts) xs us = put_append ts (put_in named_day xs t) us

pub with_all_days : (b : BookState) (ss : List DatedSheet) → AreDays b.days → AreOfDays ss → AreDays (with_all b ss).days
with_all_days b [] h g = h
with_all_days b (s ∷ ss) h g = with_all_days (with_added b s.day s.sheet.traces) ss
    (with_days s.day s.sheet.traces b.days h (All-head (λ (r : DatedSheet). AreOfDay r.day r.sheet.traces) s ss g.dated) (All-head (λ (r : DatedSheet). 0 < length r.sheet.traces) s ss g.some)) (of_days_tail s ss g)

pub with_all_puts : (b : BookState) (ss : List DatedSheet) → AreDays b.days → AreOfDays ss → all_traces (with_all b ss).days ≡ put_all named_day (all_traces b.days) (traces_in ss)
with_all_puts b [] h g = refl
with_all_puts b (s ∷ ss) h g =
    let own = All-head (λ (r : DatedSheet). AreOfDay r.day r.sheet.traces) s ss g.dated in
    let some = All-head (λ (r : DatedSheet). 0 < length r.sheet.traces) s ss g.some in
    with_all_puts (with_added b s.day s.sheet.traces) ss (with_days s.day s.sheet.traces b.days h own some) (of_days_tail s ss g)
    ∙ ap (λ l. put_all named_day l (traces_in ss)) (with_puts s.day s.sheet.traces b.days h own)
    ∙ sym (put_append s.sheet.traces (all_traces b.days) (traces_in ss))

-- ---- sheets of some traces have of each day what these have
pub named_of : (d : ℕ) (named : List NamedTrace) → AreOfDay d (named_on d named)
named_of d [] = All-nil (λ (t : NamedTrace). t.day ≡ d)
named_of d (t ∷ ts) = elim (cases_eq t.day d) [
  | inl is ↦ rw (filter_yes (λ (u : NamedTrace). u.day == d) t ts (eq-eqb t.day d is)) (All-cons (λ (u : NamedTrace). u.day ≡ d) t (named_on d ts) is (named_of d ts))
  | inr not ↦ rw (filter_no (λ (u : NamedTrace). u.day == d) t ts (ne_eqb t.day d not)) (named_of d ts)
]

all_named : (named : List NamedTrace) (ss : List DatedSheet) → All (λ (s : DatedSheet). s.sheet.traces ≡ named_on s.day named) ss → All (λ (s : DatedSheet). AreOfDay s.day s.sheet.traces) ss
all_named named ss h = All-weaker (λ (s : DatedSheet). s.sheet.traces ≡ named_on s.day named) (λ (s : DatedSheet). AreOfDay s.day s.sheet.traces) (λ s e. subst (AreOfDay s.day) (sym e) (named_of s.day named)) ss h

pub are_of_days : (ss : List DatedSheet) (named : List NamedTrace) → AreSheetsOf ss named → AreOfDays ss
are_of_days ss named h = record { dated = all_named named ss h.each; some = h.some }

pairs_first : (s : DatedSheet) (ss : List DatedSheet) → AllPairs (λ (q r : DatedSheet). q.day < r.day) (s ∷ ss) → All (λ (r : DatedSheet). s.day < r.day) ss
pairs_first s ss p k d l = p 0 (suc k) d (omega arith) (omega arith)

pairs_rest : (s : DatedSheet) (ss : List DatedSheet) → AllPairs (λ (q r : DatedSheet). q.day < r.day) (s ∷ ss) → AllPairs (λ (q r : DatedSheet). q.day < r.day) ss
pairs_rest s ss p i j d l m = p (suc i) (suc j) d (omega arith) (omega arith)

none_of : (k : ℕ) (ss : List DatedSheet) → All (λ (s : DatedSheet). k < s.day) ss → All (λ (s : DatedSheet). AreOfDay s.day s.sheet.traces) ss → filter (has_key named_day k) (traces_in ss) ≡ []
none_of k [] h g = refl
none_of k (s ∷ ss) h g =
    let rest = none_of k ss (All-tail (λ (r : DatedSheet). k < r.day) s ss h) (All-tail (λ (r : DatedSheet). AreOfDay r.day r.sheet.traces) s ss g) in
    let l = All-head (λ (r : DatedSheet). k < r.day) s ss h in
    filter-append (has_key named_day k) s.sheet.traces (traces_in ss)
    ∙ ap (λ m. m ++ filter (has_key named_day k) (traces_in ss)) (filter_none (has_key named_day k) s.sheet.traces (All-weaker (λ (t : NamedTrace). t.day ≡ s.day) (λ (t : NamedTrace). has_key named_day k t ≡ false) (λ t e. ne_eqb t.day k (λ f. omega (arith, l, e, f))) s.sheet.traces (All-head (λ (r : DatedSheet). AreOfDay r.day r.sheet.traces) s ss g)))
    ∙ rest

abbrev OneOrNone : ℕ → List NamedTrace → List DatedSheet → Type 0
OneOrNone k named ss = (filter (has_key named_day k) (traces_in ss) ≡ named_on k named) ⊎ ((filter (has_key named_day k) (traces_in ss) ≡ []) × (Contains (map sheet_day ss) k → ⊥))

not_in_cons : (k : ℕ) (s : DatedSheet) (ss : List DatedSheet) → s.day ≢ k → (Contains (map sheet_day ss) k → ⊥) → Contains (map sheet_day (s ∷ ss)) k → ⊥
not_in_cons k s ss other none (zero, l, e) = other e
not_in_cons k s ss other none (suc i, l, e) = none (i, omega (arith, l), e)

one_or_none : (k : ℕ) (named : List NamedTrace) (ss : List DatedSheet) → AllPairs (λ (q r : DatedSheet). q.day < r.day) ss → All (λ (s : DatedSheet). s.sheet.traces ≡ named_on s.day named) ss → OneOrNone k named ss
one_or_none k named [] p h = inr (refl, λ c. absurd (let l = c.1 in omega (arith, l)))
one_or_none k named (s ∷ ss) p h =
    let dated = all_named named (s ∷ ss) h in
    let own = All-head (λ (r : DatedSheet). AreOfDay r.day r.sheet.traces) s ss dated in
    let tail = All-tail (λ (r : DatedSheet). AreOfDay r.day r.sheet.traces) s ss dated in
    let rest = one_or_none k named ss (pairs_rest s ss p) (All-tail (λ (r : DatedSheet). r.sheet.traces ≡ named_on r.day named) s ss h) in
    let split = filter-append (has_key named_day k) s.sheet.traces (traces_in ss) in
    elim (cases_eq s.day k) [
      | inl is ↦ inl (split
          ∙ ap (λ m. m ++ filter (has_key named_day k) (traces_in ss)) (filter_all (has_key named_day k) s.sheet.traces (All-weaker (λ (t : NamedTrace). t.day ≡ s.day) (λ (t : NamedTrace). has_key named_day k t ≡ true) (λ t e. eq-eqb t.day k (e ∙ is)) s.sheet.traces own))
          ∙ ap (λ m. s.sheet.traces ++ m) (none_of k ss (subst (λ e. All (λ (r : DatedSheet). e < r.day) ss) is (pairs_first s ss p)) tail)
          ∙ append-nil s.sheet.traces ∙ All-head (λ (r : DatedSheet). r.sheet.traces ≡ named_on r.day named) s ss h ∙ ap (λ e. named_on e named) is)
      | inr other ↦
          let here : filter (has_key named_day k) (traces_in (s ∷ ss)) ≡ filter (has_key named_day k) (traces_in ss) = split ∙ ap (λ m. m ++ filter (has_key named_day k) (traces_in ss)) (filter_none (has_key named_day k) s.sheet.traces (All-weaker (λ (t : NamedTrace). t.day ≡ s.day) (λ (t : NamedTrace). has_key named_day k t ≡ false) (λ t e. ne_eqb t.day k (λ f. other (sym e ∙ f))) s.sheet.traces own)) in
          elim rest [
            | inl same ↦ inl (here ∙ same)
            | inr (none, out) ↦ inr (here ∙ none, not_in_cons k s ss other out)
          ]
    ]

named_none : (k : ℕ) (named : List NamedTrace) (ds : List ℕ) → All (λ (t : NamedTrace). Contains ds t.day) named → (Contains ds k → ⊥) → named_on k named ≡ []
named_none k named ds h out = filter_none (λ (t : NamedTrace). t.day == k) named (All-weaker (λ (t : NamedTrace). Contains ds t.day) (λ (t : NamedTrace). (t.day == k) ≡ false) (λ t c. ne_eqb t.day k (λ e. out (subst (λ d. Contains ds d) e c))) named h)

pub sheets_have : (k : ℕ) (ss : List DatedSheet) (named : List NamedTrace) → AreSheetsOf ss named → filter (has_key named_day k) (traces_in ss) ≡ filter (has_key named_day k) named
sheets_have k ss named h = elim (one_or_none k named ss h.rising h.each) [
  | inl same ↦ same
  | inr (none, out) ↦ none ∙ sym (named_none k named (map sheet_day ss) h.all out)
]

-- so the book has what putting in the traces themselves gives
pub with_sheets : (b : BookState) (ss : List DatedSheet) (named : List NamedTrace) → AreDays b.days → AreSheetsOf ss named → all_traces (with_all b ss).days ≡ put_all named_day (all_traces b.days) named
with_sheets b ss named h g =
    let days = are_of_days ss named g in
    let rise = all_rise b.days h in
    with_all_puts b ss h days
    ∙ one_rising named_day (put_all named_day (all_traces b.days) (traces_in ss)) (put_all named_day (all_traces b.days) named)
    (put_all_rises named_day (all_traces b.days) (traces_in ss) rise) (put_all_rises named_day (all_traces b.days) named rise)
    (λ k. filter_put_all named_day k (all_traces b.days) (traces_in ss) rise ∙ ap (λ m. filter (has_key named_day k) (all_traces b.days) ++ m) (sheets_have k ss named g) ∙ sym (filter_put_all named_day k (all_traces b.days) named rise))

-- ---- how many days there are then
has_next : (e d : ℕ) (ts : List NamedTrace) (ks : List KeptDay) → d ≢ e → has_day (with_day_traces d ts ks) e ≡ has_day ks e
has_next e d ts [] other = ap (λ b. b || false) (ne_eqb d e other)
has_next e d ts (k ∷ ks) other =
    let rest = has_next e d ts ks other in
    elim (with_cases d ts k ks) [
      | inl low ↦ ap (λ l. has_day l e) (with_below d ts k ks low) ∙ ap (λ b. (k.day == e) || b) rest
      | inr (inl same) ↦ ap (λ l. has_day l e) (with_same d ts k ks same) ∙ ap (λ c. (c == e) || has_day ks e) (sym same)
      | inr (inr high) ↦ ap (λ l. has_day l e) (with_above d ts k ks high) ∙ ap (λ b. b || has_day (k ∷ ks) e) (ne_eqb d e other)
    ]

abbrev one_if : Bool → ℕ
one_if b = if b then 0 else 1

day_firsts : (k : KeptDay) (ks : List KeptDay) → AreDays (k ∷ ks) → All (λ (j : KeptDay). k.day < j.day) ks
day_firsts k ks h i d l = h.rising 0 (suc i) d (omega arith) (omega arith)

next_sum : (m n : ℕ) → suc (m + n) ≡ suc m + n
next_sum m n = omega arith

length_with : (d : ℕ) (ts : List NamedTrace) (ks : List KeptDay) → AreDays ks → length (with_day_traces d ts ks) ≡ length ks + one_if (has_day ks d)
length_with d ts [] h = refl
length_with d ts (k ∷ ks) h =
    let rest = length_with d ts ks (days_tail k ks h) in
    elim (with_cases d ts k ks) [
      | inl low ↦
          let e = ap length (with_below d ts k ks low) in
          let same : has_day (k ∷ ks) d ≡ has_day ks d = ap (λ b. b || has_day ks d) (ne_eqb k.day d (λ e. omega (arith, low, e))) in
          e ∙ ap suc rest ∙ ap (λ b. suc (length ks + one_if b)) (sym same) ∙ next_sum (length ks) (one_if (has_day (k ∷ ks) d))
      | inr (inl same) ↦
          let e = ap length (with_same d ts k ks same) in
          let is : has_day (k ∷ ks) d ≡ true = ap (λ b. b || has_day ks d) (eq-eqb k.day d same) in
          e ∙ (let z : suc (length ks) ≡ suc (length ks) + 0 = omega arith in z) ∙ ap (λ b. suc (length ks) + one_if b) (sym is)
      | inr (inr high) ↦
          let e = ap length (with_above d ts k ks high) in
          let no : has_day (k ∷ ks) d ≡ false = has_above d (k ∷ ks) (All-cons (λ (j : KeptDay). d < j.day) k ks high (All-weaker (λ (j : KeptDay). k.day < j.day) (λ (j : KeptDay). d < j.day) (λ j l. omega (arith, high, l)) ks (day_firsts k ks h))) in
          e ∙ (let z : suc (suc (length ks)) ≡ suc (length ks) + 1 = omega arith in z) ∙ ap (λ b. suc (length ks) + one_if b) (sym no)
    ]

new_next : (ks : List KeptDay) (s : DatedSheet) (ss : List DatedSheet) → new_days ks (s ∷ ss) ≡ (if not (has_day ks s.day) then 1 else 0) + new_days ks ss
new_next ks s ss = sum_by-cons (λ (r : DatedSheet). if not (has_day ks r.day) then 1 else 0) s ss

new_same : (ks js : List KeptDay) (ss : List DatedSheet) → All (λ (s : DatedSheet). has_day ks s.day ≡ has_day js s.day) ss → new_days ks ss ≡ new_days js ss
new_same ks js [] h = refl
new_same ks js (s ∷ ss) h =
    new_next ks s ss ∙ ap (λ b. (if not b then 1 else 0) + new_days ks ss) (All-head (λ (s : DatedSheet). has_day ks s.day ≡ has_day js s.day) s ss h)
    ∙ ap (λ n. (if not (has_day js s.day) then 1 else 0) + n) (new_same ks js ss (All-tail (λ (s : DatedSheet). has_day ks s.day ≡ has_day js s.day) s ss h))
    ∙ sym (new_next js s ss)

-- one day more where it is a new one
add_up : (c : Bool) (all long rest old new more : ℕ) → all ≡ long + rest → rest ≡ new → long ≡ old + one_if c → more ≡ (if not c then 1 else 0) + new → all ≡ old + more
add_up true all long rest old new more e f g h = omega (arith, e, f, g, h)
add_up false all long rest old new more e f g h = omega (arith, e, f, g, h)

pub count_days : (b : BookState) (ss : List DatedSheet) → AreDays b.days → AreOfDays ss → AllPairs (λ (q r : DatedSheet). q.day < r.day) ss → length (with_all b ss).days ≡ length b.days + new_days b.days ss
count_days b [] h g p = (let z : length b.days ≡ length b.days + 0 = omega arith in z)
count_days b (s ∷ ss) h g p =
    let own = All-head (λ (r : DatedSheet). AreOfDay r.day r.sheet.traces) s ss g.dated in
    let some = All-head (λ (r : DatedSheet). 0 < length r.sheet.traces) s ss g.some in
    let next = with_added b s.day s.sheet.traces in
    let rest = count_days next ss (with_days s.day s.sheet.traces b.days h own some) (of_days_tail s ss g) (pairs_rest s ss p) in
    let same = new_same next.days b.days ss (All-weaker (λ (r : DatedSheet). s.day < r.day) (λ (r : DatedSheet). has_day next.days r.day ≡ has_day b.days r.day) (λ r l. has_next r.day s.day s.sheet.traces b.days (λ e. omega (arith, l, e))) ss (pairs_first s ss p)) in
    let long = length_with s.day s.sheet.traces b.days h in
    let more = new_next b.days s ss in
    add_up (has_day b.days s.day) _ _ _ _ _ _ rest same long more
