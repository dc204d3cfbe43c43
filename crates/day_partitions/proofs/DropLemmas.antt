-- Days are dropped from a book.
use Rattle.std.proofs.Common.{◌≡◌, ◌≢◌, ℕ, zero, suc, ◌+◌, ◌-◌, ◌<◌, ◌≤◌, inl, inr, Bool, not, ◌==◌, List, [], ◌∷◌, ◌++◌, length, get_or, take, drop, remove, All, refl, sym, ap, ◌∙◌, subst, arith}
use Rattle.std.proofs.lemmas.Bool.{cases_eq, cases_lt, eq-eqb, ne_eqb, cond-true, cond-false, not_from_true, not_from_false}
use Rattle.std.proofs.lemmas.List.{get_or-map, length-map, map-append, take-map, drop-map, drop-drop, length-drop}
use Rattle.std.proofs.lemmas.List.Edits.{length-remove}
use Rattle.std.proofs.lemmas.List.Elements.{All-head, All-tail, All-filter, All-drop}
use Rattle.refute_tests.specs.Clearing.{HaveNamesBelow}
use Rattle.day_partitions.specs.Books.{KeptDay, BookState, book, traces_kept_on, AreRising, HasTraces, AreOfDay, IsBook, days_without, newest_days, with_fewer, with_spare_days}
use Rattle.day_partitions.specs.inner.Trees.{TreeState}
use Rattle.day_partitions.specs.inner.Slots.{shown, shown_days, place_in_days, IsDayAt, HasTraceCount}
use Rattle.day_partitions.specs.declared.day.Day.{Day}
use Rattle.day_partitions.proofs.DayLemmas.{Below, place_of_day, place_next, place_here, StandsAt, stands_next, stands_here, IsAbsent, absent_next, absent_here, above_all, pairs_cons, pairs_head, pairs_tail, total, total_cons}
use Rattle.day_partitions.proofs.SlotLemmas.{pairs_drop}
use Rattle.day_partitions.proofs.ShownLemmas.{place_shown, stands}

abbrev Other : ℕ → KeptDay → Bool
Other d k = not (k.day == d)

pub without_other : (d : ℕ) (k : KeptDay) (ks : List KeptDay) → k.day ≢ d → days_without d (k ∷ ks) ≡ k ∷ days_without d ks
without_other d k ks other = cond-true (Other d k) _ _ (not_from_false (k.day == d) (ne_eqb k.day d other))

pub without_same : (d : ℕ) (k : KeptDay) (ks : List KeptDay) → k.day ≡ d → days_without d (k ∷ ks) ≡ days_without d ks
without_same d k ks e = cond-false (Other d k) _ _ (not_from_true (k.day == d) (eq-eqb k.day d e))

-- days that are all above this one stay
without_above : (d : ℕ) (ks : List KeptDay) → All (λ (k : KeptDay). d < k.day) ks → days_without d ks ≡ ks
without_above d [] h = refl
without_above d (k ∷ ks) h =
    let here : d < k.day = All-head (λ (j : KeptDay). d < j.day) k ks h in
    without_other d k ks (λ e. omega arith) ∙ ap (λ l. k ∷ l) (without_above d ks (All-tail (λ (j : KeptDay). d < j.day) k ks h))

pub without_remove : (d : ℕ) (ks : List KeptDay) → AreRising ks → StandsAt d ks → days_without d ks ≡ remove ks (place_of_day d ks)
without_remove d [] r h = absurd (omega (arith, h.0))
without_remove d (k ∷ ks) r h = elim (cases_lt k.day d) [
  | inl low ↦ without_other d k ks (λ e. omega arith) ∙ ap (λ l. k ∷ l) (without_remove d ks (pairs_tail Below k ks r) (stands_next d k ks low h)) ∙ ap (remove (k ∷ ks)) (sym (place_next d k ks low))
  | inr high ↦ without_same d k ks (stands_here d k ks high h) ∙ without_above d ks (above_all d k ks high r) ∙ ap (remove (k ∷ ks)) (sym (place_here d k ks high))
]

pub without_absent : (d : ℕ) (ks : List KeptDay) → AreRising ks → IsAbsent d ks → days_without d ks ≡ ks
without_absent d [] r h = refl
without_absent d (k ∷ ks) r h = elim (cases_lt k.day d) [
  | inl low ↦ without_other d k ks (λ e. omega arith) ∙ ap (λ l. k ∷ l) (without_absent d ks (pairs_tail Below k ks r) (absent_next d k ks low h))
  | inr high ↦ let above = absent_here d k ks high h in
      without_other d k ks (λ e. omega arith) ∙ ap (λ l. k ∷ l) (without_above d ks (above_all d k ks high r))
]

-- the traces of one day
pub traces_other : (d : ℕ) (k : KeptDay) (ks : List KeptDay) → k.day ≢ d → traces_kept_on (k ∷ ks) d ≡ traces_kept_on ks d
traces_other d k ks other = cond-false (k.day == d) _ _ (ne_eqb k.day d other)

pub traces_same : (d : ℕ) (k : KeptDay) (ks : List KeptDay) → k.day ≡ d → traces_kept_on (k ∷ ks) d ≡ k.traces
traces_same d k ks e = cond-true (k.day == d) _ _ (eq-eqb k.day d e)

pub traces_above : (d : ℕ) (ks : List KeptDay) → All (λ (k : KeptDay). d < k.day) ks → traces_kept_on ks d ≡ []
traces_above d [] h = refl
traces_above d (k ∷ ks) h =
    let here : d < k.day = All-head (λ (j : KeptDay). d < j.day) k ks h in
    traces_other d k ks (λ e. omega arith) ∙ traces_above d ks (All-tail (λ (j : KeptDay). d < j.day) k ks h)

pub traces_standing : (d : ℕ) (ks : List KeptDay) (e : KeptDay) → StandsAt d ks → traces_kept_on ks d ≡ (get_or ks (place_of_day d ks) e).traces
traces_standing d [] e h = absurd (omega (arith, h.0))
traces_standing d (k ∷ ks) e h = elim (cases_lt k.day d) [
  | inl low ↦ traces_other d k ks (λ e. omega arith) ∙ traces_standing d ks e (stands_next d k ks low h) ∙ ap (λ i. (get_or (k ∷ ks) i e).traces) (sym (place_next d k ks low))
  | inr high ↦ traces_same d k ks (stands_here d k ks high h) ∙ ap (λ i. (get_or (k ∷ ks) i e).traces) (sym (place_here d k ks high))
]

pub traces_absent : (d : ℕ) (ks : List KeptDay) → AreRising ks → IsAbsent d ks → traces_kept_on ks d ≡ []
traces_absent d [] r h = refl
traces_absent d (k ∷ ks) r h = elim (cases_lt k.day d) [
  | inl low ↦ traces_other d k ks (λ e. omega arith) ∙ traces_absent d ks (pairs_tail Below k ks r) (absent_next d k ks low h)
  | inr high ↦ let above = absent_here d k ks high h in
      traces_other d k ks (λ e. omega arith) ∙ traces_above d ks (above_all d k ks high r)
]

-- ---- what a book keeps
pub total_without : (d : ℕ) (ks : List KeptDay) → total (days_without d ks) ≤ total ks
total_without d [] = omega arith
total_without d (k ∷ ks) = elim (cases_eq k.day d) [
  | inl same ↦ let e = ap total (without_same d k ks same) in omega (arith, e, total_cons k ks, total_without d ks)
  | inr other ↦ let e = ap total (without_other d k ks other) in omega (arith, e, total_cons k (days_without d ks), total_cons k ks, total_without d ks)
]

length_without : (d : ℕ) (ks : List KeptDay) → length (days_without d ks) ≤ length ks
length_without d [] = omega arith
length_without d (k ∷ ks) = elim (cases_eq k.day d) [
  | inl same ↦ let e = ap length (without_same d k ks same) in let h = length_without d ks in omega arith
  | inr other ↦ let e = ap length (without_other d k ks other) in let h = length_without d ks in omega arith
]

pub rising_without : (d : ℕ) (ks : List KeptDay) → AreRising ks → AreRising (days_without d ks)
rising_without d [] r = r
rising_without d (k ∷ ks) r = elim (cases_eq k.day d) [
  | inl same ↦ subst (λ l. AreRising l) (sym (without_same d k ks same)) (rising_without d ks (pairs_tail Below k ks r))
  | inr other ↦ subst (λ l. AreRising l) (sym (without_other d k ks other)) (pairs_cons Below k (days_without d ks) (All-filter (Other d) (Below k) ks (pairs_head Below k ks r)) (rising_without d ks (pairs_tail Below k ks r)))
]

pub total_drop : (n : ℕ) (ks : List KeptDay) → total (drop n ks) ≤ total ks
total_drop zero ks = omega arith
total_drop (suc n) [] = omega arith
total_drop (suc n) (k ∷ ks) = omega (arith, total_cons k ks, total_drop n ks)

pub book_without : (b : BookState) (d : ℕ) → IsBook b → IsBook (with_fewer b (days_without d b.days))
book_without b d k =
    record {
      names = k.names;
      rising = rising_without d b.days k.rising;
      some = All-filter (Other d) HasTraces b.days k.some;
      dated = All-filter (Other d) (λ (x : KeptDay). AreOfDay x.day x.traces) b.days k.dated;
      named = All-filter (Other d) (λ (x : KeptDay). All (HaveNamesBelow b.names) x.traces) b.days k.named;
      counted = omega (arith, k.counted, total_without d b.days);
      room = omega (arith, k.room, length_without d b.days);
    }

pub book_newest : (b : BookState) (n : ℕ) → IsBook b → IsBook (with_fewer b (newest_days n b.days))
book_newest b n k =
    let m = length b.days - n in
    record {
      names = k.names;
      rising = pairs_drop Below m b.days k.rising;
      some = All-drop HasTraces m b.days k.some;
      dated = All-drop (λ (x : KeptDay). AreOfDay x.day x.traces) m b.days k.dated;
      named = All-drop (λ (x : KeptDay). All (HaveNamesBelow b.names) x.traces) m b.days k.named;
      counted = omega (arith, k.counted, total_drop m b.days);
      room = omega (arith, k.room, length-drop m b.days);
    }

pub book_spare : (b : BookState) (n : ℕ) → length b.days + n ≤ 64 → IsBook b → IsBook (with_spare_days b n)
book_spare b n h k =
    record { names = k.names; rising = k.rising; some = k.some; dated = k.dated; named = k.named; counted = k.counted; room = omega (arith, k.room, h) }

-- ---- the days that a contract sees
pub map-remove : (ds : List Day) (n : ℕ) → shown_days (remove ds n) ≡ remove (shown_days ds) n
map-remove ds n =
    map-append shown (take n ds) (drop (suc n) ds) ∙ ap (λ l. l ++ shown_days (drop (suc n) ds)) (sym (take-map shown n ds)) ∙ ap (λ l. take n (shown_days ds) ++ l) (sym (drop-map shown (suc n) ds))

-- a book that lost the day at this place
pub view_dropped : (names day n : ℕ) (t u : TreeState) (ds es : List Day) → n ≡ place_in_days day ds → AreRising (shown_days ds) → IsDayAt ds n day → es ≡ remove ds n → u.spare ≡ t.spare + 1 → book (shown_days es) names u.spare ≡ with_fewer (book (shown_days ds) names t.spare) (days_without day (shown_days ds))
view_dropped names day n t u ds es e r at is spare =
    let gone : shown_days es ≡ days_without day (shown_days ds) =
    ap shown_days is ∙ map-remove ds n ∙ ap (remove (shown_days ds)) (e ∙ sym (place_shown day ds)) ∙ sym (without_remove day (shown_days ds) r (stands day n ds e at)) in
    let fewer : length (days_without day (shown_days ds)) + 1 ≡ length (shown_days ds) =
    ap (λ l. length l + 1) (sym gone ∙ ap shown_days is) ∙ omega (arith, length-map (remove ds n) shown, length-map ds shown, length-remove ds n at.0) in
    let left : u.spare ≡ t.spare + (length (shown_days ds) - length (days_without day (shown_days ds))) = omega (arith, spare, fewer) in
    ap (λ l. book l names u.spare) gone ∙ ap (book (days_without day (shown_days ds)) names) left

pub view_stays : (b : BookState) (ks : List KeptDay) → ks ≡ b.days → b ≡ with_fewer b ks
view_stays b ks e =
    let none : b.spare ≡ b.spare + (length b.days - length ks) = (let l = ap length e in omega arith) in
    ap (λ l. book l b.names b.spare) (sym e) ∙ ap (book ks b.names) none

pub dropped_count : (day n c : ℕ) (ds : List Day) → n ≡ place_in_days day ds → IsDayAt ds n day → HasTraceCount ds n c → c ≡ length (traces_kept_on (shown_days ds) day)
dropped_count day n c ds e at h =
    let d = some_day ds n at.0 in
    h d ∙ ap (λ (x : KeptDay). length x.traces) (sym (get_or-map shown ds n d (shown d) at.0) ∙ ap (λ i. get_or (shown_days ds) i (shown d)) (e ∙ sym (place_shown day ds)))
    ∙ ap length (sym (traces_standing day (shown_days ds) (shown d) (stands day n ds e at)))
  where
    some_day : (ds : List Day) (n : ℕ) → n < length ds → Day
    some_day [] n l = absurd (omega arith)
    some_day (d ∷ ds) n l = d

pub traces_within : (ks : List KeptDay) (day : ℕ) → length (traces_kept_on ks day) ≤ total ks
traces_within [] day = omega arith
traces_within (k ∷ ks) day = elim (cases_eq k.day day) [
  | inl same ↦ let e = ap length (traces_same day k ks same) in omega (arith, e, total_cons k ks)
  | inr other ↦ let e = ap length (traces_other day k ks other) in omega (arith, e, total_cons k ks, traces_within ks day)
]

-- ---- the oldest day is dropped
pub first_total : (ds : List Day) (n : ℕ) → 0 < length ds → HasTraceCount ds 0 n → n + total (shown_days (remove ds 0)) ≡ total (shown_days ds)
first_total [] n l h = absurd (omega arith)
first_total (d ∷ ds) n l h = let e = h d in omega (arith, e, total_cons (shown d) (shown_days ds))

pub oldest_items : (ds es init : List Day) → 0 < length ds → length ds ≤ length init → ds ≡ drop (length init - length ds) init → es ≡ remove ds 0 → es ≡ drop (length init - length es) init
oldest_items ds es init some within e is =
    let size : length es + 1 ≡ length ds = ap (λ l. length l + 1) is ∙ length-remove ds 0 some in
    let n : length init - length ds + 1 ≡ length init - length es = omega arith in
    is ∙ ap (drop 1) e ∙ drop-drop 1 (length init - length ds) init ∙ ap (λ i. drop i init) n

pub view_newest : (names n : ℕ) (t u : TreeState) (ds es : List Day) → es ≡ drop (length ds - n) ds → u.spare ≡ t.spare + (length ds - n) → book (shown_days es) names u.spare ≡ with_fewer (book (shown_days ds) names t.spare) (newest_days n (shown_days ds))
view_newest names n t u ds es is spare =
    let size = length-map ds shown in
    let days : shown_days es ≡ newest_days n (shown_days ds) = ap shown_days is ∙ sym (drop-map shown (length ds - n) ds) ∙ ap (λ m. drop (m - n) (shown_days ds)) (sym size) in
    let left : u.spare ≡ t.spare + (length (shown_days ds) - length (newest_days n (shown_days ds))) = omega (arith, spare, size, length-drop (length (shown_days ds) - n) (shown_days ds)) in
    ap (λ l. book l names u.spare) days ∙ ap (book (newest_days n (shown_days ds)) names) left
