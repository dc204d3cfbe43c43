-- Days whose lists of traces have more room, and books over them.
use Rattle.std.proofs.Common.{◌≡◌, ◌≢◌, ℕ, zero, suc, ◌+◌, ◌-◌, ◌^◌, ◌<◌, ◌≤◌, inl, inr, ◌↔◌, Bool, true, false, cond, List, [], ◌∷◌, length, get_or, set, None, is_some, IsTrue, count_by, All, vec_capacity, refl, sym, ap, ◌∙◌, subst, arith, length-set, length-append, ◌==◌}
use Rattle.std.proofs.lemmas.Bool.{cases_eq, cases_lt, cases_Bool, false≢true, or_parts, eq-eqb}
use Rattle.std.proofs.lemmas.List.{get_or-map, length-map, get_or-set_same, get_or-set_other, get_or_default}
use Rattle.std.proofs.lemmas.List.Elements.{All-append}
use Rattle.pipeline_tests.specs.DaySheets.{SheetState}
use Rattle.refute_tests.specs.Clearing.{HaveNamesBelow}
use Rattle.trace_types.specs.declared.named_trace.NamedTrace.{NamedTrace}
use Rattle.day_partitions.specs.Books.{KeptDay, kept_day, BookState, has_day, all_traces, AreRising, HasTraces, AreOfDay, IsBook, IsSheetOf, IsFull, with_day_traces, with_added}
use Rattle.day_partitions.specs.inner.Trees.{TreeState, leaf_words}
use Rattle.refute_tests.specs.Survivors.{LackRefuted}
use Rattle.day_partitions.specs.inner.Slots.{shown, shown_days, place_in_days, IsDayAt, HasLeaf, AreInSlots, IsSameDay, AreSameDays, HasTraceRoom}
use Rattle.day_partitions.specs.declared.day.Day.{Day}
use Rattle.day_partitions.proofs.DayLemmas.{all_with, rising_with, total_with, count_with}
use Rattle.day_partitions.proofs.ShownLemmas.{kept_at, not_kept}

pub kept_by_place : (day n : ℕ) (ds : List Day) (b : Bool) → n ≡ place_in_days day ds → AreRising (shown_days ds) → IsTrue b ↔ IsDayAt ds n day → b ≡ has_day (shown_days ds) day
kept_by_place day n ds true e r h = sym (kept_at day n ds e (h.0 refl))
kept_by_place day n ds false e r h = sym (not_kept day n ds e r (λ at. false≢true (h.1 at)))

-- one day stands at one place alone
pub day_once : (ds : List Day) (k n : ℕ) (e : Day) → AreRising (shown_days ds) → k < length ds → n < length ds → (get_or ds k e).day ≡ (get_or ds n e).day → k ≡ n
day_once ds k n e r lk ln same =
    let size = length-map ds shown in
    let at : (i : ℕ) → i < length ds → (get_or (shown_days ds) i (shown e)).day ≡ (get_or ds i e).day = λ i l. ap (λ (x : KeptDay). x.day) (get_or-map shown ds i e (shown e) l) in
    elim (cases_eq k n) [
      | inl is ↦ is
      | inr other ↦ elim (cases_lt k n) [
        | inl low ↦ absurd (let h = r k n (shown e) low (omega arith) in let a = at k lk in let b = at n ln in omega arith)
        | inr high ↦ absurd (let h = r n k (shown e) (omega arith) (omega arith) in let a = at k lk in let b = at n ln in omega arith)
      ]
    ]

not_in : (ks : List KeptDay) (day k : ℕ) (e : KeptDay) → has_day ks day ≡ false → k < length ks → (get_or ks k e).day ≢ day
not_in [] day k e h l same = omega arith
not_in (x ∷ ks) day zero e h l same = false≢true (sym (or_parts (x.day == day) (has_day ks day) h).0 ∙ eq-eqb x.day day same)
not_in (x ∷ ks) day (suc k) e h l same = not_in ks day k e (or_parts (x.day == day) (has_day ks day) h).1 (omega arith) same

-- a day that is not kept has no traces to make room for
pub no_trace_room : (ds : List Day) (day n : ℕ) → has_day (shown_days ds) day ≡ false → HasTraceRoom ds day n
no_trace_room ds day n h = λ k d l same.
    absurd (not_in (shown_days ds) day k (shown d) h (omega (arith, length-map ds shown)) (ap (λ (x : KeptDay). x.day) (get_or-map shown ds k d (shown d) l) ∙ same))

pub trace_room : (ds : List Day) (day n place : ℕ) (now : Day) → AreRising (shown_days ds) → IsDayAt ds place day → length now.traces.items + n ≤ vec_capacity now.traces → HasTraceRoom (set ds place now) day n
trace_room ds day n place now r at room = λ k d l same.
    let size = length-set ds place now in
    elim (cases_eq k place) [
      | inl here ↦ subst (λ (x : Day). length x.traces.items + n ≤ vec_capacity x.traces) (sym (ap (λ i. get_or (set ds place now) i d) here ∙ get_or-set_same ds place now d at.0)) room
      | inr there ↦ absurd (there (day_once ds k place d r (omega arith) at.0 (ap (λ (x : Day). x.day) (sym (get_or-set_other ds place k now d there)) ∙ same ∙ sym (at.1 d))))
    ]

-- ---- the same days
same_day_shown : (d e : Day) → IsSameDay d e → shown e ≡ shown d
same_day_shown d e h = ap (λ i. kept_day i e.traces.items) h.day ∙ ap (kept_day d.day) h.traces_are

pub same_shown : (ds es : List Day) → AreSameDays ds es → shown_days es ≡ shown_days ds
same_shown [] [] h = refl
same_shown [] (e ∷ es) h = absurd (let c = h.count in omega arith)
same_shown (d ∷ ds) [] h = absurd (let c = h.count in omega arith)
same_shown (d ∷ ds) (e ∷ es) h =
    ap (λ k. k ∷ shown_days es) (same_day_shown d e (h.each 0 d (omega arith)))
    ∙ ap (λ l. shown d ∷ l) (same_shown ds es (record { count = (let c = h.count in omega arith); each = λ k x l. h.each (suc k) x (omega arith) }))

same_leaf : (t u : TreeState) (d e : Day) → u.leaves ≡ t.leaves → u.width ≡ t.width → IsSameDay d e → HasLeaf t d → HasLeaf u e
same_leaf t u d e el ew s h =
    let words : leaf_words u.leaves e.slot ≡ leaf_words t.leaves d.slot = ap (λ l. leaf_words l e.slot) el ∙ ap (leaf_words t.leaves) s.slot in
    record {
      slot = subst (λ i. i < 64) (sym s.slot) h.slot;
      there = ap (λ l. is_some (get_or l e.slot None)) el ∙ ap (λ i. is_some (get_or t.leaves i None)) s.slot ∙ h.there;
      width = ap length words ∙ h.width ∙ sym ew;
      bits = subst (λ ws. LackRefuted e.traces.items ws) (sym words) (subst (λ l. LackRefuted l (leaf_words t.leaves d.slot)) (sym s.traces_are) h.bits);
    }

pub same_slots : (t u : TreeState) (ds es : List Day) → AreInSlots t ds → u.leaves ≡ t.leaves → u.width ≡ t.width → AreSameDays ds es → AreInSlots u es
same_slots t u ds es s el ew h =
    let slots : (k : ℕ) (e : Day) → k < length ds → (get_or es k e).slot ≡ (get_or ds k e).slot = λ k e l. (h.each k e l).slot in
    record {
      leaves = ap length el ∙ s.leaves;
      kept = λ k e l. let low : k < length ds = omega (arith, h.count) in same_leaf t u (get_or ds k e) (get_or es k e) el ew (h.each k e low) (s.kept k e low);
      apart = λ i j e l m same. s.apart i j e l (omega (arith, h.count)) (sym (slots i e (omega (arith, h.count))) ∙ same ∙ slots j e (omega (arith, h.count)));
      owned = λ i ws e.
          let o = s.owned i ws (ap (λ l. get_or l i None) (sym el) ∙ e) in
          let x = get_or es o.0 o.1 in
          let size : o.0 < length es = omega (arith, o.2, h.count) in
          (o.0, x, size, get_or_default es o.0 x o.1 size, slots o.0 o.1 o.2 ∙ ap (λ (y : Day). y.slot) o.3 ∙ o.4);
      counted = ap (λ l. count_by is_some l) el ∙ s.counted ∙ sym h.count;
    }

-- ---- what a book keeps when a sheet is added
spare_room : (b : Bool) (n s m : ℕ) → n + s ≤ 64 → n ≤ 64 → (n ≡ 64 → b ≡ true) → m ≡ cond b n (n + 1) → m + cond b s (s - 1) ≤ 64
spare_room true n s m h l full e = omega arith
spare_room false n s m h l full e = elim (cases_eq n 64) [
  | inl at ↦ absurd (false≢true (full at))
  | inr other ↦ omega arith
]

full_kept : (b : BookState) (day : ℕ) → (IsFull b day → ⊥) → length b.days ≡ 64 → has_day b.days day ≡ true
full_kept b day not_full at = elim (cases_Bool (has_day b.days day)) [ inl h ↦ h | inr h ↦ absurd (not_full (at, h)) ]

pub book_added : (b : BookState) (day : ℕ) (sheet : SheetState) → IsBook b → IsSheetOf b.names day sheet → (IsFull b day → ⊥) → length (all_traces b.days) + length sheet.traces < 2 ^ 32 → IsBook (with_added b day sheet.traces)
book_added b day sheet k s not_full few =
    let ts = sheet.traces in
    record {
      names = k.names;
      rising = rising_with day ts b.days k.rising;
      some = all_with HasTraces day ts b.days k.some s.some (λ x h e. omega (arith, length-append x.traces ts));
      dated = all_with (λ (x : KeptDay). AreOfDay x.day x.traces) day ts b.days k.dated s.dated (λ x h e. All-append (λ (t : NamedTrace). t.day ≡ day) x.traces ts (subst (λ i. AreOfDay i x.traces) e h) s.dated);
      named = all_with (λ (x : KeptDay). All (HaveNamesBelow b.names) x.traces) day ts b.days k.named s.named (λ x h e. All-append (HaveNamesBelow b.names) x.traces ts h s.named);
      counted = omega (arith, few, total_with day ts b.days);
      room = spare_room (has_day b.days day) (length b.days) b.spare (length (with_day_traces day ts b.days)) k.room (omega (arith, k.room)) (full_kept b day not_full) (count_with day ts b.days k.rising);
    }

pub same_days : (ds : List Day) → AreSameDays ds ds
same_days ds = record { count = refl; each = λ k e l. record { day = refl; slot = refl; traces_are = refl; room = omega arith } }
