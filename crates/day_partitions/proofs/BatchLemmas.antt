-- Sheets of several days are added one after another.
use Rattle.std.proofs.Common.{◌≡◌, ◌≢◌, ℕ, ◌+◌, ◌-◌, ◌^◌, ◌<◌, ◌≤◌, max, inl, inr, Bool, true, false, not, ◌||◌, ◌==◌, cond, if◌then◌else◌, List, [], ◌∷◌, ◌++◌, length, get_or, All, AllPairs, vec_capacity, refl, sym, ap, ◌∙◌, subst, arith}
use Rattle.std.proofs.lemmas.Bool.{cases_order}
use Rattle.std.proofs.lemmas.List.{length-map}
use Rattle.std.proofs.lemmas.List.Elements.{All-head, All-tail, All-contains}
use Rattle.std.proofs.lemmas.List.Sums.{sum_by-cons}
use Rattle.hypothesis_index.specs.Places.{width_of}
use Rattle.trace_types.specs.declared.named_trace.NamedTrace.{NamedTrace}
use Rattle.day_partitions.specs.Books.{KeptDay, kept_day, BookState, book, has_day, all_traces, HasTraces, IsBook, IsSheetOf, IsFull, with_day_traces, with_added}
use Rattle.day_partitions.specs.Batches.{with_all, new_days, trace_count, AreSheetsFor, HasRoomFor}
use Rattle.day_partitions.specs.inner.Rooms.{HaveTraceRoom}
use Rattle.day_partitions.specs.inner.Trees.{TreeState, with_spare_rows}
use Rattle.day_partitions.specs.inner.Slots.{shown, shown_days, AreInSlots, AreSameDays, HasTraceRoom, HasRoom, ChangesOnly}
use Rattle.day_partitions.specs.declared.dated_sheet.DatedSheet.{DatedSheet}
use Rattle.day_partitions.specs.declared.day.Day.{Day}
use Rattle.day_partitions.proofs.DayLemmas.{with_below, with_same, with_above, has_next, pairs_head, pairs_tail, total, total_cons, total_with, count_with}
use Rattle.day_partitions.proofs.DropLemmas.{book_spare}
use Rattle.day_partitions.proofs.RoomLemmas.{same_shown, same_slots, book_added}

-- ---- whether another day is kept
has_other : (d : ℕ) (ts : List NamedTrace) (ks : List KeptDay) (e : ℕ) → e ≢ d → has_day (with_day_traces d ts ks) e ≡ has_day ks e
has_other d ts [] e other = has_next e (kept_day d ts) [] (λ h. other (sym h))
has_other d ts (k ∷ ks) e other = elim (cases_order k.day d) [
  | inl same ↦ ap (λ l. has_day l e) (with_same d ts k ks same) ∙ has_next e (kept_day d (k.traces ++ ts)) ks (λ h. other (sym h)) ∙ sym (has_next e k ks (λ h. other (sym h ∙ same)))
  | inr (inl low) ↦ ap (λ l. has_day l e) (with_below d ts k ks low) ∙ ap (λ b. (k.day == e) || b) (has_other d ts ks e other)
  | inr (inr high) ↦ ap (λ l. has_day l e) (with_above d ts k ks high) ∙ has_next e (kept_day d ts) (k ∷ ks) (λ h. other (sym h))
]

abbrev is_new : List KeptDay → DatedSheet → Bool
is_new ks s = not (has_day ks s.day)

abbrev weigh : Bool → ℕ
weigh b = cond b 1 0

pub new_cons : (ks : List KeptDay) (s : DatedSheet) (ss : List DatedSheet) → new_days ks (s ∷ ss) ≡ weigh (is_new ks s) + new_days ks ss
new_cons ks s ss = sum_by-cons (λ (x : DatedSheet). cond (is_new ks x) 1 0) s ss

new_other : (d : ℕ) (ts : List NamedTrace) (ks : List KeptDay) (ss : List DatedSheet) → All (λ (s : DatedSheet). d < s.day) ss → new_days (with_day_traces d ts ks) ss ≡ new_days ks ss
new_other d ts ks [] h = refl
new_other d ts ks (s ∷ ss) h =
    let here : d < s.day = All-head (λ (x : DatedSheet). d < x.day) s ss h in
    let same : weigh (is_new (with_day_traces d ts ks) s) ≡ weigh (is_new ks s) = ap (λ b. weigh (not b)) (has_other d ts ks s.day (λ e. omega arith)) in
    let rest = new_other d ts ks ss (All-tail (λ (x : DatedSheet). d < x.day) s ss h) in
    omega (arith, new_cons (with_day_traces d ts ks) s ss, new_cons ks s ss, same, rest)

pub count_cons : (s : DatedSheet) (ss : List DatedSheet) → trace_count (s ∷ ss) ≡ length s.sheet.traces + trace_count ss
count_cons s ss = sum_by-cons (λ (x : DatedSheet). length x.sheet.traces) s ss

-- ---- the spare rows play no other part
abbrev SheetBelow : DatedSheet → DatedSheet → Type 0
SheetBelow r s = r.day < s.day

abbrev all_days : List KeptDay → List DatedSheet → List KeptDay
all_days ks [] = ks
all_days ks (s ∷ ss) = all_days (with_day_traces s.day s.sheet.traces ks) ss

less_spare : (b : Bool) (n s : ℕ) → (if b then s else s - 1) - n ≡ s - (weigh (not b) + n)
less_spare true n s = omega arith
less_spare false n s = omega arith

all_is : (ks : List KeptDay) (names s : ℕ) (ss : List DatedSheet) → AllPairs SheetBelow ss → with_all (book ks names s) ss ≡ book (all_days ks ss) names (s - new_days ks ss)
all_is ks names s [] r = (let z : s ≡ s - 0 = omega arith in ap (book ks names) z)
all_is ks names s (x ∷ ss) r =
    let ls = with_day_traces x.day x.sheet.traces ks in
    let t = if has_day ks x.day then s else s - 1 in
    all_is ls names t ss (pairs_tail SheetBelow x ss r)
    ∙ ap (book (all_days ls ss) names) (ap (λ n. t - n) (new_other x.day x.sheet.traces ks ss (pairs_head SheetBelow x ss r)) ∙ less_spare (has_day ks x.day) (new_days ks ss) s ∙ ap (λ n. s - n) (sym (new_cons ks x ss)))

pub all_spare : (ks : List KeptDay) (names s : ℕ) (ss : List DatedSheet) → AllPairs SheetBelow ss → with_all (book ks names (max s (new_days ks ss))) ss ≡ with_all (book ks names s) ss
all_spare ks names s ss r =
    let n = new_days ks ss in
    let same : max s n - n ≡ s - n = omega arith in
    all_is ks names (max s n) ss r ∙ ap (book (all_days ks ss) names) same ∙ sym (all_is ks names s ss r)

-- ---- what holds before each sheet
pub record CanTake (names : ℕ) (t : TreeState) (ds : List Day) (ss : List DatedSheet) : Type 0 where
  pub width : t.width ≡ width_of names
  pub slots : AreInSlots t ds
  pub kept : IsBook (book (shown_days ds) names t.spare)
  pub sheets : AreSheetsFor (book (shown_days ds) names t.spare) ss
  pub rows : new_days (shown_days ds) ss ≤ t.spare
  pub few : HasRoomFor (book (shown_days ds) names t.spare) ss
  pub room : HaveTraceRoom ds ss

new_first : (ks : List KeptDay) (s : DatedSheet) (ss : List DatedSheet) → has_day ks s.day ≡ false → 1 ≤ new_days ks (s ∷ ss)
new_first ks s ss e = let w : weigh (is_new ks s) ≡ 1 = ap (λ b. weigh (not b)) e in omega (arith, new_cons ks s ss, w)

pub take_room : (names : ℕ) (t : TreeState) (ds : List Day) (s : DatedSheet) (ss : List DatedSheet) → CanTake names t ds (s ∷ ss) → HasRoom t ds s.day (length s.sheet.traces)
take_room names t ds s ss c =
    record {
      kept = All-head (λ (x : DatedSheet). HasTraceRoom ds x.day (length x.sheet.traces)) s ss c.room;
      new = λ e.
          let one = new_first (shown_days ds) s ss e in
          (λ none. omega (arith, one, c.rows), omega (arith, one, c.few, length-map ds shown));
    }

pub take_width : (names : ℕ) (t : TreeState) (ds : List Day) (s : DatedSheet) (ss : List DatedSheet) → CanTake names t ds (s ∷ ss) → length s.sheet.words ≡ t.width
take_width names t ds s ss c = (All-head (λ (x : DatedSheet). IsSheetOf names x.day x.sheet) s ss c.sheets.each).width ∙ sym c.width

not_full_here : (names : ℕ) (t : TreeState) (ds : List Day) (s : DatedSheet) (ss : List DatedSheet) → CanTake names t ds (s ∷ ss) → IsFull (book (shown_days ds) names t.spare) s.day → ⊥
not_full_here names t ds s ss c f = let one = new_first (shown_days ds) s ss f.1 in omega (arith, one, c.few, f.0)

spare_after : (b : Bool) (n s m : ℕ) → weigh (not b) + n ≤ s → m ≡ (if b then s else s - 1) → n ≤ m
spare_after true n s m l e = omega arith
spare_after false n s m l e = omega arith

few_after : (b : Bool) (n len m : ℕ) → len + (weigh (not b) + n) ≤ 64 → m ≡ (if b then len else len + 1) → m + n ≤ 64
few_after true n len m l e = omega arith
few_after false n len m l e = omega arith

pub taken : (names : ℕ) (t u : TreeState) (ds es : List Day) (s : DatedSheet) (ss : List DatedSheet) → CanTake names t ds (s ∷ ss) → AreInSlots u es → shown_days es ≡ with_day_traces s.day s.sheet.traces (shown_days ds) → u.width ≡ t.width → u.spare ≡ (if has_day (shown_days ds) s.day then t.spare else t.spare - 1) → ChangesOnly s.day ds es → CanTake names u es ss
taken names t u ds es s ss c slots days width spare others =
    let ks = shown_days ds in
    let b = book ks names t.spare in
    let d = s.day in let ts = s.sheet.traces in
    let head = All-head (λ (x : DatedSheet). IsSheetOf names x.day x.sheet) s ss c.sheets.each in
    let above = pairs_head SheetBelow s ss c.sheets.rising in
    let is : book (shown_days es) names u.spare ≡ with_added b d ts = ap (λ l. book l names u.spare) days ∙ ap (book (with_day_traces d ts ks) names) spare in
    let size = total_with d ts ks in
    let new_same : new_days (shown_days es) ss ≡ new_days ks ss = ap (λ l. new_days l ss) days ∙ new_other d ts ks ss above in
    let long : length (shown_days es) ≡ (if has_day ks d then length ks else length ks + 1) = ap length days ∙ count_with d ts ks c.kept.rising in
    record {
      width = width ∙ c.width;
      slots = slots;
      kept = subst (λ x. IsBook x) (sym is) (book_added b d s.sheet c.kept head (not_full_here names t ds s ss c) (omega (arith, c.sheets.counted, count_cons s ss)));
      sheets = record {
        rising = pairs_tail SheetBelow s ss c.sheets.rising;
        each = All-tail (λ (x : DatedSheet). IsSheetOf names x.day x.sheet) s ss c.sheets.each;
        counted = omega (arith, c.sheets.counted, count_cons s ss, size, ap (λ l. length (all_traces l)) days);
      };
      rows = spare_after (has_day ks d) (new_days (shown_days es) ss) t.spare u.spare (omega (arith, c.rows, new_cons ks s ss, new_same)) spare;
      few = few_after (has_day ks d) (new_days (shown_days es) ss) (length ks) (length (shown_days es)) (omega (arith, c.few, new_cons ks s ss, new_same)) long;
      room = λ k e l.
          let later : d < (get_or ss k e).day = above k e l in
          let old = All-tail (λ (x : DatedSheet). HasTraceRoom ds x.day (length x.sheet.traces)) s ss c.room k e l in
          λ i f m same. elim (others i f m) [
            | inl here ↦ absurd (omega (arith, here, same, later))
            | inr there ↦ All-contains (λ (x : Day). x.day ≡ (get_or ss k e).day → length x.traces.items + length (get_or ss k e).sheet.traces ≤ vec_capacity x.traces) ds (get_or es i f) old there same
          ];
    }

-- ---- room for all
pub room_stays : (ds es : List Day) (day n : ℕ) → AreSameDays ds es → HasTraceRoom ds day n → HasTraceRoom es day n
room_stays ds es day n same h = λ k e l is.
    let low : k < length ds = omega (arith, same.count) in
    let x = same.each k e low in
    let room = h k e low (sym x.day ∙ is) in
    omega (arith, room, x.room, ap length x.traces_are)

pub same_days_more : (ds es fs : List Day) → AreSameDays ds es → AreSameDays es fs → AreSameDays ds fs
same_days_more ds es fs a b =
    record {
      count = b.count ∙ a.count;
      each = λ k e l.
          let x = a.each k e l in let y = b.each k e (omega (arith, a.count)) in
          record { day = y.day ∙ x.day; slot = y.slot ∙ x.slot; traces_are = y.traces_are ∙ x.traces_are; room = omega (arith, x.room, y.room) };
    }

-- ---- before the first sheet
pub can_begin : (names : ℕ) (t u : TreeState) (ds es : List Day) (ss : List DatedSheet) → t.width ≡ width_of names → AreInSlots t ds → IsBook (book (shown_days ds) names t.spare) → AreSheetsFor (book (shown_days ds) names t.spare) ss → HasRoomFor (book (shown_days ds) names t.spare) ss → AreSameDays ds es → u ≡ with_spare_rows t (new_days (shown_days ds) ss) → HaveTraceRoom es ss → CanTake names u es ss
can_begin names t u ds es ss width slots kept sheets few same is room =
    let n = new_days (shown_days ds) ss in
    let shown_same = same_shown ds es same in
    let spare : u.spare ≡ max t.spare n = ap (λ (x : TreeState). x.spare) is in
    let view : book (shown_days es) names u.spare ≡ book (shown_days ds) names (max t.spare n) = ap (λ l. book l names u.spare) shown_same ∙ ap (book (shown_days ds) names) spare in
    let now : IsBook (book (shown_days ds) names (max t.spare n)) = book_spare (book (shown_days ds) names t.spare) n few kept in
    record {
      width = ap (λ (x : TreeState). x.width) is ∙ width;
      slots = same_slots t u ds es slots (ap (λ (x : TreeState). x.leaves) is) (ap (λ (x : TreeState). x.width) is) same;
      kept = subst (λ x. IsBook x) (sym view) now;
      sheets = subst (λ (x : BookState). AreSheetsFor x ss) (sym view) (record { rising = sheets.rising; each = sheets.each; counted = sheets.counted });
      rows = omega (arith, spare, ap (λ l. new_days l ss) shown_same);
      few = subst (λ (x : BookState). HasRoomFor x ss) (sym view) few;
      room = room;
    }

-- the days that there would be fit a number of 32 bits
new_most : (ks : List KeptDay) (ss : List DatedSheet) (names : ℕ) → All (λ (x : DatedSheet). IsSheetOf names x.day x.sheet) ss → new_days ks ss ≤ trace_count ss
new_most ks [] names h = omega arith
new_most ks (s ∷ ss) names h =
    let one : weigh (is_new ks s) ≤ 1 = most (is_new ks s) in
    let some = (All-head (λ (x : DatedSheet). IsSheetOf names x.day x.sheet) s ss h).some in
    omega (arith, new_cons ks s ss, count_cons s ss, one, some, new_most ks ss names (All-tail (λ (x : DatedSheet). IsSheetOf names x.day x.sheet) s ss h))
  where
    most : (b : Bool) → weigh b ≤ 1
    most true = omega arith
    most false = omega arith

days_most : (ks : List KeptDay) → All HasTraces ks → length ks ≤ total ks
days_most [] h = omega arith
days_most (k ∷ ks) h = omega (arith, total_cons k ks, All-head HasTraces k ks h, days_most ks (All-tail HasTraces k ks h))

pub days_fit : (b : BookState) (ss : List DatedSheet) → IsBook b → AreSheetsFor b ss → length b.days + new_days b.days ss < 2 ^ 32
days_fit b ss k s = omega (arith, s.counted, days_most b.days k.some, new_most b.days ss b.names s.each)
