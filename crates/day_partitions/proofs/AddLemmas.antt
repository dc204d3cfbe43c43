-- A sheet is added to a book.
use Rattle.std.proofs.Common.{◌≡◌, ◌≢◌, ℕ, ◌+◌, ◌-◌, ◌^◌, ◌<◌, ◌↔◌, Bool, true, false, if◌then◌else◌, List, length, IsTrue, refl, sym, ap, ◌∙◌, subst, arith}
use Rattle.std.proofs.lemmas.Bool.{iff_false}
use Rattle.std.proofs.lemmas.List.{length-map}
use Rattle.pipeline_tests.specs.DaySheets.{SheetState}
use Rattle.trace_types.specs.declared.named_trace.NamedTrace.{NamedTrace}
use Rattle.day_partitions.specs.Books.{BookState, book, has_day, all_traces, IsBook, IsSheetOf, IsFull, with_day_traces, with_added}
use Rattle.day_partitions.specs.inner.Trees.{TreeState}
use Rattle.day_partitions.specs.inner.Slots.{shown, shown_days, AreInSlots, AreSameDays, HasTraceRoom, HasRoom}
use Rattle.day_partitions.specs.declared.day.Day.{Day}
use Rattle.day_partitions.proofs.RoomLemmas.{same_shown, same_slots, book_added}

-- ---- the same days, and the same tree
pub view_same : (names : ℕ) (t u : TreeState) (ds es : List Day) → u ≡ t → AreSameDays ds es → book (shown_days es) names u.spare ≡ book (shown_days ds) names t.spare
view_same names t u ds es e h = ap (λ l. book l names u.spare) (same_shown ds es h) ∙ ap (λ (x : TreeState). book (shown_days ds) names x.spare) e

pub slots_same : (t u : TreeState) (ds es : List Day) → AreInSlots t ds → u ≡ t → AreSameDays ds es → AreInSlots u es
slots_same t u ds es s e h = same_slots t u ds es s (ap (λ (x : TreeState). x.leaves) e) (ap (λ (x : TreeState). x.width) e) h

-- ---- no refusal
pub not_full : (names spare day : ℕ) (ds es : List Day) (b : Bool) → es ≡ ds → IsTrue b ↔ ((length es ≡ 64) × (has_day (shown_days es) day ≡ false)) → b ≡ false → IsFull (book (shown_days ds) names spare) day → ⊥
not_full names spare day ds es b e h neg f =
    iff_false (subst (λ l. IsTrue b ↔ ((length l ≡ 64) × (has_day (shown_days l) day ≡ false))) e h) neg (omega (arith, f.0, length-map ds shown), f.1)

pub full : (names spare day : ℕ) (ds es : List Day) (b : Bool) → es ≡ ds → IsTrue b ↔ ((length es ≡ 64) × (has_day (shown_days es) day ≡ false)) → b ≡ true → IsFull (book (shown_days ds) names spare) day
full names spare day ds es b e h pos_is =
    let f = (subst (λ l. IsTrue b ↔ ((length l ≡ 64) × (has_day (shown_days l) day ≡ false))) e h).0 pos_is in
    (omega (arith, f.0, length-map ds shown), f.1)

-- ---- room was made
pub has_room : (names day n : ℕ) (t u : TreeState) (ds es : List Day) → IsBook (book (shown_days ds) names t.spare) → (IsFull (book (shown_days ds) names t.spare) day → ⊥) → AreSameDays ds es → HasTraceRoom es day n → (has_day (shown_days ds) day ≡ false → u.spare ≢ 0) → HasRoom u es day n
has_room names day n t u ds es k not_full same room row =
    record {
      kept = room;
      new = λ none.
          let old : has_day (shown_days ds) day ≡ false = ap (λ l. has_day l day) (sym (same_shown ds es same)) ∙ none in
          let size = length-map ds shown in
          let other : length (shown_days ds) ≢ 64 = (λ e. not_full (e, old)) in
          (row old, omega (arith, same.count, k.room, size, other));
    }

-- ---- a sheet was taken in
spare_is : (b : Bool) (x y z : ℕ) → z ≡ (if b then x else x - 1) → (b ≡ true → x ≡ y) → x - 1 ≡ y - 1 → z ≡ (if b then y else y - 1)
spare_is true x y z e same less = e ∙ same refl
spare_is false x y z e same less = e ∙ less

pub view_added : (names day : ℕ) (ts : List NamedTrace) (t u v : TreeState) (ds es fs : List Day) → AreSameDays ds es → (has_day (shown_days ds) day ≡ true → u ≡ t) → u.spare - 1 ≡ t.spare - 1 → shown_days fs ≡ with_day_traces day ts (shown_days es) → v.spare ≡ (if has_day (shown_days es) day then u.spare else u.spare - 1) → book (shown_days fs) names v.spare ≡ with_added (book (shown_days ds) names t.spare) day ts
view_added names day ts t u v ds es fs same kept less days spare =
    let shown_same = same_shown ds es same in
    let left : v.spare ≡ (if has_day (shown_days ds) day then t.spare else t.spare - 1) =
    spare_is (has_day (shown_days ds) day) u.spare t.spare v.spare (spare ∙ ap (λ l. if has_day l day then u.spare else u.spare - 1) shown_same) (λ h. ap (λ (x : TreeState). x.spare) (kept h)) less in
    ap (λ l. book l names v.spare) (days ∙ ap (with_day_traces day ts) shown_same) ∙ ap (book (with_day_traces day ts (shown_days ds)) names) left

pub book_kept : (b c : BookState) (day : ℕ) (sheet : SheetState) → c ≡ with_added b day sheet.traces → IsBook b → IsSheetOf b.names day sheet → (IsFull b day → ⊥) → length (all_traces b.days) + length sheet.traces < 2 ^ 32 → IsBook c
book_kept b c day sheet e k s not_full few = subst (λ x. IsBook x) (sym e) (book_added b day sheet k s not_full few)
