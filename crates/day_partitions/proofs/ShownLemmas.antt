-- The days of a book and those that a contract sees.
use Rattle.std.proofs.Common.{◌≡◌, ℕ, suc, ◌+◌, ◌-◌, ◌<◌, ◌⊎◌, inl, inr, Bool, true, false, cond, if◌then◌else◌, nat_lt, List, [], ◌∷◌, ◌++◌, length, map, get_or, set, take, drop, insert, Contains, refl, sym, ap, ◌∙◌, subst, arith, length-set}
use Rattle.std.proofs.lemmas.Bool.{cases_eq, cond-true, cond-false}
use Rattle.std.proofs.lemmas.List.{get_or-map, length-map, map-set, map-append, take-map, drop-map, get_or-set_same, get_or-set_other}
use Rattle.std.proofs.lemmas.List.Elements.{Contains-get_or}
use Rattle.std.specs.List.{prefix_len}
use Rattle.trace_types.specs.declared.named_trace.NamedTrace.{NamedTrace}
use Rattle.day_partitions.specs.Books.{KeptDay, kept_day, has_day, AreRising, with_day_traces}
use Rattle.day_partitions.specs.inner.Trees.{TreeState}
use Rattle.day_partitions.specs.inner.Slots.{shown, shown_days, place_in_days, IsDayAt, HasRoom, RoomAt, IsExtended, IsInserted, ChangesOnly}
use Rattle.day_partitions.specs.declared.day.Day.{Day}
use Rattle.day_partitions.proofs.DayLemmas.{place_of_day, StandsAt, IsAbsent, with_set, with_insert, has_standing, has_absent}
use Rattle.day_partitions.proofs.SlotLemmas.{all_insert}

-- all elements pass
pub prefix_len_all : {X : Type 0} (p : X → Bool) (xs : List X) (n : ℕ) → n ≡ length xs → ((k : ℕ) (e : X) → k < n → p (get_or xs k e) ≡ true) → prefix_len p xs ≡ n
prefix_len_all p [] n l h = sym l
prefix_len_all p (x ∷ xs) n l h =
    let rest = prefix_len_all p xs (n - 1) (omega arith) (λ k e m. h (suc k) e (omega arith)) in
    cond-true (p x) (1 + prefix_len p xs) 0 (h 0 x (omega arith)) ∙ omega (arith, rest)

prefix_len-map : {X Y : Type 0} (f : X → Y) (p : Y → Bool) (xs : List X) → prefix_len p (map f xs) ≡ prefix_len (λ x. p (f x)) xs
prefix_len-map f p [] = refl
prefix_len-map f p (x ∷ xs) = ap (λ n. cond (p (f x)) (1 + n) 0) (prefix_len-map f p xs)

pub place_shown : (day : ℕ) (ds : List Day) → place_of_day day (shown_days ds) ≡ place_in_days day ds
place_shown day ds = prefix_len-map shown (λ k. nat_lt k.day day) ds

-- the day at its place, as a contract sees it
pub stands : (day n : ℕ) (ds : List Day) → n ≡ place_in_days day ds → IsDayAt ds n day → StandsAt day (shown_days ds)
stands day n ds e h =
    let at : n ≡ place_of_day day (shown_days ds) = e ∙ sym (place_shown day ds) in
    let size = length-map ds shown in (
      subst (λ i. i < length (shown_days ds)) at (omega (arith, h.0, size)),
      λ k. ap (λ i. (get_or (shown_days ds) i k).day) (sym at) ∙ shown_at ds n k h.0 ∙ h.1 (some_day ds n h.0),
    )
  where
    some_day : (ds : List Day) (n : ℕ) → n < length ds → Day
    some_day [] n l = absurd (omega arith)
    some_day (d ∷ ds) n l = d

    shown_at : (ds : List Day) (n : ℕ) (k : KeptDay) (l : n < length ds) → (get_or (shown_days ds) n k).day ≡ (get_or ds n (some_day ds n l)).day
    shown_at ds n k l = ap (λ (x : KeptDay). x.day) (get_or-map shown ds n (some_day ds n l) k l)

pub absent : (day n : ℕ) (ds : List Day) → n ≡ place_in_days day ds → (IsDayAt ds n day → ⊥) → IsAbsent day (shown_days ds)
absent day n ds e h = λ k l same.
    let at : place_of_day day (shown_days ds) ≡ n = place_shown day ds ∙ sym e in
    let inside : n < length ds = omega (arith, at, l, length-map ds shown) in
    h (inside, λ d. ap (λ (x : KeptDay). x.day) (sym (get_or-map shown ds n d k inside)) ∙ ap (λ i. (get_or (shown_days ds) i k).day) (sym at) ∙ same)

-- ---- a day is extended
pub shown_extended : (day n : ℕ) (ds es : List Day) (ts : List NamedTrace) → n ≡ place_in_days day ds → IsDayAt ds n day → IsExtended ds n ts es → shown_days es ≡ with_day_traces day ts (shown_days ds)
shown_extended day n ds es ts e h x =
    let at : n ≡ place_of_day day (shown_days ds) = e ∙ sym (place_shown day ds) in
    let d = get_or ds n x.now in
    let k = shown d in
    let read : get_or (shown_days ds) n k ≡ k = get_or-map shown ds n x.now k h.0 in
    let now : shown x.now ≡ kept_day day ((get_or (shown_days ds) n k).traces ++ ts) =
    ap (λ i. kept_day i x.now.traces.items) (x.day ∙ h.1 x.now) ∙ ap (kept_day day) (x.traces_are ∙ ap (λ (y : KeptDay). y.traces ++ ts) (sym read)) in
    ap shown_days x.days ∙ map-set shown ds n x.now ∙ ap (set (shown_days ds) n) now
    ∙ ap (λ i. set (shown_days ds) i (kept_day day ((get_or (shown_days ds) i k).traces ++ ts))) at
    ∙ sym (with_set day ts (shown_days ds) (stands day n ds e h) k)

-- ---- a day is inserted
map-insert : (ds : List Day) (n : ℕ) (d : Day) → shown_days (insert ds n d) ≡ insert (shown_days ds) n (shown d)
map-insert ds n d =
    map-append shown (take n ds) (d ∷ drop n ds) ∙ ap (λ l. l ++ (shown d ∷ shown_days (drop n ds))) (sym (take-map shown n ds)) ∙ ap (λ l. take n (shown_days ds) ++ (shown d ∷ l)) (sym (drop-map shown n ds))

pub shown_inserted : (day n : ℕ) (ds es : List Day) (ts : List NamedTrace) → n ≡ place_in_days day ds → (IsDayAt ds n day → ⊥) → IsInserted ds n day ts es → shown_days es ≡ with_day_traces day ts (shown_days ds)
shown_inserted day n ds es ts e h x =
    let at : n ≡ place_of_day day (shown_days ds) = e ∙ sym (place_shown day ds) in
    let now : shown x.now ≡ kept_day day ts = ap (λ i. kept_day i x.now.traces.items) x.day_is ∙ ap (kept_day day) x.traces_are in
    ap shown_days x.days ∙ map-insert ds n x.now ∙ ap (insert (shown_days ds) n) now ∙ ap (λ i. insert (shown_days ds) i (kept_day day ts)) at
    ∙ sym (with_insert day ts (shown_days ds) (absent day n ds e h))

-- ---- whether a day is kept
pub kept_at : (day n : ℕ) (ds : List Day) → n ≡ place_in_days day ds → IsDayAt ds n day → has_day (shown_days ds) day ≡ true
kept_at day n ds e h = has_standing day (shown_days ds) (stands day n ds e h)

pub not_kept : (day n : ℕ) (ds : List Day) → n ≡ place_in_days day ds → AreRising (shown_days ds) → (IsDayAt ds n day → ⊥) → has_day (shown_days ds) day ≡ false
not_kept day n ds e r h = has_absent day (shown_days ds) r (absent day n ds e h)

pub spare_kept : (b : Bool) (x y : ℕ) → b ≡ true → x ≡ (if b then x else y)
spare_kept b x y e = sym (cond-true b x y e)

pub spare_taken : (b : Bool) (x y : ℕ) → b ≡ false → y ≡ (if b then x else y)
spare_taken b x y e = sym (cond-false b x y e)

-- ---- days but one stay
pub changes_extended : (day n : ℕ) (ds es : List Day) (ts : List NamedTrace) → IsDayAt ds n day → IsExtended ds n ts es → ChangesOnly day ds es
changes_extended day n ds es ts h x =
    subst (λ l. ChangesOnly day ds l) (sym x.days) (λ k d l.
    let size = length-set ds n x.now in
    elim (cases_eq k n) [
      | inl here ↦ inl (ap (λ i. (get_or (set ds n x.now) i d).day) here ∙ ap (λ (y : Day). y.day) (get_or-set_same ds n x.now d h.0) ∙ x.day ∙ h.1 x.now)
      | inr there ↦ inr (subst (λ (y : Day). Contains ds y) (sym (get_or-set_other ds n k x.now d there)) (Contains-get_or ds k d (omega arith)))
    ])

pub changes_inserted : (day n : ℕ) (ds es : List Day) (ts : List NamedTrace) → IsInserted ds n day ts es → ChangesOnly day ds es
changes_inserted day n ds es ts x =
    subst (λ l. ChangesOnly day ds l) (sym x.days) (all_insert (λ (d : Day). (d.day ≡ day) ⊎ Contains ds d) n x.now ds (λ k d l. inr (Contains-get_or ds k d l)) (inl x.day_is))

pub room_at : (t : TreeState) (ds : List Day) (day n c : ℕ) → HasRoom t ds day c → IsDayAt ds n day → RoomAt ds n c
room_at t ds day n c r h = λ e. r.kept n e h.0 (h.1 e)
