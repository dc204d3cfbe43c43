-- What stays along a history: bits that are 0, and rows that are done.
use Rattle.std.proofs.Common.{◌≡◌, ◌≢◌, ℕ, zero, suc, ◌+◌, ◌<◌, Bool, true, false, not, ◌||◌, ◌==◌, List, [], ◌∷◌, ◌++◌, length, get_or, set, sym, refl, ap, ◌∙◌, subst, ⊎_elim, length-set, length-append}
use Rattle.std.specs.Prelude.{Option, Some, None, Contains}
use Rattle.std.proofs.lemmas.Bool.{cases_eq, cond_both, not-false, eqb-false, or_parts}
use Rattle.std.proofs.lemmas.List.{length-map, length-replicate}
use Rattle.std.proofs.lemmas.List.Elements.{Contains-append_left, Contains-append_right}
use mathlib.Core.Option.{some, some-injective, some-ne-none}
use lib.ListN.{get_elem?}
use Rattle.word_rows.specs.declared.events.StepEvent.{StepEvent}
use Rattle.word_rows.proofs.MachineLemmas.{passed, live_inside}
use Rattle.word_rows.specs.declared.entries.Entry.{Entry}
use Rattle.word_rows.specs.declared.views.View.{View}
use Rattle.word_rows.specs.Words.{bit_of}
use Rattle.word_rows.specs.Changes.{empty_view, finished_view, midway_view, next_view, left_view, new_view, joined_view}
use Rattle.word_rows.specs.Machine.{StepState, Fault, clear, load, split, join, close, opening_state, step, steps, after, fault_of, next_state, outcome, is_live, view_at, entry_at, no_seat}
use Rattle.word_rows.specs.Keeping.{WidthStays, ZerosStay, IsDone, DoneStays}
use Rattle.word_rows.proofs.BitLemmas.{bit_stays}
use Rattle.word_rows.proofs.ViewLemmas.{at_longer, at_index, put_here, set_else}

-- the state after more events is the one after them from where the first ones led
pub steps_follow : (s : StepState) (es fs : List StepEvent) → (steps s (es ++ fs)).0 ≡ (steps (steps s es).0 fs).0
steps_follow s [] fs = refl
steps_follow s (e ∷ es) fs = steps_follow (step s e).0 es fs

-- ---- bits
next_long : (s : StepState) (e : StepEvent) → length (next_state s e).words ≡ length s.words
next_long s (clear seat row) = length-set s.words (entry_at row (view_at s seat).cleared).word _
next_long s (load seat word) = refl
next_long s (split seat shares) = refl
next_long s (join seat other) = refl
next_long s (close seat) = refl

outcome_long : (s : StepState) (e : StepEvent) (fault : Option Fault) → length (outcome s e fault).0.words ≡ length s.words
outcome_long s e None = next_long s e
outcome_long s e (Some fault) = refl

steps_long : (s : StepState) (es : List StepEvent) → length (steps s es).0.words ≡ length s.words
steps_long s [] = refl
steps_long s (e ∷ es) = steps_long (step s e).0 es ∙ outcome_long s e (fault_of s e)

next_zero : (s : StepState) (e : StepEvent) (i b : ℕ) → i < length s.words → bit_of s.words i b ≡ 0 → bit_of (next_state s e).words i b ≡ 0
next_zero s (clear seat row) i b h z = bit_stays s.words (entry_at row (view_at s seat).cleared) i b h z
next_zero s (load seat word) i b h z = z
next_zero s (split seat shares) i b h z = z
next_zero s (join seat other) i b h z = z
next_zero s (close seat) i b h z = z

outcome_zero : (s : StepState) (e : StepEvent) (fault : Option Fault) (i b : ℕ) → i < length s.words → bit_of s.words i b ≡ 0 → bit_of (outcome s e fault).0.words i b ≡ 0
outcome_zero s e None i b h z = next_zero s e i b h z
outcome_zero s e (Some fault) i b h z = z

steps_zero : (s : StepState) (es : List StepEvent) (i b : ℕ) → i < length s.words → bit_of s.words i b ≡ 0 → bit_of (steps s es).0.words i b ≡ 0
steps_zero s [] i b h z = z
steps_zero s (e ∷ es) i b h z = steps_zero (step s e).0 es i b (subst (λ (n : ℕ). i < n) (sym (outcome_long s e (fault_of s e))) h) (outcome_zero s e (fault_of s e) i b h z)

pub width_stays : WidthStays
width_stays width all events = steps_long (opening_state width all) events ∙ length-replicate width 18446744073709551615

pub zeros_stay : ZerosStay
zeros_stay width all events more i b h z =
    let wide : length (after width all events).0.words ≡ width = width_stays width all events in
    ap (λ (s : StepState). bit_of s.words i b) (steps_follow (opening_state width all) events more)
    ∙ steps_zero (after width all events).0 more i b (subst (λ (n : ℕ). i < n) (sym wide) h) z

-- ---- rows
-- as many seats as views
abbrev SameSeats : StepState → Type 0
SameSeats s = length s.live ≡ length s.views

next_seats : (s : StepState) (e : StepEvent) → SameSeats s → SameSeats (next_state s e)
next_seats s (clear seat row) f = f ∙ sym (length-set s.views seat _)
next_seats s (load seat word) f = f ∙ sym (length-set s.views seat _)
next_seats s (split seat n) f = let v : View = view_at s seat in
    length-append s.live (true ∷ []) ∙ ap (λ (k : ℕ). k + 1) (f ∙ sym (length-set s.views seat (left_view n v))) ∙ sym (length-append (set s.views seat (left_view n v)) (new_view n v ∷ []))
next_seats s (join seat other) f = let both : View = joined_view (view_at s seat) (view_at s other) in
    length-set s.live other false ∙ f ∙ sym (length-set (set s.views seat both) other empty_view ∙ length-set s.views seat both)
next_seats s (close seat) f = length-map s.live (λ (_ : Bool). false) ∙ f

outcome_seats : (s : StepState) (e : StepEvent) (fault : Option Fault) → SameSeats s → SameSeats (outcome s e fault).0
outcome_seats s e None f = next_seats s e f
outcome_seats s e (Some fault) f = f

view_is : (views : List View) (id : ℕ) (v d : View) → get_elem? views id ≡ some v → get_or views id d ≡ v
view_is [] id v d e = absurd (some-ne-none v (sym e))
view_is (x ∷ xs) zero v d e = some-injective x v e
view_is (x ∷ xs) (suc id) v d e = view_is xs id v d e

-- a view that is set keeps the done rows of the one before
done_set : (views : List View) (seat : ℕ) (w : View) (row : List Entry) → ((v : View) → get_elem? views seat ≡ some v → Contains v.done row → Contains w.done row) → IsDone views row → IsDone (set views seat w) row
done_set views seat w row more (id, v, at, has) = ⊎_elim
    (λ (is : id ≡ seat). let there : get_elem? views seat ≡ some v = subst (λ (n : ℕ). get_elem? views n ≡ some v) is at in
    let r : IsDone (set views seat w) row = (seat, w, put_here views seat v w there, more v there has) in r)
    (λ (apart : id ≢ seat). let r : IsDone (set views seat w) row = (id, v, set_else views seat id w apart ∙ at, has) in r)
    (cases_eq id seat)

next_has : (v : View) (row new : List Entry) → Contains v.done row → Contains (next_view v new).done row
next_has v row new h = cond_both (v.cleared + 1 == length new) (finished_view v new) (midway_view v new (v.cleared + 1)) (λ (u : View). Contains u.done row) (λ _. Contains-append_left v.done (new ∷ []) row h) (λ _. h)

of_view : (s : StepState) (seat : ℕ) (v : View) (row : List Entry) → get_elem? s.views seat ≡ some v → Contains v.done row → Contains (view_at s seat).done row
of_view s seat v row at h = subst (λ (u : View). Contains u.done row) (sym (view_is s.views seat v empty_view at)) h

next_done : (s : StepState) (e : StepEvent) (row : List Entry) → SameSeats s → fault_of s e ≡ None → IsDone s.views row → IsDone (next_state s e).views row
next_done s (clear seat new) row f none d = done_set s.views seat _ row (λ v at h. next_has (view_at s seat) row new (of_view s seat v row at h)) d
next_done s (load seat word) row f none d = done_set s.views seat _ row (λ v at h. of_view s seat v row at h) d
next_done s (split seat n) row f none d =
    let left : View = left_view n (view_at s seat) in let new : View = new_view n (view_at s seat) in
    let mid : IsDone (set s.views seat left) row = done_set s.views seat left row (λ v at h. of_view s seat v row at h) d in
    (mid.0, mid.1, at_longer (set s.views seat left) (new ∷ []) mid.0 mid.1 mid.2, mid.3)
next_done s (join seat other) row f none d =
    let v : View = view_at s seat in let w : View = view_at s other in let both : View = joined_view v w in
    let a = passed (not (is_live s seat)) (no_seat seat) _ none in
    let b = passed (not (is_live s other) || (seat == other)) (no_seat other) _ a.1 in
    let apart : seat ≢ other = eqb-false seat other (or_parts (not (is_live s other)) (seat == other) b.0).1 in
    let inside : seat < length s.views = subst (λ (n : ℕ). seat < n) f (live_inside s.live seat (not-false _ a.0)) in
    let there : get_elem? (set s.views seat both) seat ≡ some both = put_here s.views seat v both (at_index s.views seat empty_view inside) in
    let joined : Contains both.done row → IsDone (next_state s (join seat other)).views row = λ h. (seat, both, set_else (set s.views seat both) other seat empty_view apart ∙ there, h) in
    let id : ℕ = d.0 in let u : View = d.1 in ⊎_elim
    (λ (is : id ≡ seat). joined (Contains-append_left v.done w.done row (of_view s seat u row (subst (λ (n : ℕ). get_elem? s.views n ≡ some u) is d.2) d.3)))
    (λ (n : id ≢ seat). ⊎_elim
    (λ (is : id ≡ other). joined (Contains-append_right v.done w.done row (of_view s other u row (subst (λ (n : ℕ). get_elem? s.views n ≡ some u) is d.2) d.3)))
    (λ (m : id ≢ other). let r : IsDone (next_state s (join seat other)).views row = (id, u, set_else (set s.views seat both) other id empty_view m ∙ set_else s.views seat id both n ∙ d.2, d.3) in r)
    (cases_eq id other))
    (cases_eq id seat)
next_done s (close seat) row f none d = d

outcome_done : (s : StepState) (e : StepEvent) (fault : Option Fault) (row : List Entry) → SameSeats s → fault_of s e ≡ fault → IsDone s.views row → IsDone (outcome s e fault).0.views row
outcome_done s e None row f is d = next_done s e row f is d
outcome_done s e (Some fault) row f is d = d

steps_done : (s : StepState) (es : List StepEvent) (row : List Entry) → SameSeats s → IsDone s.views row → IsDone (steps s es).0.views row
steps_done s [] row f d = d
steps_done s (e ∷ es) row f d = steps_done (step s e).0 es row (outcome_seats s e (fault_of s e) f) (outcome_done s e (fault_of s e) row f refl d)

steps_seats : (s : StepState) (es : List StepEvent) → SameSeats s → SameSeats (steps s es).0
steps_seats s [] f = f
steps_seats s (e ∷ es) f = steps_seats (step s e).0 es (outcome_seats s e (fault_of s e) f)

pub done_stays : DoneStays
done_stays width all events more row d =
    subst (λ (s : StepState). IsDone s.views row) (sym (steps_follow (opening_state width all) events more))
    (steps_done (after width all events).0 more row (steps_seats (opening_state width all) events refl) d)

pub steps_snoc : (s : StepState) (es : List StepEvent) (e : StepEvent) → (steps s (es ++ e ∷ [])).0 ≡ (step (steps s es).0 e).0
steps_snoc s [] e = refl
steps_snoc s (d ∷ ds) e = steps_snoc (step s d).0 ds e
