-- Each event keeps the state of the step machine sound.
use Rattle.std.proofs.Common.{◌≡◌, ◌≢◌, ℕ, zero, suc, ◌+◌, ◌<◌, Bool, true, false, not, ◌||◌, ◌==◌, nat_lt, cond, List, [], ◌∷◌, length, get_or, set, take, sym, refl, ap, ◌∙◌, subst, ⊎_elim, arith, length-set, length-append}
use Rattle.std.specs.Prelude.{Option, Some, None}
use Rattle.std.proofs.lemmas.Bool.{not-false, eqb-false, ltb-true, or_cases, or_parts, false≢true}
use Rattle.std.proofs.lemmas.List.{get_or_default, length-map}
use mathlib.Core.Option.{some}
use lib.ListN.{get_elem?}
use Rattle.word_rows.specs.declared.entries.Entry.{Entry}
use Rattle.word_rows.specs.declared.views.View.{View}
use Rattle.word_rows.specs.Rows.{is_row, below, same_row}
use Rattle.word_rows.specs.Changes.{is_idle, next_view, left_view, new_view, joined_view, empty_view}
use Rattle.word_rows.specs.Sound.{IsPartWay}
use Rattle.word_rows.specs.Machine.{StepState, StepEvent, Fault, clear, load, split, join, close, opening_state, step, steps, fault_of, next_state, outcome, HasRow, HaveRows, IsSoundState, is_live, view_at, can_clear, entry_at, no_seat, row_open, bad_share, bad_word}
use Rattle.word_rows.specs.Keeping.{OpeningIsSound, StepKeepsSound, EventsKeepSound}
use Rattle.word_rows.proofs.RowLemmas.{row_long, same_row_is_one}
use Rattle.word_rows.proofs.ViewLemmas.{idle_cleared, set_else, at_index}
use Rattle.word_rows.proofs.BitLemmas.{entry_bound}
use Rattle.word_rows.proofs.ClearLemmas.{GoesOn, clear_keeps, next_clears}
use Rattle.word_rows.proofs.LoadLemmas.{load_keeps}
use Rattle.word_rows.proofs.ShareLemmas.{split_keeps, join_keeps}
use Rattle.word_rows.proofs.OpeningLemmas.{full_bound, opening_sound}

pub live_inside : (l : List Bool) (i : ℕ) → get_or l i false ≡ true → i < length l
live_inside [] i t = absurd (false≢true t)
live_inside (b ∷ bs) zero t = omega arith
live_inside (b ∷ bs) (suc i) t = let h = live_inside bs i t in omega arith

pos : (n : ℕ) → (n ≡ 0 → ⊥) → 0 < n
pos zero h = absurd (h refl)
pos (suc n) h = omega arith

-- a row that may begin, or is the one in progress, goes on
goes_from : (v : View) (row : List Entry) → IsPartWay v → is_row row ≡ true → can_clear v row ≡ true → GoesOn v row
goes_from v row p r o = let long = row_long row r in
    let begins : v.cleared ≡ 0 → GoesOn v row = λ z. ((omega arith), (λ j. take (z j) v.row) ∙ (λ j. take (sym z j) row)) in ⊎_elim
    (λ (i : is_idle v ≡ true). begins (idle_cleared v i))
    (λ (i : same_row v.row row ≡ true). let same : v.row ≡ row = same_row_is_one v.row row i in ⊎_elim
    (λ (idle : is_idle v ≡ true). begins (idle_cleared v idle))
    (λ (h : (0 < v.cleared) × (v.cleared < length v.row)). let g : GoesOn v row = (subst (λ (l : List Entry). v.cleared < length l) same h.1, ap (λ (l : List Entry). take v.cleared l) same) in g)
    p)
    (or_cases _ _ o)

-- a test that finds no fault is false, and so are those after it
pub passed : (b : Bool) (fault : Fault) (next : Option Fault) → ◌≡◌ {A = Option Fault} (cond b (Some fault) next) None → (b ≡ false) × (next ≡ None)
passed true fault next e = cc
passed false fault next e = (refl, e)

module _ (s : StepState) (f : IsSoundState s) where
  at_seat : (seat : ℕ) → is_live s seat ≡ true → get_elem? s.views seat ≡ some (view_at s seat)
  at_seat seat t = at_index s.views seat empty_view (subst (λ (n : ℕ). seat < n) f.seats (live_inside s.live seat t))

  clear_sound : (seat : ℕ) (row : List Entry) → is_row row ≡ true → fault_of s (clear seat row) ≡ None → IsSoundState (next_state s (clear seat row))
  clear_sound seat row r none =
      let v : View = view_at s seat in
      let a = passed (not (is_live s seat)) (no_seat seat) _ none in
      let b = passed (not (can_clear v row)) (row_open seat) _ a.1 in
      let c = passed (v.shares == 0) (bad_share 0 1) _ b.1 in
      let d = passed (not (below (length s.words) row)) _ None c.1 in
      let here = at_seat seat (not-false _ a.0) in
      let on : GoesOn v row = goes_from v row (f.sound.progress seat v here) r (not-false _ b.0) in
      let e : Entry = entry_at row v.cleared in
      let is : get_or row v.cleared e ≡ e = get_or_default row v.cleared e (record { word = 0; mask = 0 }) on.0 in
      let share : 0 < v.shares = pos v.shares (eqb-false _ _ c.0) in record {
        sound = clear_keeps s.words s.all s.views f.sound seat v (next_view v row) e here (next_clears (length s.words) v row e on is share (not-false _ d.0));
        bound = entry_bound s.words (entry_at row v.cleared) f.bound;
        seats = f.seats ∙ sym (length-set s.views seat _);
      }

  load_sound : (seat word : ℕ) → fault_of s (load seat word) ≡ None → IsSoundState (next_state s (load seat word))
  load_sound seat word none =
      let v : View = view_at s seat in
      let a = passed (not (is_live s seat)) (no_seat seat) _ none in
      let b = passed (not (is_idle v)) (row_open seat) _ a.1 in
      let c = passed (not (nat_lt word (length s.words))) (bad_word word (length s.words)) None b.1 in record {
        sound = load_keeps s.words s.all s.views f.sound seat v (at_seat seat (not-false _ a.0)) word (ltb-true _ _ (not-false _ c.0));
        bound = f.bound;
        seats = f.seats ∙ sym (length-set s.views seat _);
      }

  split_sound : (seat n : ℕ) → fault_of s (split seat n) ≡ None → IsSoundState (next_state s (split seat n))
  split_sound seat n none =
      let v : View = view_at s seat in
      let a = passed (not (is_live s seat)) (no_seat seat) _ none in
      let b = passed (not (is_idle v)) (row_open seat) _ a.1 in
      let c = passed (not (nat_lt n v.shares)) (bad_share v.shares n) None b.1 in record {
        sound = split_keeps s.words s.all s.views f.sound seat v (at_seat seat (not-false _ a.0)) n (ltb-true _ _ (not-false _ c.0));
        bound = f.bound;
        seats = length-append s.live (true ∷ []) ∙ ap (λ (k : ℕ). k + 1) (f.seats ∙ sym (length-set s.views seat (left_view n v))) ∙ sym (length-append (set s.views seat (left_view n v)) (new_view n v ∷ []));
      }

  join_sound : (seat other : ℕ) → fault_of s (join seat other) ≡ None → IsSoundState (next_state s (join seat other))
  join_sound seat other none =
      let v : View = view_at s seat in let w : View = view_at s other in
      let a = passed (not (is_live s seat)) (no_seat seat) _ none in
      let b = passed (not (is_live s other) || (seat == other)) (no_seat other) _ a.1 in
      let c = passed (not (is_idle v)) (row_open seat) _ b.1 in
      let d = passed (not (is_idle w)) (row_open other) None c.1 in
      let p = or_parts (not (is_live s other)) (seat == other) b.0 in
      let t : is_live s seat ≡ true = not-false _ a.0 in
      let u : is_live s other ≡ true = not-false _ p.0 in
      let apart : other ≢ seat = λ h. eqb-false _ _ p.1 (sym h) in record {
        sound = join_keeps s.words s.all s.views f.sound seat v (at_seat seat t) other w apart (set_else s.views seat other (joined_view v w) apart ∙ at_seat other u) (not-false _ c.0) (not-false _ d.0);
        bound = f.bound;
        seats = length-set s.live other false ∙ f.seats ∙ sym (length-set (set s.views seat (joined_view v w)) other empty_view ∙ length-set s.views seat (joined_view v w));
      }

  next_sound : (e : StepEvent) → HasRow e → fault_of s e ≡ None → IsSoundState (next_state s e)
  next_sound (clear seat row) r none = clear_sound seat row r none
  next_sound (load seat word) r none = load_sound seat word none
  next_sound (split seat n) r none = split_sound seat n none
  next_sound (join seat other) r none = join_sound seat other none
  next_sound (close seat) r none = record { sound = f.sound; bound = f.bound; seats = length-map s.live (λ (_ : Bool). false) ∙ f.seats }

  outcome_sound : (e : StepEvent) (fault : Option Fault) → HasRow e → fault_of s e ≡ fault → IsSoundState (outcome s e fault).0
  outcome_sound e None r is = next_sound e r is
  outcome_sound e (Some fault) r is = f

pub opening_is_sound : OpeningIsSound
opening_is_sound width all = record { sound = opening_sound width all; bound = full_bound width; seats = refl }

pub step_keeps_sound : StepKeepsSound
step_keeps_sound s e f r = outcome_sound s f e (fault_of s e) r refl

steps_keep_sound : (s : StepState) (events : List StepEvent) → IsSoundState s → HaveRows events → IsSoundState (steps s events).0
steps_keep_sound s [] f r = f
steps_keep_sound s (e ∷ es) f r = steps_keep_sound (step s e).0 es (step_keeps_sound s e f r.0) r.1

pub events_keep_sound : EventsKeepSound
events_keep_sound width all events r = steps_keep_sound (opening_state width all) events (opening_is_sound width all) r
