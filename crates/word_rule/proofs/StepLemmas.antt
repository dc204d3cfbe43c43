-- What the step machine does at a live seat, and what its replies tell.
use Rattle.std.proofs.Common.{◌≡◌, ◌≢◌, ℕ, ◌<◌, ◌≤◌, Bool, true, false, not, ◌||◌, ◌==◌, nat_lt, cond, List, [], ◌∷◌, ◌++◌, length, map, set, slice_index, sym, refl, ap, ◌∙◌, arith}
use Rattle.std.specs.Prelude.{Option, Some, None, Result, Ok}
use Rattle.std.proofs.lemmas.Bool.{cond-false, not-false, not_from_true, ne_eqb, lt-ltb, le-ltb, ltb-true, or_from}
use mathlib.Core.Option.{some}
use lib.ListN.{get_elem?}
use Rattle.word_rows.specs.declared.entries.Entry.{Entry}
use Rattle.word_rows.specs.declared.views.View.{View}
use Rattle.word_rows.specs.declared.events.StepEvent.{StepEvent}
use Rattle.word_rows.specs.declared.events.StepEvent.TheVariants.{Clear as clear, Load as load, Split as split, Join as join, Close as close}
use Rattle.word_rows.specs.declared.replies.Reply.{Reply}
use Rattle.word_rows.specs.declared.replies.Reply.TheVariants.{Cleared, Loaded, Split, Joined, Closed}
use Rattle.word_rows.specs.Rows.{below}
use Rattle.word_rows.specs.Words.{without_entry}
use Rattle.word_rows.specs.Changes.{is_idle, next_view, with_reading, left_view, new_view, joined_view, empty_view}
use Rattle.word_rows.specs.Machine.{StepState, Fault, HasRow, HaveRows, no_seat, row_open, bad_share, bad_word, shares_out, step, fault_of, outcome, view_at, is_live, can_clear, entry_at}
use Rattle.word_rows.proofs.MachineLemmas.{passed}
use Rattle.word_rule.proofs.ListLemmas.{at_or}

-- ---- lists of events
pub rows_snoc : (es : List StepEvent) (e : StepEvent) → HaveRows es → HasRow e → HaveRows (es ++ e ∷ [])
rows_snoc [] e h r = (r, tt)
rows_snoc (d ∷ ds) e h r = (h.0, rows_snoc ds e h.1 r)

-- ---- steps that have no fault
-- a test that is false finds no fault, and those after it go on
none_here : (b : Bool) (fault : Fault) (next : Option Fault) → b ≡ false → next ≡ None → ◌≡◌ {A = Option Fault} (cond b (Some fault) next) None
none_here b fault next f e = cond-false b (Some fault) next f ∙ e

-- a live seat of the machine, and its view
module _ (m : StepState) (id : ℕ) (v : View) (has : get_elem? m.views id ≡ some v) (live : is_live m id ≡ true) where
  there : view_at m id ≡ v
  there = at_or m.views id v empty_view has

  lives : not (is_live m id) ≡ false
  lives = not_from_true _ live

  rests : is_idle v ≡ true → not (is_idle (view_at m id)) ≡ false
  rests i = not_from_true _ (ap is_idle there ∙ i)

  has_share : 0 < v.shares → (view_at m id).shares ≡ 0 → ⊥
  has_share h z = let same : (view_at m id).shares ≡ v.shares = ap (λ (u : View). u.shares) there in omega arith

  clear_fits : (row : List Entry) → 0 < v.shares → can_clear v row ≡ true → below (length m.words) row ≡ true → fault_of m (clear id row) ≡ None
  clear_fits row share can named =
      none_here (not (is_live m id)) (no_seat id) _ lives
      (none_here (not (can_clear (view_at m id) row)) (row_open id) _ (not_from_true _ (ap (λ (u : View). can_clear u row) there ∙ can))
      (none_here ((view_at m id).shares == 0) (bad_share 0 1) _ (ne_eqb _ 0 (has_share share))
      (none_here (not (below (length m.words) row)) _ None (not_from_true _ named) refl)))

  pub clear_step : (row : List Entry) → 0 < v.shares → can_clear v row ≡ true → below (length m.words) row ≡ true
      → step m (clear id row) ≡ (record { words = without_entry m.words (entry_at row v.cleared); all = m.all; views = set m.views id (next_view v row); live = m.live }, Ok (Cleared (slice_index m.words (entry_at row v.cleared).word)))
  clear_step row share can named = ap (outcome m (clear id row)) (clear_fits row share can named)
      ∙ λ j. (record { words = without_entry m.words (entry_at row (there j).cleared); all = m.all; views = set m.views id (next_view (there j) row); live = m.live }, Ok (Cleared (slice_index m.words (entry_at row (there j).cleared).word)))

  load_fits : (word : ℕ) → is_idle v ≡ true → word < length m.words → fault_of m (load id word) ≡ None
  load_fits word i inside =
      none_here (not (is_live m id)) (no_seat id) _ lives
      (none_here (not (is_idle (view_at m id))) (row_open id) _ (rests i)
      (none_here (not (nat_lt word (length m.words))) (bad_word word (length m.words)) None (not_from_true _ (lt-ltb word (length m.words) inside)) refl))

  pub load_step : (word : ℕ) → is_idle v ≡ true → word < length m.words
      → step m (load id word) ≡ (record { words = m.words; all = m.all; views = set m.views id (with_reading v word (slice_index m.words word)); live = m.live }, Ok (Loaded (slice_index m.words word)))
  load_step word i inside = ap (outcome m (load id word)) (load_fits word i inside)
      ∙ λ j. (record { words = m.words; all = m.all; views = set m.views id (with_reading (there j) word (slice_index m.words word)); live = m.live }, Ok (Loaded (slice_index m.words word)))

  split_fits : (shares : ℕ) → is_idle v ≡ true → shares < v.shares → fault_of m (split id shares) ≡ None
  split_fits shares i less =
      none_here (not (is_live m id)) (no_seat id) _ lives
      (none_here (not (is_idle (view_at m id))) (row_open id) _ (rests i)
      (none_here (not (nat_lt shares (view_at m id).shares)) (bad_share (view_at m id).shares shares) None
      (not_from_true _ (ap (λ (u : View). nat_lt shares u.shares) there ∙ lt-ltb shares v.shares less)) refl))

  pub split_step : (shares : ℕ) → is_idle v ≡ true → shares < v.shares
      → step m (split id shares) ≡ (record { words = m.words; all = m.all; views = set m.views id (left_view shares v) ++ new_view shares v ∷ []; live = m.live ++ true ∷ [] }, Ok (Split (length m.views)))
  split_step shares i less = ap (outcome m (split id shares)) (split_fits shares i less)
      ∙ λ j. (record { words = m.words; all = m.all; views = set m.views id (left_view shares (there j)) ++ new_view shares (there j) ∷ []; live = m.live ++ true ∷ [] }, Ok (Split (length m.views)))

  join_fits : (other : ℕ) (w : View) → get_elem? m.views other ≡ some w → is_live m other ≡ true → other ≢ id → is_idle v ≡ true → is_idle w ≡ true → fault_of m (join id other) ≡ None
  join_fits other w at t apart i j =
      none_here (not (is_live m id)) (no_seat id) _ lives
      (none_here (not (is_live m other) || (id == other)) (no_seat other) _ (or_from _ _ (not_from_true _ t) (ne_eqb id other (λ e. apart (sym e))))
      (none_here (not (is_idle (view_at m id))) (row_open id) _ (rests i)
      (none_here (not (is_idle (view_at m other))) (row_open other) None (not_from_true _ (ap is_idle (at_or m.views other w empty_view at) ∙ j)) refl)))

  pub join_step : (other : ℕ) (w : View) → get_elem? m.views other ≡ some w → is_live m other ≡ true → other ≢ id → is_idle v ≡ true → is_idle w ≡ true
      → step m (join id other) ≡ (record { words = m.words; all = m.all; views = set (set m.views id (joined_view v w)) other empty_view; live = set m.live other false }, Ok Joined)
  join_step other w at t apart i k = let same : view_at m other ≡ w = at_or m.views other w empty_view at in
      ap (outcome m (join id other)) (join_fits other w at t apart i k)
      ∙ λ j. (record { words = m.words; all = m.all; views = set (set m.views id (joined_view (there j) (same j))) other empty_view; live = set m.live other false }, Ok Joined)

  close_fits : is_idle v ≡ true → m.all ≤ v.shares → fault_of m (close id) ≡ None
  close_fits i whole =
      none_here (not (is_live m id)) (no_seat id) _ lives
      (none_here (not (is_idle (view_at m id))) (row_open id) _ (rests i)
      (none_here (nat_lt (view_at m id).shares m.all) (shares_out (view_at m id).shares m.all) None
      (ap (λ (u : View). nat_lt u.shares m.all) there ∙ le-ltb v.shares m.all whole) refl))

  pub close_step : is_idle v ≡ true → m.all ≤ v.shares → step m (close id) ≡ (record { words = m.words; all = m.all; views = m.views; live = map (λ (_ : Bool). false) m.live }, Ok (Closed m.words))
  close_step i whole = ap (outcome m (close id)) (close_fits i whole)

-- ---- what a reply tells
abbrev value_of : Result Reply Fault → ℕ
value_of (Ok (Loaded n)) = n
value_of r = 0

-- a word that was loaded is in the words, and has the value that was found
pub loaded_by : (s : StepState) (seat word value : ℕ) (fault : Option Fault) → fault_of s (load seat word) ≡ fault → (outcome s (load seat word) fault).1 ≡ Ok (Loaded value) → (word < length s.words) × (slice_index s.words word ≡ value)
loaded_by s seat word value None none is =
    let a = passed (not (is_live s seat)) (no_seat seat) _ none in
    let b = passed (not (is_idle (view_at s seat))) (row_open seat) _ a.1 in
    let c = passed (not (nat_lt word (length s.words))) (bad_word word (length s.words)) None b.1 in
    (ltb-true _ _ (not-false _ c.0), ap value_of is)
loaded_by s seat word value (Some fault) none is = cc
