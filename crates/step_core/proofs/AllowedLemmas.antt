-- What an event that has no fault can rely on.
use Rattle.std.proofs.Common.{◌≡◌, ◌≢◌, ℕ, ◌<◌, true, not, ◌||◌, ◌==◌, nat_lt, List, length, subst, ⊎_elim, arith}
use Rattle.std.specs.Prelude.{None}
use Rattle.std.proofs.lemmas.Bool.{not-false, eqb-false, ltb-true, or_cases, or_parts}
use Rattle.word_rows.specs.declared.entries.Entry.{Entry}
use Rattle.word_rows.specs.declared.events.StepEvent.TheVariants.{Clear as clear, Load as load, Split as split, Join as join}
use Rattle.word_rows.specs.declared.views.View.{View}
use Rattle.word_rows.specs.Rows.{is_row, below, same_row}
use Rattle.word_rows.specs.Changes.{is_idle}
use Rattle.word_rows.specs.Meeting.{SameRowIsOne}
use Rattle.word_rows.specs.Sound.{IsPartWay}
use Rattle.word_rows.specs.Machine.{StepState, fault_of, is_live, view_at, can_clear, no_seat, row_open, bad_share, bad_word}
use Rattle.word_rows.proofs.MachineLemmas.{passed, live_inside}
use Rattle.word_rows.proofs.ViewLemmas.{idle_cleared}
use Rattle.word_rows.proofs.RowLemmas.{row_long}

-- the seat of an event that has no fault is one of those that were made
pub inside : (s : StepState) (seat : ℕ) → length s.live ≡ length s.views → is_live s seat ≡ true → seat < length s.views
inside s seat e t = subst (λ (n : ℕ). seat < n) e (live_inside s.live seat t)

module _ (s : StepState) (seat : ℕ) where
  abbrev v : View
  v = view_at s seat

  pub clear_allowed : (row : List Entry) → fault_of s (clear seat row) ≡ None → (is_live s seat ≡ true) × (can_clear v row ≡ true) × (below (length s.words) row ≡ true)
  clear_allowed row none =
      let a = passed (not (is_live s seat)) (no_seat seat) _ none in
      let b = passed (not (can_clear v row)) (row_open seat) _ a.1 in
      let c = passed (v.shares == 0) (bad_share 0 1) _ b.1 in
      let d = passed (not (below (length s.words) row)) _ None c.1 in
      (not-false _ a.0, not-false _ b.0, not-false _ d.0)

  pub load_allowed : (word : ℕ) → fault_of s (load seat word) ≡ None → (is_live s seat ≡ true) × (word < length s.words)
  load_allowed word none =
      let a = passed (not (is_live s seat)) (no_seat seat) _ none in
      let b = passed (not (is_idle v)) (row_open seat) _ a.1 in
      let c = passed (not (nat_lt word (length s.words))) (bad_word word (length s.words)) None b.1 in
      (not-false _ a.0, ltb-true _ _ (not-false _ c.0))

  pub split_allowed : (n : ℕ) → fault_of s (split seat n) ≡ None → (is_live s seat ≡ true) × (is_idle v ≡ true) × (n < v.shares)
  split_allowed n none =
      let a = passed (not (is_live s seat)) (no_seat seat) _ none in
      let b = passed (not (is_idle v)) (row_open seat) _ a.1 in
      let c = passed (not (nat_lt n v.shares)) (bad_share v.shares n) None b.1 in
      (not-false _ a.0, not-false _ b.0, ltb-true _ _ (not-false _ c.0))

  pub join_allowed : (other : ℕ) → fault_of s (join seat other) ≡ None → (is_live s seat ≡ true) × (is_live s other ≡ true) × (seat ≢ other)
  join_allowed other none =
      let w : View = view_at s other in
      let a = passed (not (is_live s seat)) (no_seat seat) _ none in
      let b = passed (not (is_live s other) || (seat == other)) (no_seat other) _ a.1 in
      let p = or_parts (not (is_live s other)) (seat == other) b.0 in
      (not-false _ a.0, not-false _ p.0, eqb-false _ _ p.1)

pub some_left : SameRowIsOne → (v : View) (row : List Entry) → IsPartWay v → is_row row ≡ true → can_clear v row ≡ true → v.cleared < length row
some_left one v row p r o =
    let long = row_long row r in
    ⊎_elim
    (λ (i : is_idle v ≡ true). let z = idle_cleared v i in let h : v.cleared < length row = omega arith in h)
    (λ (i : same_row v.row row ≡ true). let same : v.row ≡ row = one v.row row i in
    ⊎_elim
    (λ (j : is_idle v ≡ true). let z = idle_cleared v j in let h : v.cleared < length row = omega arith in h)
    (λ (h : (0 < v.cleared) × (v.cleared < length v.row)). subst (λ (l : List Entry). v.cleared < length l) same h.1)
    p)
    (or_cases _ _ o)
