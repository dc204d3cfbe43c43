-- What the code makes of the tables is what follows from the event.
use Rattle.std.proofs.Common.{◌≡◌, ℕ, ◌+◌, ◌-◌, ◌<◌, Bool, true, false, List, [], ◌∷◌, ◌++◌, length, get_or, set, sym, ap, ◌∙◌, subst}
use Rattle.std.specs.Prelude.{None}
use Rattle.std.proofs.lemmas.List.{get_or_read}
use Rattle.word_rows.specs.declared.entries.Entry.{Entry}
use Rattle.word_rows.specs.declared.events.StepEvent.TheVariants.{Clear as clear, Split as split, Join as join}
use Rattle.word_rows.specs.declared.views.View.{View}
use Rattle.word_rows.specs.Rows.{is_row}
use Rattle.word_rows.specs.Words.{without}
use Rattle.word_rows.specs.Changes.{empty_view, next_view}
use Rattle.word_rows.specs.Meeting.{SameRowIsOne}
use Rattle.word_rows.specs.Sound.{IsPartWay}
use Rattle.word_rows.specs.Machine.{StepState, fault_of, view_at, entry_at, can_clear}
use Rattle.word_rows.proofs.RowLemmas.{entry_below}
use Rattle.step_core.specs.inner.Briefs.{brief_view, Follows, IsSteady}
use Rattle.step_core.proofs.AllowedLemmas.{inside, clear_allowed, split_allowed, join_allowed, some_left}
use Rattle.step_core.proofs.FollowLemmas.{clear_follows, split_follows, join_follows}

abbrev pub blank : Entry
blank = record { word = 0; mask = 0 }

module _ (t : StepState) (seat : ℕ) (seats : length t.live ≡ length t.views) where
  module _ (row : List Entry) (none : fault_of t (clear seat row) ≡ None) (v : View) (is : v ≡ get_or t.views seat v) where
    -- the view that the code reads
    at_seat : v ≡ view_at t seat
    at_seat = get_or_read t.views seat v (inside t seat seats (clear_allowed t seat row none).0) is empty_view

    -- an entry of the row is left
    pub clear_left : SameRowIsOne → IsSteady t → is_row row ≡ true → v.cleared < length row
    clear_left one steady form =
        let a = clear_allowed t seat row none in
        let p : IsPartWay v = subst IsPartWay (sym at_seat) (steady.progress seat a.0) in
        some_left one v row p form (subst (λ (u : View). can_clear u row ≡ true) (sym at_seat) a.1)

    -- an entry of the row names a word of the table
    pub clear_word : (k : ℕ) → k < length row → (get_or row k blank).word < length t.words
    clear_word k h = entry_below (length t.words) row k blank (clear_allowed t seat row none).2 h

    entry_is : (k : ℕ) → k ≡ v.cleared → get_or row k blank ≡ entry_at row (view_at t seat).cleared
    entry_is k n = ap (λ (i : ℕ). get_or row i blank) (n ∙ ap (λ (u : View). u.cleared) at_seat)

    pub clear_reads : (k old : ℕ) → k ≡ v.cleared → k < length row → old ≡ get_or t.words (get_or row k blank).word old → old ≡ get_or t.words (entry_at row (view_at t seat).cleared).word 0
    clear_reads k old n h o = get_or_read t.words (get_or row k blank).word old (clear_word k h) o 0 ∙ ap (λ (e : Entry). get_or t.words e.word 0) (entry_is k n)

    pub clear_made : (k old value : ℕ) → k ≡ v.cleared → k < length row → old ≡ get_or t.words (get_or row k blank).word old → value ≡ without old (get_or row k blank).mask → (next : View) → next ≡ brief_view (next_view v row) → Follows t (clear seat row) (record { words = set t.words (get_or row k blank).word value; all = t.all; views = set t.views seat next; live = t.live })
    clear_made k old value n h o is next m =
        let e : Entry = get_or row k blank in let f : Entry = entry_at row (view_at t seat).cleared in
        let same : e ≡ f = entry_is k n in
        let made : value ≡ without (get_or t.words f.word 0) f.mask = is ∙ (λ j. without (clear_reads k old n h o j) (same j).mask) in
        clear_follows t seat row (set t.words e.word value) next (λ j. set t.words (same j).word (made j)) (m ∙ ap (λ (u : View). brief_view (next_view u row)) at_seat)

  pub split_made : (shares : ℕ) → fault_of t (split seat shares) ≡ None → (v left new : View) (a : ℕ) → v ≡ get_or t.views seat v → a ≡ v.shares → left ≡ record v { shares = a - shares } → new ≡ record empty_view { shares = shares } → (views : List View) (live : List Bool) → views ≡ set t.views seat left ++ new ∷ [] → live ≡ t.live ++ true ∷ [] → Follows t (split seat shares) (record { words = t.words; all = t.all; views = views; live = live })
  split_made shares none v left new a is n l m views live f g s q =
      let at = get_or_read t.views seat v (inside t seat seats (split_allowed t seat shares none).0) is empty_view in
      let made = split_follows t seat shares left new (l ∙ (λ j. record v { shares = n j - shares }) ∙ ap (λ (u : View). record u { shares = u.shares - shares }) at) m s q in
      (λ j. record { words = t.words; all = t.all; views = f j; live = g j }) ∙ made

  pub join_made : (other : ℕ) → fault_of t (join seat other) ≡ None → (v w both none : View) (a b : ℕ) → v ≡ get_or t.views seat v → w ≡ get_or t.views other w → a ≡ v.shares → b ≡ w.shares → both ≡ record v { shares = a + b } → none ≡ empty_view → Follows t (join seat other) (record { words = t.words; all = t.all; views = set (set t.views seat both) other none; live = set t.live other false })
  join_made other allowed v w both none a b is there n m l z =
      let p = join_allowed t seat other allowed in
      let at = get_or_read t.views seat v (inside t seat seats p.0) is empty_view in
      let to = get_or_read t.views other w (inside t other seats p.1) there empty_view in
      join_follows t seat other both none (l ∙ (λ j. record v { shares = n j + m j }) ∙ (λ j. record (at j) { shares = (at j).shares + (to j).shares })) z
