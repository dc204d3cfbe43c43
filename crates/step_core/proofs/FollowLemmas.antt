-- What a step on the tables is the brief of.
use Rattle.std.proofs.Common.{◌≡◌, ℕ, ◌+◌, Bool, true, false, ◌==◌, cond, List, [], ◌∷◌, ◌++◌, length, map, replicate, get_or, set, sym, refl, ap, ◌∙◌}
use Rattle.std.proofs.Math.ListN.{get_or-map}
use Rattle.std.proofs.Math.Seq.{map-set_same}
use Rattle.std.proofs.lemmas.List.{map-set, map-append}
use Rattle.word_rows.specs.declared.entries.Entry.{Entry}
use Rattle.word_rows.specs.declared.events.StepEvent.TheVariants.{Clear as clear, Load as load, Split as split, Join as join, Close as close}
use Rattle.word_rows.specs.declared.views.View.{View}
use Rattle.word_rows.specs.Words.{without_entry}
use Rattle.word_rows.specs.Changes.{empty_view, finished_view, midway_view, next_view, with_reading, left_view, new_view, joined_view}
use Rattle.word_rows.specs.Machine.{StepState, view_at, entry_at}
use Rattle.step_core.specs.inner.Briefs.{brief_view, brief_state, Follows}

pub view_brief : (s : StepState) (seat : ℕ) → view_at (brief_state s) seat ≡ brief_view (view_at s seat)
view_brief s seat = get_or-map brief_view s.views seat empty_view

-- the next view has its shares and its row by those of the view
next_brief : (v : View) (row : List Entry) → brief_view (next_view (brief_view v) row) ≡ brief_view (next_view v row)
next_brief v row = by_test (v.cleared + 1 == length row)
  where
    by_test : (b : Bool) → brief_view (cond b (finished_view (brief_view v) row) (midway_view (brief_view v) row (v.cleared + 1))) ≡ brief_view (cond b (finished_view v row) (midway_view v row (v.cleared + 1)))
    by_test true = refl
    by_test false = refl

module _ (t : StepState) (seat : ℕ) where
  at : (s : StepState) → t ≡ brief_state s → (seat : ℕ) → view_at t seat ≡ brief_view (view_at s seat)
  at s is seat = ap (λ (x : StepState). view_at x seat) is ∙ view_brief s seat

  -- a view that is set is the brief of the one that is set
  put : (s : StepState) → t ≡ brief_state s → (n m : View) → n ≡ brief_view m → set t.views seat n ≡ map brief_view (set s.views seat m)
  put s is n m e = (λ j. set (is j).views seat (e j)) ∙ sym (map-set brief_view s.views seat m)

  pub clear_follows : (row : List Entry) (words : List ℕ) (n : View) → words ≡ without_entry t.words (entry_at row (view_at t seat).cleared) → n ≡ brief_view (next_view (view_at t seat) row) → Follows t (clear seat row) (record { words = words; all = t.all; views = set t.views seat n; live = t.live })
  clear_follows row words n w e s is =
      let a = at s is seat in
      let on : n ≡ brief_view (next_view (view_at s seat) row) = e ∙ ap (λ (u : View). brief_view (next_view u row)) a ∙ next_brief (view_at s seat) row in
      let cleared : words ≡ without_entry s.words (entry_at row (view_at s seat).cleared) = w ∙ (λ j. without_entry (is j).words (entry_at row (a j).cleared)) in
      let views = put s is n (next_view (view_at s seat) row) on in
      λ j. record { words = cleared j; all = (is j).all; views = views j; live = (is j).live }

  pub load_follows : (word : ℕ) → Follows t (load seat word) t
  load_follows word s is =
      let views : t.views ≡ map brief_view (set s.views seat (with_reading (view_at s seat) word (get_or s.words word 0))) = ap (λ (x : StepState). x.views) is ∙ sym (map-set_same brief_view s.views seat (with_reading (view_at s seat) word (get_or s.words word 0)) empty_view refl) in
      λ j. record { words = (is j).words; all = (is j).all; views = views j; live = (is j).live }

  pub split_follows : (shares : ℕ) (left new : View) → left ≡ left_view shares (view_at t seat) → new ≡ brief_view (new_view shares (view_at t seat)) → Follows t (split seat shares) (record { words = t.words; all = t.all; views = set t.views seat left ++ new ∷ []; live = t.live ++ true ∷ [] })
  split_follows shares left new l n s is =
      let a = at s is seat in
      let first = put s is left (left_view shares (view_at s seat)) (l ∙ ap (left_view shares) a) in
      let last : new ≡ brief_view (new_view shares (view_at s seat)) = n ∙ ap (λ (u : View). brief_view (new_view shares u)) a in
      let views : set t.views seat left ++ new ∷ [] ≡ map brief_view (set s.views seat (left_view shares (view_at s seat)) ++ new_view shares (view_at s seat) ∷ []) = (λ j. first j ++ last j ∷ []) ∙ sym (map-append brief_view (set s.views seat (left_view shares (view_at s seat))) (new_view shares (view_at s seat) ∷ [])) in
      λ j. record { words = (is j).words; all = (is j).all; views = views j; live = (is j).live ++ true ∷ [] }

  pub join_follows : (other : ℕ) (both none : View) → both ≡ record (view_at t seat) { shares = (view_at t seat).shares + (view_at t other).shares } → none ≡ empty_view → Follows t (join seat other) (record { words = t.words; all = t.all; views = set (set t.views seat both) other none; live = set t.live other false })
  join_follows other both none b z s is =
      let a = at s is seat in let o = at s is other in
      let joined : both ≡ brief_view (joined_view (view_at s seat) (view_at s other)) = b ∙ (λ j. record (a j) { shares = (a j).shares + (o j).shares }) in
      let first = put s is both (joined_view (view_at s seat) (view_at s other)) joined in
      let views : set (set t.views seat both) other none ≡ map brief_view (set (set s.views seat (joined_view (view_at s seat) (view_at s other))) other empty_view) = (λ j. set (first j) other (z j)) ∙ sym (map-set brief_view (set s.views seat (joined_view (view_at s seat) (view_at s other))) other empty_view) in
      λ j. record { words = (is j).words; all = (is j).all; views = views j; live = set (is j).live other false }

  none_live : (l : List Bool) → replicate (length l) false ≡ map (λ (_ : Bool). false) l
  none_live [] = refl
  none_live (b ∷ bs) = ap (λ (l : List Bool). false ∷ l) (none_live bs)

  pub close_follows : (live : List Bool) → live ≡ replicate (length t.live) false → Follows t (close seat) (record { words = t.words; all = t.all; views = t.views; live = live })
  close_follows live l s is =
      let none : live ≡ map (λ (_ : Bool). false) s.live = l ∙ none_live t.live ∙ ap (λ (x : StepState). map (λ (_ : Bool). false) x.live) is in
      λ j. record { words = (is j).words; all = (is j).all; views = (is j).views; live = none j }
