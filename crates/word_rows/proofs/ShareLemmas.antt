-- Split and Join keep the state sound.
use Rattle.std.proofs.Common.{◌≡◌, ◌≢◌, ℕ, ◌<◌, Bool, true, false, ◌||◌, List, [], ◌∷◌, ◌++◌, length, set, take, sym, refl, ap, ◌∙◌, ⊎_elim, inl, arith, IsTrue}
use Rattle.std.proofs.lemmas.Bool.{false≢true, cases_eq, or_cases, or_left, or_right, and_from}
use Rattle.std.proofs.lemmas.List.Folds.{list_all-append}
use mathlib.Core.Option.{some, some-injective}
use lib.ListN.{get_elem?}
use Rattle.word_rows.specs.declared.entries.Entry.{Entry}
use Rattle.word_rows.specs.declared.views.View.{View}
use Rattle.word_rows.specs.Rows.{clears, rows_clear, below, rows_below}
use Rattle.word_rows.specs.Accounts.{Each, AreZero, view_clears, views_clear, lacks}
use Rattle.word_rows.specs.Changes.{is_idle, left_view, new_view, joined_view, empty_view}
use Rattle.word_rows.specs.Sound.{IsSound, IsBelow}
use Rattle.word_rows.proofs.ViewLemmas.{idle_row, idle_cleared, at_set, put_here, set_else, each_set, each_snoc, total_set, total_snoc, set_clears, snoc_clears, one_clears, no_less, or_false, rows_clear_append, lacks_append}
use Rattle.word_rows.proofs.LoadLemmas.{readings_below-append}

pub rows_below-append : (n : ℕ) (xs ys : List (List Entry)) → rows_below n xs ≡ true → rows_below n ys ≡ true → rows_below n (xs ++ ys) ≡ true
rows_below-append n xs ys h t = list_all-append (below n) xs ys ∙ and_from _ _ h t

-- a view with no row in progress clears what its done rows clear
pub done_only : (u : View) → IsTrue (is_idle u) → (i b : ℕ) → view_clears u i b ≡ rows_clear u.done i b
done_only u r i b = ap (λ (k : ℕ). rows_clear u.done i b || clears (take k u.row) i b) (idle_cleared u r) ∙ or_false _

-- what two lists clear is 0 where what each clears is 0
pub both_zero : (words : List ℕ) (test one other : ℕ → ℕ → Bool) → ((i b : ℕ) → test i b ≡ (one i b || other i b)) → AreZero words one → AreZero words other → AreZero words test
both_zero words test one other is x y i b h l t = ⊎_elim (λ (o : one i b ≡ true). x i b h l o) (λ (o : other i b ≡ true). y i b h l o) (or_cases (one i b) (other i b) (sym (is i b) ∙ t))

module _ (words : List ℕ) (all : ℕ) (views : List View) (s : IsSound words all views) (id : ℕ) (v : View) (at : get_elem? views id ≡ some v) (n : ℕ) (less : n < v.shares) where
  abbrev left : View
  left = left_view n v

  abbrev new : View
  new = new_view n v

  abbrev mid : List View
  mid = set views id left

  abbrev cut : List View
  cut = mid ++ new ∷ []

  all_clear : (i b : ℕ) → views_clear views i b ≡ true → views_clear cut i b ≡ true
  all_clear i b t = snoc_clears mid new i b (set_clears views id v left i b at (λ c. c) t)

  -- what was seen or done by the view is cleared
  known : AreZero words (rows_clear new.seen)
  known = both_zero words (rows_clear new.seen) (rows_clear v.seen) (rows_clear v.done) (rows_clear_append v.seen v.done) (s.seen id v at)
      (λ i b h l t. s.cleared id v at i b h l (or_left _ _ t))

  nothing : (test : ℕ → ℕ → Bool) → ((i b : ℕ) → test i b ≡ false) → AreZero words test
  nothing test none i b h l t = absurd (false≢true (sym (none i b) ∙ t))

  kept' : Each (λ u. AreZero words (lacks u.readings)) cut
  kept' = each_snoc _ mid new (each_set _ views id left (s.kept id v at) s.kept) (nothing (lacks new.readings) (λ i b. refl))

  named' : IsBelow (length words) v → IsBelow (length words) new
  named' m = record { done = refl; row = refl; seen = rows_below-append (length words) v.seen v.done m.seen m.done; readings = refl }

  named_left : IsBelow (length words) v → IsBelow (length words) left
  named_left m = record { done = m.done; row = m.row; seen = m.seen; readings = m.readings }

  pub split_keeps : IsSound words all cut
  split_keeps = record {
    accounted = λ i b h l z. all_clear i b (s.accounted i b h l z);
    cleared = each_snoc _ mid new (each_set _ views id left (s.cleared id v at) s.cleared) (nothing (view_clears new) (λ i b. refl));
    shared_out = let t = total_set views id v left at in let u = total_snoc mid new in let q = s.shared_out in omega arith;
    idle = each_snoc _ mid new (each_set _ views id left (λ z. absurd (omega arith)) s.idle) (λ _. (refl, refl));
    kept = kept';
    found = λ j u o i b h l t. all_clear i b (s.accounted i b h l (kept' j u o i b h l t));
    seen = each_snoc _ mid new (each_set _ views id left (s.seen id v at) s.seen) known;
    progress = each_snoc _ mid new (each_set _ views id left (s.progress id v at) s.progress) (inl refl);
    named = each_snoc (IsBelow (length words)) mid new (each_set (IsBelow (length words)) views id left (named_left (s.named id v at)) s.named) (named' (s.named id v at));
  }

module _ (words : List ℕ) (all : ℕ) (views : List View) (s : IsSound words all views) (id : ℕ) (v : View) (at : get_elem? views id ≡ some v) (other : ℕ) (w : View) (apart : other ≢ id) (there : get_elem? (set views id (joined_view v w)) other ≡ some w) (rests : IsTrue (is_idle v)) (rests' : IsTrue (is_idle w)) where
  abbrev both : View
  both = joined_view v w

  abbrev middle : List View
  middle = set views id both

  abbrev merged : List View
  merged = set middle other empty_view

  at' : get_elem? views other ≡ some w
  at' = ⊎_elim (λ t. absurd (apart t.0)) (λ t. t.1) (at_set views id other both w there)

  both_clear : (i b : ℕ) → view_clears both i b ≡ (view_clears v i b || view_clears w i b)
  both_clear i b = done_only both rests i b ∙ rows_clear_append v.done w.done i b ∙ λ j. sym (done_only v rests i b) j || sym (done_only w rests' i b) j

  here : get_elem? merged id ≡ some both
  here = set_else middle other id empty_view (λ h. apart (sym h)) ∙ put_here views id v both at

  -- what any view cleared, the joined view clears or another one does
  merged_clear : (i b : ℕ) → views_clear views i b ≡ true → views_clear merged i b ≡ true
  merged_clear i b t = no_less middle merged i b
      (λ j u o c. ⊎_elim
      (λ (is : j ≡ other). let same : w ≡ u = some-injective w u (sym there ∙ ap (λ (k : ℕ). get_elem? middle k) (sym is) ∙ o) in
      one_clears merged id both i b here (both_clear i b ∙ or_right (view_clears v i b) _ (ap (λ (x : View). view_clears x i b) same ∙ c)))
      (λ (is : j ≡ other → ⊥). one_clears merged j u i b (set_else middle other j empty_view is ∙ o) c)
      (cases_eq j other))
      (set_clears views id v both i b at (λ c. both_clear i b ∙ or_left _ _ c) t)

  nothing' : (test : ℕ → ℕ → Bool) → ((i b : ℕ) → test i b ≡ false) → AreZero words test
  nothing' test none i b h l t = absurd (false≢true (sym (none i b) ∙ t))

  kept'' : Each (λ u. AreZero words (lacks u.readings)) merged
  kept'' = each_set _ middle other empty_view (nothing' (lacks []) (λ i b. refl))
      (each_set _ views id both (both_zero words (lacks both.readings) (lacks v.readings) (lacks w.readings) (lacks_append v.readings w.readings) (s.kept id v at) (s.kept other w at')) s.kept)

  none_done : both.shares ≡ 0 → (both.done ≡ []) × (both.row ≡ [])
  none_done z = let a = s.idle id v at (omega arith) in let b = s.idle other w at' (omega arith) in ((λ j. a.0 j ++ b.0 j), idle_row v rests)

  named_both : IsBelow (length words) v → IsBelow (length words) w → IsBelow (length words) both
  named_both m n = record { done = rows_below-append (length words) v.done w.done m.done n.done; row = m.row; seen = rows_below-append (length words) v.seen w.seen m.seen n.seen; readings = readings_below-append (length words) v.readings w.readings m.readings n.readings }

  pub join_keeps : IsSound words all merged
  join_keeps = record {
    accounted = λ i b h l z. merged_clear i b (s.accounted i b h l z);
    cleared = each_set _ middle other empty_view (nothing' (view_clears empty_view) (λ i b. refl))
        (each_set _ views id both (both_zero words (view_clears both) (view_clears v) (view_clears w) both_clear (s.cleared id v at) (s.cleared other w at')) s.cleared);
    shared_out = let t = total_set views id v both at in let u = total_set middle other w empty_view there in let q = s.shared_out in omega arith;
    idle = each_set _ middle other empty_view (λ _. (refl, refl)) (each_set _ views id both none_done s.idle);
    kept = kept'';
    found = λ j u o i b h l t. merged_clear i b (s.accounted i b h l (kept'' j u o i b h l t));
    seen = each_set _ middle other empty_view (nothing' (rows_clear []) (λ i b. refl))
        (each_set _ views id both (both_zero words (rows_clear both.seen) (rows_clear v.seen) (rows_clear w.seen) (rows_clear_append v.seen w.seen) (s.seen id v at) (s.seen other w at')) s.seen);
    progress = each_set _ middle other empty_view (inl refl) (each_set _ views id both (inl rests) s.progress);
    named = each_set (IsBelow (length words)) middle other empty_view (record { done = refl; row = refl; seen = refl; readings = refl }) (each_set (IsBelow (length words)) views id both (named_both (s.named id v at) (s.named other w at')) s.named);
  }
