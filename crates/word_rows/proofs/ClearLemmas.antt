-- Clear keeps the state sound.
use Rattle.std.proofs.Common.{◌≡◌, ◌≢◌, ℕ, ◌+◌, ◌<◌, Bool, true, false, ◌||◌, ◌==◌, List, [], ◌∷◌, ◌++◌, length, get_or, set, take, sym, refl, ap, ◌∙◌, subst, ⊎_elim, inl, inr, arith, length-set}
use Rattle.std.proofs.lemmas.Bool.{or_cases, or_left, or_right, eqb-true, eqb-false, cases_Bool, and_from, cond-true, cond-false}
use Rattle.std.proofs.lemmas.List.{take_more, take_all}
use Rattle.std.proofs.lemmas.List.Folds.{list_all-append}
use mathlib.Core.Option.{some}
use lib.ListN.{get_elem?}
use Rattle.word_rows.specs.declared.entries.Entry.{Entry}
use Rattle.word_rows.specs.declared.views.View.{View}
use Rattle.word_rows.specs.Rows.{entry_clears, clears, rows_clear, below, rows_below}
use Rattle.word_rows.specs.Words.{bit_of, without_entry}
use Rattle.word_rows.specs.Accounts.{Each, AreZero, view_clears, views_clear, lacks}
use Rattle.word_rows.specs.Changes.{finished_view, midway_view, next_view}
use Rattle.word_rows.specs.Sound.{IsSound, IsPartWay, IsBelow}
use Rattle.word_rows.proofs.BitLemmas.{bit_lost, bit_stays, bit_goes}
use Rattle.word_rows.proofs.ViewLemmas.{each_set, total_set, set_clears, put_here, one_clears, or_assoc, or_false, clears_append, rows_clear_append}

-- what a view is after one more entry was cleared by it
pub record Clears (width : ℕ) (v : View) (e : Entry) (w : View) : Type 0 where
  pub more : (i b : ℕ) → view_clears w i b ≡ (view_clears v i b || entry_clears e i b)
  pub shares : w.shares ≡ v.shares
  pub some_share : 0 < v.shares
  pub seen : w.seen ≡ v.seen
  pub readings : w.readings ≡ v.readings
  pub progress : IsPartWay w
  pub named : IsBelow width v → IsBelow width w

module _ (words : List ℕ) (all : ℕ) (views : List View) (s : IsSound words all views) (id : ℕ) (v w : View) (e : Entry) (at : get_elem? views id ≡ some v) (c : Clears (length words) v e w) where
  abbrev ws : List ℕ
  ws = without_entry words e

  abbrev vs : List View
  vs = set views id w

  width : length ws ≡ length words
  width = length-set words e.word _

  inside : (i : ℕ) → i < length ws → i < length words
  inside i h = subst (λ (n : ℕ). i < n) width h

  -- what was 0 stays 0
  zeros : (test : ℕ → ℕ → Bool) → AreZero words test → AreZero ws test
  zeros test z i b h l t = bit_stays words e i b (inside i h) (z i b (inside i h) l t)

  mine : AreZero ws (view_clears w)
  mine i b h l t = ⊎_elim
      (λ (o : view_clears v i b ≡ true). zeros (view_clears v) (s.cleared id v at) i b h l o)
      (λ (o : entry_clears e i b ≡ true). bit_goes words e i b (inside i h) o)
      (or_cases _ _ (sym (c.more i b) ∙ t))

  accounted' : (i b : ℕ) → i < length ws → b < 64 → bit_of ws i b ≡ 0 → views_clear vs i b ≡ true
  accounted' i b h l z = ⊎_elim
      (λ (o : bit_of words i b ≡ 0). set_clears views id v w i b at (λ t. c.more i b ∙ or_left _ _ t) (s.accounted i b (inside i h) l o))
      (λ (o : entry_clears e i b ≡ true). one_clears vs id w i b (put_here views id v w at) (c.more i b ∙ or_right _ _ o))
      (bit_lost words e i b (inside i h) z)

  kept' : Each (λ u. AreZero ws (lacks u.readings)) vs
  kept' = each_set _ views id w
      (subst (λ r. AreZero ws (lacks r)) (sym c.readings) (zeros (lacks v.readings) (s.kept id v at)))
      (λ j u o. zeros (lacks u.readings) (s.kept j u o))

  pub clear_keeps : IsSound ws all vs
  clear_keeps = record {
    accounted = accounted';
    cleared = each_set _ views id w mine (λ j u o. zeros (view_clears u) (s.cleared j u o));
    shared_out = let t = total_set views id v w at in let p = c.shares in let q = s.shared_out in omega arith;
    idle = each_set _ views id w (λ z. let p = c.shares in let q = c.some_share in absurd (omega arith)) s.idle;
    kept = kept';
    found = λ j u o i b h l t. accounted' i b h l (kept' j u o i b h l t);
    seen = each_set _ views id w
        (subst (λ r. AreZero ws (rows_clear r)) (sym c.seen) (zeros (rows_clear v.seen) (s.seen id v at)))
        (λ j u o. zeros (rows_clear u.seen) (s.seen j u o));
    progress = each_set _ views id w c.progress s.progress;
    named = subst (λ (n : ℕ). Each (IsBelow n) vs) (sym width) (each_set (IsBelow (length words)) views id w (c.named (s.named id v at)) s.named);
  }

-- ---- the next entry of a row, as a view has it
-- the row may begin, or goes on
abbrev pub GoesOn : View → List Entry → Type 0
GoesOn v row = (v.cleared < length row) × (take v.cleared v.row ≡ take v.cleared row)

pub rows_below-push : (n : ℕ) (rows : List (List Entry)) (row : List Entry) → rows_below n rows ≡ true → below n row ≡ true → rows_below n (rows ++ row ∷ []) ≡ true
rows_below-push n rows row t h = list_all-append (below n) rows (row ∷ []) ∙ and_from _ _ t (and_from _ _ h refl)

module _ (width : ℕ) (v : View) (row : List Entry) (e : Entry) (on : GoesOn v row) (is : get_or row v.cleared e ≡ e) (some_share : 0 < v.shares) (named : below width row ≡ true) where
  abbrev k : ℕ
  k = v.cleared

  taken : take (k + 1) row ≡ take k v.row ++ e ∷ []
  taken = take_more row k e on.0 ∙ ap (λ (x : Entry). take k row ++ x ∷ []) is ∙ ap (λ (l : List Entry). l ++ e ∷ []) (sym on.1)

  row_more : (i b : ℕ) → clears (take (k + 1) row) i b ≡ (clears (take k v.row) i b || entry_clears e i b)
  row_more i b = ap (λ (l : List Entry). clears l i b) taken ∙ clears_append (take k v.row) (e ∷ []) i b ∙ ap (λ (y : Bool). clears (take k v.row) i b || y) (or_false (entry_clears e i b))

  ends : k + 1 ≡ length row → Clears width v e (finished_view v row)
  ends last = record {
    more = λ i b. let whole : clears row i b ≡ (clears (take k v.row) i b || entry_clears e i b) = ap (λ (l : List Entry). clears l i b) (sym (take_all (k + 1) row (omega arith))) ∙ row_more i b in
        or_false _ ∙ rows_clear_append v.done (row ∷ []) i b ∙ ap (λ (y : Bool). rows_clear v.done i b || y) (or_false (clears row i b) ∙ whole) ∙ sym (or_assoc (rows_clear v.done i b) (clears (take k v.row) i b) (entry_clears e i b));
    shares = refl;
    some_share = some_share;
    seen = refl;
    readings = refl;
    progress = inl refl;
    named = λ n. record { done = rows_below-push width v.done row n.done named; row = refl; seen = n.seen; readings = n.readings };
  }

  goes : k + 1 ≢ length row → Clears width v e (midway_view v row (k + 1))
  goes more = record {
    more = λ i b. ap (λ (y : Bool). rows_clear v.done i b || y) (row_more i b) ∙ sym (or_assoc (rows_clear v.done i b) (clears (take k v.row) i b) (entry_clears e i b));
    shares = refl;
    some_share = some_share;
    seen = refl;
    readings = refl;
    progress = inr (omega arith, let l = on.0 in omega arith);
    named = λ n. record { done = n.done; row = named; seen = n.seen; readings = n.readings };
  }

  pub next_clears : Clears width v e (next_view v row)
  next_clears = ⊎_elim
      (λ (t : (k + 1 == length row) ≡ true). subst (Clears width v e) (sym (cond-true _ (finished_view v row) (midway_view v row (k + 1)) t)) (ends (eqb-true _ _ t)))
      (λ (f : (k + 1 == length row) ≡ false). subst (Clears width v e) (sym (cond-false _ (finished_view v row) (midway_view v row (k + 1)) f)) (goes (eqb-false _ _ f)))
      (cases_Bool (k + 1 == length row))
