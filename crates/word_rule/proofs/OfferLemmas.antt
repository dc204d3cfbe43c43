-- A row that is offered, as far as it is cleared.
use Rattle.std.proofs.Common.{◌≡◌, ℕ, ◌+◌, ◌<◌, true, ◌==◌, cond, List, [], ◌∷◌, ◌++◌, length, ⊎_elim, subst, sym, ap, ◌∙◌, arith}
use Rattle.std.proofs.lemmas.Bool.{cases_eq, eq-eqb, ne_eqb, or_left, or_right, cond-true, cond-false}
use Rattle.word_rows.specs.declared.entries.Entry.{Entry}
use Rattle.word_rows.specs.declared.views.View.{View}
use Rattle.word_rows.specs.Changes.{is_idle, finished_view, midway_view, next_view}
use Rattle.word_rows.specs.Machine.{can_clear}
use Rattle.word_rows.specs.Meeting.{RowIsSame}
use Rattle.word_rows.proofs.ViewLemmas.{idle_cleared, idle_row}
use Rattle.word_rule.specs.Histories.{offered_until}

module _ (same_row-refl : RowIsSame) (v : View) (row : List Entry) (rests : is_idle v ≡ true) where
  begins : (k : ℕ) → k ≡ 0 → offered_until v row k ≡ v
  begins k z = cond-true _ v _ (eq-eqb k 0 z)

  midway : (k : ℕ) → (k ≡ 0 → ⊥) → k < length row → offered_until v row k ≡ midway_view v row k
  midway k n h = cond-false _ v _ (ne_eqb k 0 n) ∙ cond-false _ (finished_view v row) _ (ne_eqb k (length row) (λ e. omega arith))

  -- what the step of the next entry asks, and what it leaves
  pub record Next (k : ℕ) : Type 0 where
    pub cleared : k ≡ (offered_until v row k).cleared
    pub can : can_clear (offered_until v row k) row ≡ true
    pub shares : (offered_until v row k).shares ≡ v.shares
    pub more : next_view (offered_until v row k) row ≡ offered_until v row (k + 1)

  -- the state after one entry more, by the number of entries
  abbrev after_one : ℕ → View
  after_one k = cond (k + 1 == length row) (finished_view v row) (midway_view v row (k + 1))

  one_more : (k : ℕ) → after_one k ≡ offered_until v row (k + 1)
  one_more k = sym (cond-false _ v _ (ne_eqb (k + 1) 0 (λ e. omega arith)))

  next_first : (k : ℕ) → k ≡ 0 → Next k
  next_first k z = let here : offered_until v row k ≡ v = begins k z in let same : v.cleared ≡ k = idle_cleared v rests ∙ sym z in record {
    cleared = sym same ∙ ap (λ (u : View). u.cleared) (sym here);
    can = or_left _ _ (ap is_idle here ∙ rests);
    shares = ap (λ (u : View). u.shares) here;
    more = ap (λ (u : View). next_view u row) here ∙ ap (λ (n : ℕ). cond (n + 1 == length row) (finished_view v row) (midway_view v row (n + 1))) same ∙ one_more k;
  }

  next_midway : (k : ℕ) → (k ≡ 0 → ⊥) → k < length row → Next k
  next_midway k n h = let here : offered_until v row k ≡ midway_view v row k = midway k n h in record {
    cleared = ap (λ (u : View). u.cleared) (sym here);
    can = ap (λ (u : View). can_clear u row) here ∙ or_right (is_idle (midway_view v row k)) _ (same_row-refl row);
    shares = ap (λ (u : View). u.shares) here;
    more = ap (λ (u : View). next_view u row) here ∙ one_more k;
  }

  pub next : (k : ℕ) → k < length row → Next k
  next k h = ⊎_elim (λ (z : k ≡ 0). next_first k z) (λ (n : k ≡ 0 → ⊥). next_midway k n h) (cases_eq k 0)

  -- the view after the whole row
  pub ends : (k : ℕ) → 0 < length row → k ≡ length row → ◌≡◌ {A = View} (offered_until v row k) (record v { done = v.done ++ row ∷ [] })
  ends k long e = cond-false _ v _ (ne_eqb k 0 (λ z. omega arith)) ∙ cond-true _ (finished_view v row) _ (eq-eqb k (length row) e)
      ∙ λ j. record { all = v.all; shares = v.shares; done = v.done ++ row ∷ []; row = sym (idle_row v rests) j; cleared = sym (idle_cleared v rests) j; seen = v.seen; readings = v.readings }

-- what was told of the entries before, and of one more
pub one_told : (H : View → Type 0) (v u : View) (row : List Entry) (at : ℕ) → u ≡ offered_until v row at → ((k : ℕ) → k < at → H (offered_until v row k)) → H u → (k : ℕ) → k < at + 1 → H (offered_until v row k)
one_told H v u row at here old new k h = ⊎_elim
    (λ (is : k ≡ at). subst (λ (n : ℕ). H (offered_until v row n)) (sym is) (subst H here new))
    (λ (is : k ≡ at → ⊥). old k (omega arith))
    (cases_eq k at)
