-- Lists of views: what a change of one view, or a new one, does to them.
use Rattle.std.proofs.Common.{◌≡◌, ◌≢◌, ℕ, zero, suc, ◌+◌, ◌<◌, ◌≤◌, Bool, true, false, ◌||◌, ◌&&◌, ◌==◌, List, [], ◌∷◌, ◌++◌, length, get_or, set, sym, refl, ap, ◌∙◌, subst, ⊎_elim, ◌⊎◌, inl, inr, arith}
use Rattle.std.proofs.lemmas.Bool.{false≢true, eqb-true, and_parts, or_cases, or_left, or_right}
use Rattle.std.proofs.lemmas.List.Folds.{list_any-append}
use Rattle.std.proofs.lemmas.List.Sums.{sum_by-cons, sum_by_push}
use Rattle.std.specs.Int.{bit_at}
use mathlib.Core.Option.{some, some-injective, some-ne-none}
use lib.ListN.{get_elem?}
use Rattle.word_rows.specs.declared.entries.Entry.{Entry}
use Rattle.word_rows.specs.declared.views.Reading.{Reading}
use Rattle.word_rows.specs.declared.views.View.{View}
use Rattle.word_rows.specs.Rows.{entry_clears, clears}
use Rattle.word_rows.specs.Accounts.{Each, view_clears, views_clear, total_shares}
use Rattle.word_rows.specs.Changes.{is_idle}
use Rattle.word_rows.specs.Meeting.{ClearsAppend, RowsClearAppend, LacksAppend}

module _ {A : Type 0} where
  pub at_set : (l : List A) (i j : ℕ) (a b : A) → get_elem? (set l i a) j ≡ some b → ((j ≡ i) × (a ≡ b)) ⊎ ((j ≢ i) × (get_elem? l j ≡ some b))
  at_set [] i j a b e = absurd (some-ne-none b (sym e))
  at_set (x ∷ xs) zero zero a b e = inl (refl, some-injective a b e)
  at_set (x ∷ xs) zero (suc j) a b e = inr ((λ h. omega arith), e)
  at_set (x ∷ xs) (suc i) zero a b e = inr ((λ h. omega arith), e)
  at_set (x ∷ xs) (suc i) (suc j) a b e = ⊎_elim (λ t. inl (ap suc t.0, t.1)) (λ t. let n = t.0 in inr ((λ h. n (omega arith)), t.1)) (at_set xs i j a b e)

  pub at_snoc : (l : List A) (a b : A) (j : ℕ) → get_elem? (l ++ a ∷ []) j ≡ some b → (get_elem? l j ≡ some b) ⊎ (a ≡ b)
  at_snoc [] a b zero e = inr (some-injective a b e)
  at_snoc [] a b (suc j) e = absurd (some-ne-none b (sym e))
  at_snoc (x ∷ xs) a b zero e = inl e
  at_snoc (x ∷ xs) a b (suc j) e = at_snoc xs a b j e

  pub at_longer : (l m : List A) (i : ℕ) (a : A) → get_elem? l i ≡ some a → get_elem? (l ++ m) i ≡ some a
  at_longer [] m i a e = absurd (some-ne-none a (sym e))
  at_longer (x ∷ xs) m zero a e = e
  at_longer (x ∷ xs) m (suc i) a e = at_longer xs m i a e

  pub put_here : (l : List A) (i : ℕ) (a b : A) → get_elem? l i ≡ some a → get_elem? (set l i b) i ≡ some b
  put_here [] i a b e = absurd (some-ne-none a (sym e))
  put_here (x ∷ xs) zero a b e = refl
  put_here (x ∷ xs) (suc i) a b e = put_here xs i a b e

  pub set_else : (l : List A) (i j : ℕ) (a : A) → j ≢ i → get_elem? (set l i a) j ≡ get_elem? l j
  set_else [] i j a n = refl
  set_else (x ∷ xs) zero zero a n = absurd (n refl)
  set_else (x ∷ xs) zero (suc j) a n = refl
  set_else (x ∷ xs) (suc i) zero a n = refl
  set_else (x ∷ xs) (suc i) (suc j) a n = set_else xs i j a (λ e. n (ap suc e))

  pub at_index : (l : List A) (i : ℕ) (d : A) → i < length l → get_elem? l i ≡ some (get_or l i d)
  at_index [] i d h = absurd (omega arith)
  at_index (x ∷ xs) zero d h = refl
  at_index (x ∷ xs) (suc i) d h = at_index xs i d (omega arith)

-- ---- a view with no row in progress
pub no_entry : (row : List Entry) → (length row == 0) ≡ true → row ≡ []
no_entry [] t = refl
no_entry (e ∷ es) t = let z = eqb-true (length (e ∷ es)) 0 t in absurd (omega arith)

pub idle_row : (v : View) → is_idle v ≡ true → v.row ≡ []
idle_row v t = no_entry v.row (and_parts (length v.row == 0) (v.cleared == 0) t).0

pub idle_cleared : (v : View) → is_idle v ≡ true → v.cleared ≡ 0
idle_cleared v t = eqb-true v.cleared 0 (and_parts (length v.row == 0) (v.cleared == 0) t).1

-- ---- a fact of each view
pub each_one : (F : View → Type 0) (u : View) → F u → Each F (u ∷ [])
each_one F u h zero v e = subst F (some-injective u v e) h
each_one F u h (suc j) v e = absurd (some-ne-none v (sym e))

pub each_set : (F : View → Type 0) (views : List View) (id : ℕ) (w : View) → F w → Each F views → Each F (set views id w)
each_set F views id w mine others j u e = ⊎_elim (λ (t : (j ≡ id) × (w ≡ u)). subst F t.1 mine) (λ (t : (j ≢ id) × (get_elem? views j ≡ some u)). others j u t.1) (at_set views id j w u e)

pub each_snoc : (F : View → Type 0) (views : List View) (w : View) → Each F views → F w → Each F (views ++ w ∷ [])
each_snoc F views w others mine j u e = ⊎_elim (λ (t : get_elem? views j ≡ some u). others j u t) (λ (t : w ≡ u). subst F t mine) (at_snoc views w u j e)

pub each_map : (F G : View → Type 0) (views : List View) → ((v : View) → F v → G v) → Each F views → Each G views
each_map F G views f every j u e = f u (every j u e)

-- ---- shares
abbrev shares_of : View → ℕ
shares_of v = v.shares

pub total_set : (views : List View) (id : ℕ) (v w : View) → get_elem? views id ≡ some v → total_shares (set views id w) + v.shares ≡ total_shares views + w.shares
total_set [] id v w e = absurd (some-ne-none v (sym e))
total_set (x ∷ xs) zero v w e = let s : x.shares ≡ v.shares = ap shares_of (some-injective x v e) in omega (arith, sum_by-cons shares_of w xs, sum_by-cons shares_of x xs)
total_set (x ∷ xs) (suc id) v w e = let s = total_set xs id v w e in omega (arith, sum_by-cons shares_of x (set xs id w), sum_by-cons shares_of x xs)

pub total_snoc : (views : List View) (w : View) → total_shares (views ++ w ∷ []) ≡ total_shares views + w.shares
total_snoc views w = sum_by_push shares_of views w

-- no view has more shares than all together
pub share_of : (views : List View) (id : ℕ) (v : View) → get_elem? views id ≡ some v → v.shares ≤ total_shares views
share_of [] id v e = absurd (some-ne-none v (sym e))
share_of (x ∷ xs) zero v e = let s : x.shares ≡ v.shares = ap shares_of (some-injective x v e) in omega (arith, sum_by-cons shares_of x xs)
share_of (x ∷ xs) (suc id) v e = let s = share_of xs id v e in omega (arith, sum_by-cons shares_of x xs)

-- where one view has all shares, another has none
pub no_share : (views : List View) (id other : ℕ) (v w : View) → get_elem? views id ≡ some v → get_elem? views other ≡ some w → other ≢ id → total_shares views ≤ v.shares → w.shares ≡ 0
no_share [] id other v w at at' apart whole = absurd (some-ne-none v (sym at))
no_share (u ∷ us) zero zero v w at at' apart whole = absurd (apart refl)
no_share (u ∷ us) zero (suc j) v w at at' apart whole = let s : u.shares ≡ v.shares = ap shares_of (some-injective u v at) in let l = share_of us j w at' in omega (arith, sum_by-cons shares_of u us)
no_share (u ∷ us) (suc i) zero v w at at' apart whole = let s : u.shares ≡ w.shares = ap shares_of (some-injective u w at') in let l = share_of us i v at in omega (arith, sum_by-cons shares_of u us)
no_share (u ∷ us) (suc i) (suc j) v w at at' apart whole = no_share us i j v w at at' (λ e. apart (ap suc e)) (let c = sum_by-cons shares_of u us in omega arith)

-- ---- what is cleared
pub or_assoc : (a b c : Bool) → ((a || b) || c) ≡ (a || (b || c))
or_assoc true b c = refl
or_assoc false b c = refl

pub or_false : (a : Bool) → (a || false) ≡ a
or_false true = refl
or_false false = refl

pub clears_append : ClearsAppend
clears_append xs ys i b = list_any-append (λ (e : Entry). entry_clears e i b) xs ys

pub rows_clear_append : RowsClearAppend
rows_clear_append xs ys i b = list_any-append (λ (row : List Entry). clears row i b) xs ys

pub lacks_append : LacksAppend
lacks_append xs ys i b = list_any-append (λ (r : Reading). (r.word == i) && (bit_at r.value b == 0)) xs ys

-- a bit that one view clears is cleared
pub one_clears : (views : List View) (id : ℕ) (v : View) (i b : ℕ) → get_elem? views id ≡ some v → view_clears v i b ≡ true → views_clear views i b ≡ true
one_clears [] id v i b at t = absurd (some-ne-none v (sym at))
one_clears (u ∷ us) zero v i b at t = or_left _ _ (ap (λ (y : View). view_clears y i b) (some-injective u v at) ∙ t)
one_clears (u ∷ us) (suc id) v i b at t = or_right _ _ (one_clears us id v i b at t)

-- a cleared bit is cleared by some view
pub some_clears : (views : List View) (i b : ℕ) → views_clear views i b ≡ true → (id : ℕ) × (v : View) × (get_elem? views id ≡ some v) × (view_clears v i b ≡ true)
some_clears [] i b t = absurd (false≢true t)
some_clears (u ∷ us) i b t = ⊎_elim
    (λ (h : view_clears u i b ≡ true). let r : (id : ℕ) × (v : View) × (get_elem? (u ∷ us) id ≡ some v) × (view_clears v i b ≡ true) = (zero, u, refl, h) in r)
    (λ (h : views_clear us i b ≡ true). let f = some_clears us i b h in (suc f.0, f.1, f.2, f.3))
    (or_cases (view_clears u i b) (views_clear us i b) t)

-- where a view of the new list clears all that a view of the old one clears, nothing is lost
pub no_less : (old new : List View) (i b : ℕ) → ((id : ℕ) (v : View) → get_elem? old id ≡ some v → view_clears v i b ≡ true → views_clear new i b ≡ true) → views_clear old i b ≡ true → views_clear new i b ≡ true
no_less old new i b f t = let s = some_clears old i b t in f s.0 s.1 s.2 s.3

-- a view that is set clears what the one before cleared
pub set_clears : (views : List View) (id : ℕ) (v w : View) (i b : ℕ) → get_elem? views id ≡ some v → (view_clears v i b ≡ true → view_clears w i b ≡ true) → views_clear views i b ≡ true → views_clear (set views id w) i b ≡ true
set_clears [] id v w i b at f t = absurd (some-ne-none v (sym at))
set_clears (u ∷ us) zero v w i b at f t = ⊎_elim
    (λ (h : view_clears u i b ≡ true). or_left _ _ (f (ap (λ (y : View). view_clears y i b) (sym (some-injective u v at)) ∙ h)))
    (λ (h : views_clear us i b ≡ true). or_right _ _ h)
    (or_cases (view_clears u i b) (views_clear us i b) t)
set_clears (u ∷ us) (suc id) v w i b at f t = ⊎_elim
    (λ (h : view_clears u i b ≡ true). or_left _ _ h)
    (λ (h : views_clear us i b ≡ true). or_right _ _ (set_clears us id v w i b at f h))
    (or_cases (view_clears u i b) (views_clear us i b) t)

pub snoc_clears : (views : List View) (w : View) (i b : ℕ) → views_clear views i b ≡ true → views_clear (views ++ w ∷ []) i b ≡ true
snoc_clears views w i b t = list_any-append (λ (v : View). view_clears v i b) views (w ∷ []) ∙ or_left _ _ t
