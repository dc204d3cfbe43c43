-- Totals over callers, and facts of each caller.
use Rattle.std.proofs.Common.{◌≡◌, ◌≢◌, ℕ, zero, suc, ◌+◌, ◌<◌, ◌≤◌, Bool, true, List, [], ◌∷◌, ◌++◌, length, get_or, set, sym, refl, ap, ◌∙◌, subst, ⊎_elim, arith}
use Rattle.std.specs.Prelude.{cond}
use Rattle.std.proofs.lemmas.Bool.{cases_eq}
use Rattle.std.proofs.lemmas.List.Sums.{sum_by-cons, sum_by-set, sum_by_push, get_or-le-sum_by}
use Rattle.atomic_table.proofs.Lists.{at_set, at_snoc, set_else, set_here}
use mathlib.Core.Option.{some, some-injective, some-ne-none}
use lib.ListN.{get_elem?}
use Rattle.live_journal.specs.declared.entry.Entry.{Entry}
use Rattle.live_book.specs.declared.rule.Knowledge.{Knowledge}
use Rattle.live_book.specs.Rule.{EachCaller, IsFront, callers_with, total}
use Rattle.live_book.specs.Views.{empty_caller_view, holds}

pub at_or : (l : List Knowledge) (i : ℕ) (a d : Knowledge) → get_elem? l i ≡ some a → get_or l i d ≡ a
at_or [] i a d e = absurd (some-ne-none a (sym e))
at_or (x ∷ xs) zero a d e = some-injective x a e
at_or (x ∷ xs) (suc i) a d e = at_or xs i a d e

pub at_inside : (l : List Knowledge) (i : ℕ) (a : Knowledge) → get_elem? l i ≡ some a → i < length l
at_inside [] i a e = absurd (some-ne-none a (sym e))
at_inside (x ∷ xs) zero a e = omega arith
at_inside (x ∷ xs) (suc i) a e = let h = at_inside xs i a e in omega arith

-- two views at one index are one
pub at_one : (l : List Knowledge) (i j : ℕ) (a b : Knowledge) → get_elem? l i ≡ some a → get_elem? l j ≡ some b → j ≡ i → b ≡ a
at_one l i j a b e f same = sym (some-injective a b (sym e ∙ ap (λ (n : ℕ). get_elem? l n) (sym same) ∙ f))

module _ (f : Knowledge → ℕ) (ks : List Knowledge) where
  pub total_set : (id : ℕ) (k l : Knowledge) → get_elem? ks id ≡ some k → total f (set ks id l) + f k ≡ total f ks + f l
  total_set id k l at = subst (λ (x : Knowledge). total f (set ks id l) + f x ≡ total f ks + f l) (at_or ks id k k at) (sum_by-set f ks id l k (at_inside ks id k at))

  pub total_same : (id : ℕ) (k l : Knowledge) → get_elem? ks id ≡ some k → f l ≡ f k → total f (set ks id l) ≡ total f ks
  total_same id k l at same = let t = total_set id k l at in omega arith

  pub total_snoc : (l : Knowledge) → total f (ks ++ l ∷ []) ≡ total f ks + f l
  total_snoc l = sum_by_push f ks l

  pub total_at : (id : ℕ) (k : Knowledge) → get_elem? ks id ≡ some k → f k ≤ total f ks
  total_at id k at = subst (λ (x : Knowledge). f x ≤ total f ks) (at_or ks id k k at) (get_or-le-sum_by f ks id k (at_inside ks id k at))

pub total_none : (f : Knowledge → ℕ) (ks : List Knowledge) → EachCaller (λ k. f k ≡ 0) ks → total f ks ≡ 0
total_none f [] h = refl
total_none f (k ∷ ks) h = let a = h 0 k refl in let b = total_none f ks (λ i l e. h (suc i) l e) in omega (arith, sum_by-cons f k ks)

-- who holds a ticket holds it alone
pub alone : (n : ℕ) (ks : List Knowledge) → callers_with (λ k. holds n k.stage) ks ≤ 1 → (i j : ℕ) (k l : Knowledge) → get_elem? ks i ≡ some k → get_elem? ks j ≡ some l → j ≢ i
    → holds n k.stage ≡ true → holds n l.stage ≡ true → ⊥
alone n ks one i j k l at there apart held also =
    let f : Knowledge → ℕ = λ x. cond (holds n x.stage) 1 0 in
    let mine : f k ≡ 1 = ap (λ (b : Bool). cond b 1 0) held in
    let other : f l ≡ 1 = ap (λ (b : Bool). cond b 1 0) also in
    let less : total f (set ks i empty_caller_view) + f k ≡ total f ks + 0 = total_set f ks i k empty_caller_view at in
    let most : f l ≤ total f (set ks i empty_caller_view) = total_at f (set ks i empty_caller_view) j l (set_else ks i j empty_caller_view apart ∙ there) in
    let only : total f ks ≤ 1 = one in
    omega arith

-- ---- a fact of each caller
module _ (F : Knowledge → Type 0) (ks : List Knowledge) where
  pub each_set : (id : ℕ) (l : Knowledge) → F l → ((j : ℕ) (u : Knowledge) → get_elem? ks j ≡ some u → j ≢ id → F u) → EachCaller F (set ks id l)
  each_set id l mine others j u e = ⊎_elim (λ (t : (j ≡ id) × (l ≡ u)). subst F t.1 mine) (λ (t : (j ≢ id) × (get_elem? ks j ≡ some u)). others j u t.1 t.0) (at_set ks id j l u e)

  pub each_snoc : (l : Knowledge) → EachCaller F ks → F l → EachCaller F (ks ++ l ∷ [])
  each_snoc l others mine j u e = ⊎_elim (λ (t : get_elem? ks j ≡ some u). others j u t) (λ (t : l ≡ u). subst F t mine) (at_snoc ks l u j e)

  -- and back
  pub each_back : (id : ℕ) (k l : Knowledge) → get_elem? ks id ≡ some k → F k → EachCaller F (set ks id l) → EachCaller F ks
  each_back id k l at mine others j u e = ⊎_elim
      (λ (t : j ≡ id). subst F (sym (at_one ks id j k u at e t)) mine)
      (λ (t : j ≢ id). others j u (set_else ks id j l t ∙ e)) (cases_eq j id)

-- ---- some caller has the longest front
module _ (ks : List Knowledge) (longest : List Entry) where
  pub front_set : (id : ℕ) (k l : Knowledge) → get_elem? ks id ≡ some k → (k.front ≡ longest → l.front ≡ longest) → IsFront ks longest → IsFront (set ks id l) longest
  front_set id k l at same f = ⊎_elim
      (λ (t : f.id ≡ id). record {
        id = id;
        caller = l;
        has = set_here ks id l (at_inside ks id k at);
        front = same (ap (λ (x : Knowledge). x.front) (sym (at_one ks id f.id k f.caller at f.has t)) ∙ f.front);
      })
      (λ (t : f.id ≢ id). record { id = f.id; caller = f.caller; has = set_else ks id f.id l t ∙ f.has; front = f.front })
      (cases_eq f.id id)
