-- The map of the live rows, and what each change of the block makes of it.
use Rattle.std.proofs.Common.{◌≡◌, ◌≢◌, ℕ, zero, suc, ◌<◌, ◌≤◌, inl, inr, Bool, true, false, ◌||◌, List, ◌∷◌, Some, None, IsSome, refl, sym, ap, ◌∙◌, arith, eqb, cond}
use Rattle.std.specs.Ordering.{nat_cmp}
use Rattle.std.specs.Cmp.{nat_cmp_total}
use Rattle.std.specs.FinMap.{get, insert, remove, get-empty, same_map, nat_cmp-IsAntisymmetric}
use Rattle.std.proofs.lemmas.Bool.{cases_eq, cases_lt, cases_Bool, or_parts, true≢false, eqb-false, ne_eqb}
use Rattle.row_pool.specs.Pools.{LiveRows}
use Rattle.row_pool.specs.inner.Layout.{row_in, has, distinct_below, live_rows, Changes}
use Rattle.row_pool.proofs.MapLemmas.{get-insert_same, get-insert_other, get-remove_same, get-remove_other, not_there}
use Rattle.row_pool.proofs.RowLemmas.{row_in-other, has_head, has_tail, not_has_other, FirstIs}

-- the map m has the rows below n but for fs
pub record Shows (ws : List ℕ) (w : ℕ) (fs : List ℕ) (n : ℕ) (m : LiveRows) : Type 0 where
  pub live : (q : ℕ) → q < n → has q fs ≡ false → get m q ≡ Some (row_in ws w q)
  pub free : (q : ℕ) → has q fs ≡ true → get m q ≡ None
  pub past : (q : ℕ) → n ≤ q → get m q ≡ None

below_last : (q n : ℕ) → q < suc n → q ≢ n → q < n
below_last q n l other = elim (cases_lt q n) [ inl h ↦ h | inr h ↦ absurd (other (omega arith)) ]

shows_next : (ws : List ℕ) (w : ℕ) (fs : List ℕ) (n : ℕ) (m : LiveRows) → Shows ws w fs n m → (b : Bool) → has n fs ≡ b → Shows ws w fs (suc n) (cond b m (insert m n (row_in ws w n)))
shows_next ws w fs n m s true e =
    record {
      live = λ q l f. s.live q (below_last q n l (λ same. true≢false (sym e ∙ ap (λ x. has x fs) (sym same) ∙ f))) f;
      free = s.free;
      past = λ q l. s.past q (omega arith);
    }
shows_next ws w fs n m s false e =
    let xs = row_in ws w n in
    record {
      live = λ q l f. elim (cases_eq q n) [
        | inl same ↦ ap (get (insert m n xs)) same ∙ get-insert_same m n xs ∙ ap (λ x. Some (row_in ws w x)) (sym same)
        | inr other ↦ get-insert_other m n xs q other ∙ s.live q (below_last q n l other) f
      ];
      free = λ q h. get-insert_other m n xs q (λ same. true≢false (sym h ∙ ap (λ x. has x fs) same ∙ e)) ∙ s.free q h;
      past = λ q l. get-insert_other m n xs q (λ same. absurd (omega arith)) ∙ s.past q (omega arith);
    }

pub shows : (ws : List ℕ) (w : ℕ) (fs : List ℕ) (n : ℕ) → Shows ws w fs n (live_rows ws w fs n)
unfolding live_rows
shows ws w fs zero = record { live = λ q l f. absurd (omega arith); free = λ q h. get-empty nat_cmp q; past = λ q l. get-empty nat_cmp q }
shows ws w fs (suc n) = shows_next ws w fs n (live_rows ws w fs n) (shows ws w fs n) (has n fs) refl

-- there is one such map
pub shown : (ws : List ℕ) (w : ℕ) (fs : List ℕ) (n : ℕ) (m : LiveRows) → Shows ws w fs n m → live_rows ws w fs n ≡ m
shown ws w fs n m s =
    let t = shows ws w fs n in
    same_map nat_cmp_total nat_cmp-IsAntisymmetric _ m (λ q. elim (cases_lt q n) [
      | inr l ↦ t.past q l ∙ sym (s.past q l)
      | inl l ↦ elim (cases_Bool (has q fs)) [ inl h ↦ t.free q h ∙ sym (s.free q h) | inr h ↦ t.live q l h ∙ sym (s.live q l h) ]
    ])

-- a number that the map has is below n and not free
pub record IsUsed (fs : List ℕ) (n q : ℕ) : Type 0 where
  pub below : q < n
  pub used : has q fs ≡ false

pub is_used : (ws : List ℕ) (w : ℕ) (fs : List ℕ) (n q : ℕ) → IsSome (get (live_rows ws w fs n) q) → IsUsed fs n q
is_used ws w fs n q there =
    let t = shows ws w fs n in
    record {
      below = elim (cases_lt q n) [ inl l ↦ l | inr l ↦ absurd (not_there (t.past q l) there) ];
      used = elim (cases_Bool (has q fs)) [ inl h ↦ absurd (not_there (t.free q h) there) | inr h ↦ h ];
    }

-- the row i is written
pub live-written : (ws vs : List ℕ) (w : ℕ) (fs : List ℕ) (n i : ℕ) (xs : List ℕ) → IsUsed fs n i → Changes w i ws vs → row_in vs w i ≡ xs → live_rows vs w fs n ≡ insert (live_rows ws w fs n) i xs
live-written ws vs w fs n i xs u c is =
    let m = live_rows ws w fs n in let t = shows ws w fs n in
    shown vs w fs n _ (record {
      live = λ q l f. elim (cases_eq q i) [
        | inl same ↦ ap (get (insert m i xs)) same ∙ get-insert_same m i xs ∙ ap Some (sym is ∙ ap (row_in vs w) (sym same))
        | inr other ↦ get-insert_other m i xs q other ∙ t.live q l f ∙ ap Some (sym (row_in-other w i q ws vs other c))
      ];
      free = λ q h. get-insert_other m i xs q (not_has_other i q fs u.used h) ∙ t.free q h;
      past = λ q l. get-insert_other m i xs q (λ same. absurd (omega (arith, u.below))) ∙ t.past q l;
    })

-- the first free row is taken and written
pub live-taken : (ws vs : List ℕ) (w : ℕ) (fs : List ℕ) (n i : ℕ) (xs : List ℕ) → FirstIs n i fs → Changes w i ws vs → row_in vs w i ≡ xs → live_rows vs w fs n ≡ insert (live_rows ws w (i ∷ fs) n) i xs
live-taken ws vs w fs n i xs p c is =
    let m = live_rows ws w (i ∷ fs) n in let t = shows ws w (i ∷ fs) n in
    shown vs w fs n _ (record {
      live = λ q l f. elim (cases_eq q i) [
        | inl same ↦ ap (get (insert m i xs)) same ∙ get-insert_same m i xs ∙ ap Some (sym is ∙ ap (row_in vs w) (sym same))
        | inr other ↦ get-insert_other m i xs q other ∙ t.live q l (ap (λ b. b || has q fs) (ne_eqb q i other) ∙ f) ∙ ap Some (sym (row_in-other w i q ws vs other c))
      ];
      free = λ q h. get-insert_other m i xs q (not_has_other i q fs p.once h) ∙ t.free q (has_tail q i fs h);
      past = λ q l. get-insert_other m i xs q (λ same. absurd (omega (arith, p.below))) ∙ t.past q l;
    })

pub live-first : (ws : List ℕ) (w : ℕ) (fs : List ℕ) (n i : ℕ) → get (live_rows ws w (i ∷ fs) n) i ≡ None
live-first ws w fs n i = (shows ws w (i ∷ fs) n).free i (has_head i fs)

-- the row i becomes the first free one
pub live-given : (ws vs : List ℕ) (w : ℕ) (fs : List ℕ) (n i : ℕ) → IsUsed fs n i → Changes w i ws vs → live_rows vs w (i ∷ fs) n ≡ remove (live_rows ws w fs n) i
live-given ws vs w fs n i u c =
    let m = live_rows ws w fs n in let t = shows ws w fs n in
    shown vs w (i ∷ fs) n _ (record {
      live = λ q l f.
          let parts = or_parts (eqb q i) (has q fs) f in
          let other : q ≢ i = eqb-false q i parts.0 in
          get-remove_other m i q other ∙ t.live q l parts.1 ∙ ap Some (sym (row_in-other w i q ws vs other c));
      free = λ q h. elim (cases_eq q i) [
        | inl same ↦ ap (get (remove m i)) same ∙ get-remove_same m i
        | inr other ↦ get-remove_other m i q other ∙ t.free q (sym (ap (λ b. b || has q fs) (ne_eqb q i other)) ∙ h)
      ];
      past = λ q l. get-remove_other m i q (λ same. absurd (omega (arith, u.below))) ∙ t.past q l;
    })

-- one more row, which is free
pub live-added : (ws vs : List ℕ) (w : ℕ) (fs : List ℕ) (n : ℕ) → distinct_below n fs ≡ true → Changes w n ws vs → live_rows vs w (n ∷ fs) (suc n) ≡ live_rows ws w fs n
live-added ws vs w fs n d c =
    let t = shows ws w fs n in
    shown vs w (n ∷ fs) (suc n) _ (record {
      live = λ q l f.
          let parts = or_parts (eqb q n) (has q fs) f in
          let other : q ≢ n = eqb-false q n parts.0 in
          t.live q (below_last q n l other) parts.1 ∙ ap Some (sym (row_in-other w n q ws vs other c));
      free = λ q h. elim (cases_eq q n) [
        | inl same ↦ t.past q (omega arith)
        | inr other ↦ t.free q (sym (ap (λ b. b || has q fs) (ne_eqb q n other)) ∙ h)
      ];
      past = λ q l. t.past q (omega arith);
    })

-- the rows below n are the same
pub live-same : (ws vs : List ℕ) (w : ℕ) (fs : List ℕ) (n : ℕ) → ((q : ℕ) → q < n → row_in vs w q ≡ row_in ws w q) → live_rows vs w fs n ≡ live_rows ws w fs n
live-same ws vs w fs n same =
    let t = shows ws w fs n in
    shown vs w fs n _ (record { live = λ q l f. t.live q l f ∙ ap Some (sym (same q l)); free = t.free; past = t.past })
