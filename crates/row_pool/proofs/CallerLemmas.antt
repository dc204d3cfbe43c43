-- What a pool has once a row was written, taken or given back.
use Rattle.std.proofs.Common.{◌≡◌, ◌≢◌, ℕ, List, None, is_some, IsSome, refl, ap, sym, ◌∙◌, subst, inl, inr}
use Rattle.std.proofs.lemmas.Bool.{cases_eq, false≢true}
use Rattle.std.specs.FinMap.{get, insert, gets}
use Rattle.row_pool.specs.Pools.{words_or_none}
use Rattle.row_pool.specs.Pools.{Pool, LiveRows, pool, IsLive, row_at, with_row}
use Rattle.row_pool.proofs.MapLemmas.{get-insert_same, get-insert_other}

pub row_at-same : (p : Pool) (i : ℕ) (xs : List ℕ) → row_at (with_row p i xs) i ≡ xs
unfolding row_at
row_at-same p i xs = ap words_or_none (get-insert_same p.rows i xs)

pub row_at-other : (p : Pool) (i : ℕ) (xs : List ℕ) (q : ℕ) → q ≢ i → row_at (with_row p i xs) q ≡ row_at p q
unfolding row_at
row_at-other p i xs q other = ap words_or_none (get-insert_other p.rows i xs q other)

pub live-with : (p : Pool) (i : ℕ) (xs : List ℕ) (q : ℕ) → IsLive p q → IsLive (with_row p i xs) q
live-with p i xs q live =
    elim (cases_eq q i) [
      | inl same ↦ subst (λ o. IsSome o) (sym (ap (get (insert p.rows i xs)) same ∙ get-insert_same p.rows i xs)) refl
      | inr other ↦ subst (λ o. IsSome o) (sym (get-insert_other p.rows i xs q other)) live
    ]

pub live-insert : (m : LiveRows) (i : ℕ) (xs : List ℕ) (q : ℕ) → IsSome (get m q) → IsSome (get (insert m i xs) q)
live-insert m i xs q live = live-with (pool 0 m 0) i xs q live

pub live-insert_same : (m : LiveRows) (i : ℕ) (xs : List ℕ) → IsSome (get (insert m i xs) i)
live-insert_same m i xs = subst (λ o. IsSome o) (sym (get-insert_same m i xs)) refl

-- an id that was not live differs from one that was
pub apart-new : (m : LiveRows) (i q : ℕ) → get m i ≡ None → IsSome (get m q) → q ≢ i
apart-new m i q none live same = absurd (false≢true (ap is_some (sym none ∙ ap (get m) (sym same)) ∙ live))

-- for `#[tactic(auto, using(..))]` at callers
pub ruleset pool_facts = (gets, row_at-same, row_at-other, live-insert, live-insert_same, apart-new)
