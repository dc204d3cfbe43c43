-- Shares by halving of two lists whose items stand in a relation place by place.
use Rattle.std.proofs.Common.{◌≡◌, ℕ, zero, suc, ◌+◌, ◌-◌, ◌/◌, ◌<◌, ◌≤◌, inl, inr, Bool, true, false, List, [], ◌∷◌, ◌++◌, length, take, drop, map, refl, ap, ◌∙◌}
use Rattle.std.proofs.lemmas.Bool.{cases_lt, le-ltb}
use Rattle.std.specs.List.{AllZip}
use Rattle.trace_rules.specs.Halving.{first_part, halving, share_of, shares_of}
use Rattle.trace_rules.specs.WatchMarks.{watch_counts, watch_marks}
use Rattle.trace_types.specs.declared.named_trace.NamedTrace.{NamedTrace}
use Rattle.session_rules.specs.KeptTraces.{Kept}
use Rattle.trace_types.proofs.ZipLemmas.{zip_length}
use Rattle.trace_rules.proofs.HalvingLemmas.{no_rounds, halving_more}
use Rattle.book_laws.proofs.ListLemmas.{zip_append, zip_drop, zip_or, zip_take}

halving_one : {T : Type 0} (rounds workers : ℕ) (xs : List T) → workers ≤ 1 → halving (suc rounds) workers xs ≡ xs ∷ []
unfolding halving
halving_one {T} rounds workers xs h = ap (λ (b : Bool). elim b as (λ _. List (List T)) [
  | true ↦ halving rounds (workers / 2) (take (first_part (length xs) workers) xs) ++ halving rounds (workers - workers / 2) (drop (first_part (length xs) workers) xs)
  | false ↦ xs ∷ []
]) (le-ltb 1 workers h)

-- the two halves of so many items
halving_at : {T : Type 0} (rounds workers n : ℕ) (xs : List T) → 1 < workers → length xs ≡ n
    → halving (suc rounds) workers xs ≡ halving rounds (workers / 2) (take (first_part n workers) xs) ++ halving rounds (workers - workers / 2) (drop (first_part n workers) xs)
halving_at rounds workers n xs h e = halving_more rounds workers xs h ∙ ap (λ m. halving rounds (workers / 2) (take (first_part m workers) xs) ++ halving rounds (workers - workers / 2) (drop (first_part m workers) xs)) e

module _ {X Y : Type 0} (R : X → Y → Type 0) where
  zip_halving : (rounds workers : ℕ) (xs : List X) (ys : List Y) → AllZip R xs ys → AllZip (AllZip R) (halving rounds workers xs) (halving rounds workers ys)
  zip_halving zero workers xs ys z = rw (no_rounds workers xs, no_rounds workers ys) (z, tt)
  zip_halving (suc rounds) workers xs ys z =
      let p = first_part (length ys) workers in
      let firsts = zip_halving rounds (workers / 2) (take p xs) (take p ys) (zip_take R p xs ys z) in
      let others = zip_halving rounds (workers - workers / 2) (drop p xs) (drop p ys) (zip_drop R p xs ys z) in
      elim (cases_lt 1 workers) [
        | inl more ↦ rw (halving_at rounds workers (length ys) xs more (zip_length R xs ys z), halving_more rounds workers ys more)
            (zip_append (AllZip R) (halving rounds (workers / 2) (take p xs)) (halving rounds (workers / 2) (take p ys))
            (halving rounds (workers - workers / 2) (drop p xs)) (halving rounds (workers - workers / 2) (drop p ys)) firsts others)
        | inr one ↦ rw (halving_one rounds workers xs one, halving_one rounds workers ys one) (z, tt)
      ]

  pub zip_shares : (workers : ℕ) (xs : List X) (ys : List Y) → AllZip R xs ys → AllZip (AllZip R) (shares_of xs workers) (shares_of ys workers)
  zip_shares workers xs ys z = zip_halving workers workers xs ys z

  -- the first traces of a worker stand in the relation
  pub zip_firsts : (workers worker done : ℕ) (xs : List X) (ys : List Y) → AllZip R xs ys → AllZip R (take done (share_of xs workers worker)) (take done (share_of ys workers worker))
  zip_firsts workers worker done xs ys z =
      zip_take R done (share_of xs workers worker) (share_of ys workers worker) (zip_or (AllZip R) (shares_of xs workers) (shares_of ys workers) (zip_shares workers xs ys z) worker [] [] tt)

-- shares of the same lengths have the same lines
pub same_marks : (R : NamedTrace → Kept → Type 0) (every worker : ℕ) (shares : List (List NamedTrace)) (others : List (List Kept)) → AllZip (AllZip R) shares others
    → watch_marks every worker shares ≡ watch_marks every worker others
same_marks R every worker [] [] z = refl
same_marks R every worker [] (ys ∷ others) z = absurd z
same_marks R every worker (xs ∷ shares) [] z = absurd z
same_marks R every worker (xs ∷ shares) (ys ∷ others) z =
    ap (λ n. map (λ (m : ℕ). (worker, m)) (watch_counts every n) ++ watch_marks every (worker + 1) shares) (zip_length R xs ys z.0)
    ∙ ap (λ l. map (λ (m : ℕ). (worker, m)) (watch_counts every (length ys)) ++ l) (same_marks R every (worker + 1) shares others z.1)
