-- Groups and marks of contexts are as many as the contexts.
use Rattle.std.proofs.Common.{◌≡◌, ◌∙◌, ℕ, ◌<◌, List, [], ◌∷◌, All, Bool, true, false, cond, eqb, length, get_or, max, min, refl, sym, subst, arith}
use Rattle.std.specs.List.{fold, range_with_len}
use Rattle.std.proofs.lemmas.Bool.{eqb-true}
use Rattle.std.proofs.lemmas.List.{get_or-map, length-map}
use Rattle.std.proofs.lemmas.List.FromFn.{length-range_with_len}
use Rattle.call_trees.proofs.TableLemmas.{length-table}
use Rattle.context_forks.specs.Forks.{forked_of, is_forked}
use Rattle.context_forks.proofs.SiblingLemmas.{numbers_within}
use Rattle.linked_groups.specs.Groups.{groups_after, groups_of, groups_with}
use Rattle.span_calls.specs.declared.call.Call.{Call}

pub forked_size : (grace : ℕ) (calls : List Call) (numbers : List ℕ) (count : ℕ) → length (forked_of grace calls numbers count) ≡ count
forked_size grace calls numbers count = length-table (is_forked grace calls numbers) count

after_size : (groups : List ℕ) (links : List (ℕ × ℕ)) → length (fold groups_after groups links) ≡ length groups
after_size groups [] = refl
after_size groups (l ∷ links) = after_size (groups_after groups l) links ∙ length-map groups (λ g. if_joined (get_or groups l.0 0) (get_or groups l.1 0) g)
  where
    if_joined : ℕ → ℕ → ℕ → ℕ
    if_joined one other g = cond (eqb g (max one other)) (min one other) g

pub groups_size : (count : ℕ) (links : List (ℕ × ℕ)) → length (groups_of count links) ≡ count
groups_size count links = after_size (range_with_len 0 count) links ∙ length-range_with_len 0 count

module _ (n : ℕ) where
  joined_low : (groups : List ℕ) (one other : ℕ) → All (λ g. g < n) groups → All (λ g. g < n) (groups_with groups one other)
  joined_low groups one other h k d lt =
      let f : ℕ → ℕ = λ g. cond (eqb g (max one other)) (min one other) g in
      let low : k < length groups = omega (arith, lt, length-map groups f) in
      subst (λ g. g < n) (sym (get_or-map f groups k 0 d low)) (by (get_or groups k 0) (eqb (get_or groups k 0) (max one other)) refl (h k 0 low))
    where
      by : (g : ℕ) (b : Bool) → eqb g (max one other) ≡ b → g < n → cond b (min one other) g < n
      by g true e less = let same = eqb-true g (max one other) e in omega (arith, same, less)
      by g false e less = less

  after_low : (groups : List ℕ) (links : List (ℕ × ℕ)) → All (λ g. g < n) groups → All (λ g. g < n) (fold groups_after groups links)
  after_low groups [] h = h
  after_low groups (l ∷ links) h = after_low (groups_after groups l) links (joined_low groups (get_or groups l.0 0) (get_or groups l.1 0) h)

pub groups_low : (count : ℕ) (links : List (ℕ × ℕ)) → All (λ g. g < count) (groups_of count links)
groups_low count links = after_low count (range_with_len 0 count) links (numbers_within count)
