-- Durations on critical paths, by names.
use Rattle.std.proofs.Common.{◌≡◌, ℕ, ◌<◌, eqb, List, [], ◌∷◌, ◌++◌, length, get_or, All, sym, ap, ◌∙◌, subst}
use Rattle.std.specs.Prelude.{sum}
use Rattle.std.proofs.lemmas.List.Concat.{flat_map-append}
use Rattle.std.proofs.lemmas.List.{append-nil}
use Rattle.trace_types.specs.Parts.{by_number}
use Rattle.trace_paths.specs.NumberedPaths.{IsNamedPath}
use Rattle.trace_rules.specs.Durations.{paths_with, time_on}
use Rattle.trace_paths.specs.Tables.{IsTableOf}
use Rattle.trace_paths.proofs.PathTimeLemmas.{Seg, joined, once_each, time_each}

-- what a table of the durations on paths has of a name
pub record HasOf (paths : List (List Seg)) (n : ℕ) (numbers : List ℕ) : Type 0 where
  pub on : length numbers ≡ paths_with by_number eqb n paths
  pub sum : sum numbers ≡ time_on by_number eqb n paths

pub table_has : (names : ℕ) (paths : List (List Seg)) (table : List (List ℕ)) (n : ℕ) → IsTableOf names (joined paths) table → All (IsNamedPath names) paths → n < names → HasOf paths n (get_or table n [])
table_has names paths table n t named lt = record {
  on = ap length (t.lists n lt) ∙ once_each n paths (λ k d within. (named k d within).differ);
  sum = ap sum (t.lists n lt) ∙ time_each n paths;
}

-- one more path
pub table_more : (names : ℕ) (before : List (List Seg)) (path : List Seg) (old new : List (List ℕ)) → IsTableOf names (joined before) old → ((b : List Seg) → IsTableOf (length old) b old → IsTableOf (length old) (b ++ path) new) → IsTableOf names (joined (before ++ path ∷ [])) new
table_more names before path old new t add =
    let count : length old ≡ names = t.count in
    let added : IsTableOf names (joined before ++ path) new =
    subst (λ (k : ℕ). IsTableOf k (joined before ++ path) new) count (add (joined before) (subst (λ (k : ℕ). IsTableOf k (joined before) old) (sym count) t)) in
    subst (λ (l : List Seg). IsTableOf names l new)
    (sym (flat_map-append (λ (xs : List Seg). xs) before (path ∷ []) ∙ ap (λ (l : List Seg). joined before ++ l) (append-nil path))) added
