-- Rows of names, by tables of durations.
use Rattle.std.proofs.Common.{◌≡◌, ◌↔◌, ℕ, ◌+◌, ◌<◌, ◌≤◌, Bool, true, List, [], ◌∷◌, ◌++◌, map, length, get_or, slice_get, take, Some, Contains, Ordering, arith, sym, ap, ◌∙◌, subst, ⊎_elim}
use Rattle.std.specs.Prelude.{nat_lt}
use Rattle.std.specs.Option.{option_map}
use Rattle.std.specs.declared.vec.Vec.{Vec}
use Rattle.std.proofs.lemmas.Bool.{cases_lt, lt-ltb}
use Rattle.std.proofs.lemmas.Bool.Decides.{nat_tests}
use Rattle.std.proofs.lemmas.List.{get_or_past, length-map, length_push, map_push, same_from_push, take_more}
use Rattle.std.proofs.lemmas.List.Elements.{Contains-get_or}
use Rattle.std.proofs.lemmas.Option.{slice_get-get_or, slice_get-map, slice_get_within}
use Rattle.trace_types.specs.Listing.{ListsExactly}
use Rattle.trace_rules.specs.declared.figures.Figures.{Figures}
use Rattle.trace_paths.specs.Tables.{list_at}
use Rattle.trace_rules.specs.Numbers.{AreFigures}
use Rattle.trace_types.proofs.ExactLemmas.{ListsExactly-same}

-- the lists that a list of vectors shows
abbrev pub shown : {Z : Type 0} → List (Vec ℕ Z) → List (List ℕ)
shown {Z} lists = map (λ (v : Vec ℕ Z). v.items) lists

-- what is known of the list that was taken off the end
pub record IsPopped {Z : Type 0} (table : List (List ℕ)) (left : List (Vec ℕ Z)) (v : Vec ℕ Z) : Type 0 where
  pub within : length left < length table
  pub list : list_at table (length left) ≡ v.items
  pub rest : shown left ≡ take (length left) table

pub popped : {Z : Type 0} (table : List (List ℕ)) (lists left : List (Vec ℕ Z)) (v : Vec ℕ Z) → lists ≡ left ++ v ∷ [] → shown lists ≡ take (length lists) table → length lists ≤ length table → IsPopped table left v
popped {Z} table lists left v split are few =
    let size : length lists ≡ length left + 1 = ap length split ∙ length_push left v in
    let lt : length left < length table = omega arith in
    let both : shown left ++ v.items ∷ [] ≡ take (length left) table ++ get_or table (length left) [] ∷ [] =
    sym (map_push (λ (w : Vec ℕ Z). w.items) left v) ∙ (sym (ap shown split) ∙ (are ∙ (ap (λ k. take k table) size ∙ take_more table (length left) [] lt))) in
    let parts = same_from_push (shown left) (take (length left) table) v.items (get_or table (length left) []) both in
    record { within = lt; list = sym parts.1; rest = parts.0 }

abbrev no_figures : Figures
no_figures = record { count = 0; sum = 0; median = 0; greatest = 0 }

abbrev pub has_some : Figures → Bool
has_some f = nat_lt 0 f.count

-- the marked names are those with a duration
pub marks_tell : (table : List (List ℕ)) (figures : List Figures) (marked : List Bool) → length figures ≡ length table → ((n : ℕ) (d : Figures) → n < length table → AreFigures (list_at table n) (get_or figures n d)) → marked ≡ map has_some figures
    → (n : ℕ) → (slice_get marked n ≡ Some true) ↔ (0 < length (list_at table n))
marks_tell table figures marked size each is n = (
  (λ mark.
      let within : n < length figures = omega (arith, slice_get_within marked n true mark, ap length is, length-map figures has_some) in
      let told : Some (has_some (get_or figures n no_figures)) ≡ Some true = sym (read within) ∙ mark in
      let yes : has_some (get_or figures n no_figures) ≡ true = cc in
      let count = (each n no_figures (omega arith)).count in
      let some : 0 < (get_or figures n no_figures).count = positive (get_or figures n no_figures).count yes in
      omega arith),
  (λ some. ⊎_elim
      (λ (within : n < length table).
      let count = (each n no_figures within).count in
      read (omega arith) ∙ ap Some (lt-ltb 0 (get_or figures n no_figures).count (omega arith)))
      (λ (past : length table ≤ n). let none : length (list_at table n) ≡ 0 = ap length (get_or_past table n [] past) in absurd (omega arith))
      (cases_lt n (length table))),
)
  where
    read : n < length figures → slice_get marked n ≡ Some (has_some (get_or figures n no_figures))
    read within = ap (λ (m : List Bool). slice_get m n) is ∙ (slice_get-map has_some figures n ∙ ap (option_map has_some) (slice_get-get_or figures n no_figures within))

    positive : (k : ℕ) → nat_lt 0 k ≡ true → 0 < k
    positive k e = grind (arith, nat_tests)

-- the names in order are those with a duration
pub names_listed : (cmp : ℕ → ℕ → Ordering) (table : List (List ℕ)) (figures : List Figures) (marked seen : List Bool) (names : List ℕ) → length figures ≡ length table → ((n : ℕ) (d : Figures) → n < length table → AreFigures (list_at table n) (get_or figures n d)) → marked ≡ map has_some figures → seen ≡ marked
    → ListsExactly cmp (λ n. slice_get seen n ≡ Some true) names → ListsExactly cmp (λ n. 0 < length (list_at table n)) names
names_listed cmp table figures marked seen names size each is same listed =
    ListsExactly-same cmp (λ n. slice_get seen n ≡ Some true) (λ n. 0 < length (list_at table n)) (marks_tell table figures seen size each (same ∙ is)) names listed

-- such a name is within the table
pub name_within : (cmp : ℕ → ℕ → Ordering) (table : List (List ℕ)) (names items : List ℕ) (i : ℕ) → ListsExactly cmp (λ n. 0 < length (list_at table n)) names → items ≡ names → i < length items → get_or items i 0 < length table
name_within cmp table names items i listed is lt =
    let n = get_or items i 0 in
    let has : Contains names n = subst (λ (l : List ℕ). Contains l n) is (Contains-get_or items i 0 lt) in
    let some = (listed.exactly n).0 has in
    ⊎_elim
    (λ (within : n < length table). within)
    (λ (past : length table ≤ n). let none : length (list_at table n) ≡ 0 = ap length (get_or_past table n [] past) in absurd (omega arith))
    (cases_lt n (length table))
