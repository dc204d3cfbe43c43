-- The names of the pieces of a task.
use Rattle.std.proofs.Common.{◌≡◌, ◌⊎◌, inl, inr, ℕ, ◌+◌, ◌-◌, ◌^◌, ◌<◌, ◌≤◌, filter, List, [], ◌∷◌, ◌++◌, Bool, true, false, length, get_or, map, refl, sym, ap, subst, ◌∙◌, arith, append-nil, append_assoc, cond, not, zero, suc, ⊎_elim}
use Rattle.std.specs.Prelude.{if◌then◌else◌}
use Rattle.std.specs.List.{IsDistinct, list_any, position_or_len, range_with_len}
use Rattle.std.specs.Str.{bytes_eq}
use Rattle.std.proofs.lemmas.Bool.{cases_eq, cases_lt, cases_order, false_from_ne_true, false≢true, lt-leb}
use Rattle.std.proofs.lemmas.List.{get_or-map, get_or_append_left, get_or_push, length-append, length-map, map-append}
use Rattle.std.proofs.lemmas.Map.Keys.{apart_from_distinct}
use Rattle.std.proofs.lemmas.Slice.Eq.{bytes_eq-Decides}
use Rattle.task_pieces.specs.PieceNames.{free_numbers, is_free, numbered_name, piece_name, stem_of}
use Rattle.task_pieces.specs.inner.Naming.{AreAllNames, AreNames}
use Rattle.task_pieces.proofs.FreeLemmas.{enough, filter_more, free_at}

module _ (tasks : List (List ℕ)) (stem : List ℕ) where
  -- the free numbers among so many
  abbrev pub free_of : ℕ → List ℕ
  free_of count = filter (is_free tasks stem) (range_with_len 2 count)

  -- one number more
  pub free_taken : (count : ℕ) → is_free tasks stem (2 + count) ≡ false → free_of (count + 1) ≡ free_of count
  free_taken count h = filter_more (is_free tasks stem) 2 count 1 ∙ ap (λ b. free_of count ++ (if b then (2 + count) ∷ [] else [])) h ∙ append-nil (free_of count)

  pub free_more : (count : ℕ) → is_free tasks stem (2 + count) ≡ true → free_of (count + 1) ≡ free_of count ++ (2 + count) ∷ []
  free_more count h = filter_more (is_free tasks stem) 2 count 1 ∙ ap (λ b. free_of count ++ (if b then (2 + count) ∷ [] else [])) h

  -- a number with as many free ones before it as a piece has
  pub found_number : (count piece : ℕ) → 1 < piece → piece - 2 < length (free_of count) → 2 + count + piece + length tasks < 2 ^ 64
      → get_or (free_numbers tasks stem piece) (piece - 2) 0 ≡ get_or (free_of count) (piece - 2) 0
  found_number count piece some lt few =
      let all = piece + length tasks in
      let many = enough stem tasks 2 all (omega (arith, few)) in
      ⊎_elim (λ (less : count < all). free_at (is_free tasks stem) 2 count all (piece - 2) (omega arith) lt)
      (λ (more : all ≤ count). sym (free_at (is_free tasks stem) 2 all count (piece - 2) more (omega (arith, many)))) (cases_lt count all)

-- the task and then the names with free numbers
pub names_are : (tasks : List (List ℕ)) (task : List ℕ) (count least : ℕ) (names : List (List ℕ)) → names ≡ task ∷ map (numbered_name (stem_of tasks task)) (free_of tasks (stem_of tasks task) count) → least ≤ length names
    → 2 + count + length names + length tasks < 2 ^ 64 → AreNames tasks task least names
names_are tasks task count least names is enough_names few = record {
  size = enough_names;
  some = omega (arith, ap length is);
  named = λ piece some low. ap (λ (ns : List (List ℕ)). get_or ns (piece - 1) []) is ∙ by piece some (omega (arith, low, ap length is)) (omega (arith, low, few)) (cases_lt 1 piece);
}
  where
    stem : List ℕ
    stem = stem_of tasks task

    by : (piece : ℕ) → 0 < piece → piece ≤ 1 + length (map (numbered_name (stem_of tasks task)) (free_of tasks (stem_of tasks task) count)) → 2 + count + piece + length tasks < 2 ^ 64 → (1 < piece) ⊎ (piece ≤ 1)
        → get_or (task ∷ map (numbered_name (stem_of tasks task)) (free_of tasks (stem_of tasks task) count)) (piece - 1) [] ≡ piece_name tasks task piece
    by piece some low small (inr first) =
        let one : piece ≡ 1 = omega arith in
        subst (λ p. get_or (task ∷ map (numbered_name (stem_of tasks task)) (free_of tasks (stem_of tasks task) count)) (p - 1) [] ≡ piece_name tasks task p) (sym one) refl
    by piece some low small (inl more) =
        let frees = free_of tasks (stem_of tasks task) count in
        let long = length-map frees (numbered_name (stem_of tasks task)) in
        let at : piece - 1 ≡ suc (piece - 2) = omega arith in
        let lt : piece - 2 < length frees = omega (arith, low, long) in
        ap (λ i. get_or (task ∷ map (numbered_name (stem_of tasks task)) frees) i []) at ∙ get_or-map (numbered_name (stem_of tasks task)) frees (piece - 2) 0 [] lt
        ∙ ap (numbered_name (stem_of tasks task)) (sym (found_number tasks (stem_of tasks task) count piece more lt small))
        ∙ sym (ap (λ b. if b then task else numbered_name (stem_of tasks task) (get_or (free_numbers tasks (stem_of tasks task) piece) (piece - 2) 0)) (lt-leb piece 1 more))

-- ---- one number after another

module _ (tasks : List (List ℕ)) (stem : List ℕ) (old names : List (List ℕ)) (number : ℕ) (low : 2 ≤ number) (one : length old ≡ 1)
    (grown : names ≡ old ++ map (numbered_name stem) (free_of tasks stem (number - 2))) where
  pub in_row : (count : ℕ) → number < 2 ^ 63 → length names < count → number < count + length tasks + 1
  in_row count small less =
      let many = enough stem tasks 2 (number - 2) (omega (arith, small, low)) in
      omega (arith, many, ap length grown, length-append old (map (numbered_name stem) (free_of tasks stem (number - 2))), length-map (free_of tasks stem (number - 2)) (numbered_name stem), one, less, low)

  at : 2 + (number - 2) ≡ number
  at = omega arith

  on : number - 2 + 1 ≡ number + 1 - 2
  on = omega arith

  pub grown_more : (new : List (List ℕ)) (name : List ℕ) → name ≡ numbered_name stem number → new ≡ (if list_any (bytes_eq name) tasks then names else names ++ name ∷ []) → new ≡ old ++ map (numbered_name stem) (free_of tasks stem (number + 1 - 2))
  grown_more new name is added = by (list_any (bytes_eq (numbered_name stem number)) tasks) refl
    where
      by : (b : Bool) → list_any (bytes_eq (numbered_name stem number)) tasks ≡ b → new ≡ old ++ map (numbered_name stem) (free_of tasks stem (number + 1 - 2))
      by true e =
          let same : new ≡ names = added ∙ ap (λ b. if b then names else names ++ name ∷ []) (ap (λ n. list_any (bytes_eq n) tasks) is ∙ e) in
          let none : is_free tasks stem (2 + (number - 2)) ≡ false = ap (is_free tasks stem) at ∙ ap not e in
          same ∙ grown ∙ ap (λ ns. old ++ map (numbered_name stem) ns) (sym (free_taken tasks stem (number - 2) none)) ∙ ap (λ k. old ++ map (numbered_name stem) (free_of tasks stem k)) on
      by false e =
          let frees = free_of tasks stem (number - 2) in
          let more : new ≡ names ++ numbered_name stem number ∷ [] = added ∙ ap (λ b. if b then names else names ++ name ∷ []) (ap (λ n. list_any (bytes_eq n) tasks) is ∙ e) ∙ ap (λ n. names ++ n ∷ []) is in
          let some : is_free tasks stem (2 + (number - 2)) ≡ true = ap (is_free tasks stem) at ∙ ap not e in
          let free : free_of tasks stem (number + 1 - 2) ≡ frees ++ number ∷ [] = ap (free_of tasks stem) (sym on) ∙ free_more tasks stem (number - 2) some ∙ ap (λ n. frees ++ n ∷ []) at in
          more ∙ ap (λ ns. ns ++ numbered_name stem number ∷ []) grown ∙ append_assoc old (map (numbered_name stem) frees) (numbered_name stem number ∷ [])
          ∙ ap (λ ns. old ++ ns) (sym (map-append (numbered_name stem) frees (number ∷ []))) ∙ ap (λ ns. old ++ map (numbered_name stem) ns) (sym free)

-- ---- a task's number

first_position : (p : List ℕ → Bool) (xs : List (List ℕ)) (i : ℕ) → i < length xs → p (get_or xs i []) ≡ true → ((j : ℕ) → j < i → p (get_or xs j []) ≡ false) → position_or_len p xs ≡ i
first_position p [] i lt here others = absurd (omega arith)
first_position p (x ∷ xs) zero lt here others = ap (λ b. cond (not b) (1 + position_or_len p xs) 0) here
first_position p (x ∷ xs) (suc i) lt here others =
    ap (λ b. cond (not b) (1 + position_or_len p xs) 0) (others 0 (omega arith)) ∙ ap (λ n. 1 + n) (first_position p xs i (omega arith) here (λ j l. others (suc j) (omega arith))) ∙ omega arith

pub position_is : (tasks : List (List ℕ)) (i : ℕ) → IsDistinct bytes_eq tasks → i < length tasks → position_or_len (bytes_eq (get_or tasks i [])) tasks ≡ i
position_is tasks i distinct lt = first_position (bytes_eq (get_or tasks i [])) tasks i lt ((bytes_eq-Decides (get_or tasks i []) (get_or tasks i [])).1 refl)
    (λ j l. false_from_ne_true (bytes_eq (get_or tasks i []) (get_or tasks j [])) (λ e.
    false≢true (sym (apart_from_distinct bytes_eq tasks j i [] distinct l lt)
    ∙ (bytes_eq-Decides (get_or tasks j []) (get_or tasks i [])).1 (sym ((bytes_eq-Decides (get_or tasks i []) (get_or tasks j [])).0 e)))))

pub added_few : (tasks names new : List (List ℕ)) (name : List ℕ) → new ≡ (if list_any (bytes_eq name) tasks then names else names ++ name ∷ []) → length new ≤ length names + 1
added_few tasks names new name added = by (list_any (bytes_eq name) tasks) added
  where
    by : (b : Bool) → new ≡ (if b then names else names ++ name ∷ []) → length new ≤ length names + 1
    by true e = omega (arith, ap length e)
    by false e = omega (arith, ap length e, length-append names (name ∷ []))

-- the names of one task more
pub all_more : (tasks : List (List ℕ)) (most : List ℕ) (count : ℕ) (names : List (List (List ℕ))) (new : List (List ℕ)) → AreAllNames tasks most count names → AreNames tasks (get_or tasks count []) (get_or most count 0) new
    → AreAllNames tasks most (count + 1) (names ++ new ∷ [])
all_more tasks most count names new h one = record {
  size = omega (arith, h.size, length-append names (new ∷ []));
  named = λ number low. by number low (cases_eq number count);
}
  where
    by : (number : ℕ) → number < count + 1 → (number ≡ count) ⊎ (number ≡ count → ⊥) → AreNames tasks (get_or tasks number []) (get_or most number 0) (get_or (names ++ new ∷ []) number [])
    by number low (inl e) =
        subst (AreNames tasks (get_or tasks number []) (get_or most number 0)) (sym (get_or_push names new [] number (omega (arith, e, h.size)))) (subst (λ n. AreNames tasks (get_or tasks n []) (get_or most n 0) new) (sym e) one)
    by number low (inr differs) =
        let less : number < count = omega (arith, below) in
        subst (AreNames tasks (get_or tasks number []) (get_or most number 0)) (sym (get_or_append_left names (new ∷ []) [] number (omega (arith, less, h.size)))) (h.named number less)
      where
        below : number < count
        below = smaller (cases_order number count)
          where
            smaller : (number ≡ count) ⊎ ((number < count) ⊎ (count < number)) → number < count
            smaller (inl e) = absurd (differs e)
            smaller (inr (inl l)) = l
            smaller (inr (inr l)) = absurd (omega arith)
