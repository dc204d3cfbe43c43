-- The table of the steps of calls.
use Rattle.std.proofs.Common.{◌≡◌, ℕ, zero, suc, ◌+◌, ◌<◌, ◌≤◌, List, [], ◌∷◌, ◌++◌, ◌⊎◌, inl, inr, All, Bool, true, false, cond, Option, Some, None, length, get_or, drop, slice_get, refl, sym, ap, ◌∙◌, subst, append_assoc, arith}
use Rattle.std.specs.List.{flat_map, list_all, range_with_len}
use Rattle.std.proofs.lemmas.Bool.{and_from, cases_lt, eqb-true, false≢true, lt-ltb}
use Rattle.std.proofs.lemmas.List.{drop-append-le, drop_at, get_or_append_left, get_or_push, length-append, length-map}
use Rattle.std.proofs.lemmas.List.Concat.{flat_map-append}
use Rattle.std.proofs.lemmas.List.Elements.{All-append, All-cons, All-filter, All-from_get_or, All-get_or, All-head, All-nil, All-push, All-tail, All-weaker, filter_passes}
use Rattle.std.proofs.lemmas.List.FromFn.{get_or-range_with_len, length-range_with_len}
use Rattle.call_trees.specs.Below.{below_one, is_number}
use Rattle.call_trees.proofs.GroupLemmas.{group_at, groups_length}
use Rattle.call_trees.proofs.TableLemmas.{get_or-table, length-table}
use Rattle.span_calls.specs.Calls.{AreBefore}
use Rattle.span_calls.specs.declared.call.Call.{Call}
use Rattle.context_forks.specs.Forks.{callers_of, calls_below}
use Rattle.context_forks.specs.Partners.{last_after}
use Rattle.thread_steps.specs.Parts.{Grouping, forks, parts_of}
use Rattle.thread_steps.specs.Steps.{call_of, gone_into, own_steps, part_steps, piece_after, steps_from, steps_over, steps_within}
use Rattle.thread_steps.specs.inner.StepRows.{AreRows, has_end, row_of, starts_behind, thread_within, threads_in, until_end}
use Rattle.thread_steps.specs.declared.step.Step.{Step}
use Rattle.thread_steps.specs.declared.step.Step.TheVariants.{Starts, Ends, Forks, Joins}
use Rattle.thread_steps.proofs.CutLemmas.{last_within, parts_within}
use Rattle.thread_steps.proofs.ThreadLemmas.{flat_same, has_place}

-- what stands below a call

is_some_number : (n : ℕ) (o : Option ℕ) → is_number n o ≡ true → o ≡ Some n
is_some_number n None h = absurd (false≢true h)
is_some_number n (Some m) h = ap (λ k. Some k) (eqb-true m n h)

pub below_length : (calls : List Call) (below : List (List ℕ)) → below ≡ calls_below calls → length below ≡ length calls
below_length calls below is = ap length is ∙ groups_length (callers_of calls) (range_with_len 0 (length calls)) ∙ length-map calls (λ (c : Call). c.caller)

pub caller_before : (calls : List Call) → AreBefore calls → (i j : ℕ) → get_or (callers_of calls) j None ≡ Some i → i < j
caller_before calls before i j is = let found = by calls j is in before j found.0 i found.1 found.2
  where
    by : (cs : List Call) (k : ℕ) → get_or (callers_of cs) k None ≡ Some i → (c : Call) × (slice_get cs k ≡ Some c) × (c.caller ≡ Some i)
    by [] k e = cc
    by (c ∷ cs) zero e = (c, refl, e)
    by (c ∷ cs) (suc k) e = by cs k e

pub range_within : (a n : ℕ) → All (λ j. j < a + n) (range_with_len a n)
range_within a n = All-from_get_or (λ j. j < a + n) (range_with_len a n) 0 (λ k small. omega (arith, small, length-range_with_len a n, get_or-range_with_len a n k 0 (omega (arith, small, length-range_with_len a n))))

pub range_below : (n : ℕ) → All (λ j. j < n) (range_with_len 0 n)
range_below n = All-from_get_or (λ j. j < n) (range_with_len 0 n) 0 (λ k small. omega (arith, small, length-range_with_len 0 n, get_or-range_with_len 0 n k 0 (omega (arith, small, length-range_with_len 0 n))))

pub below_behind : (calls : List Call) (below : List (List ℕ)) → AreBefore calls → below ≡ calls_below calls → (i : ℕ) → i < length calls → All (λ j. (i < j) × (j < length calls)) (get_or below i [])
below_behind calls below before is i lt =
    let callers = callers_of calls in
    let all = range_with_len 0 (length calls) in
    let size : length callers ≡ length calls = length-map calls (λ (c : Call). c.caller) in
    let same : get_or below i [] ≡ below_one callers all i = ap (λ (ls : List (List ℕ)). get_or ls i []) is ∙ group_at callers all i [] (omega (arith, lt, size)) in
    let few : All (λ j. j < length calls) all = range_below (length calls) in
    subst (All (λ j. (i < j) × (j < length calls))) (sym same)
    (All-from_get_or (λ j. (i < j) × (j < length calls)) (below_one callers all i) 0 (λ k small.
    let j = get_or (below_one callers all i) k 0 in (
      caller_before calls before i j (is_some_number i (get_or callers j None) (All-get_or (λ j. is_number i (get_or callers j None) ≡ true) (below_one callers all i) k 0 small (filter_passes (λ j. is_number i (get_or callers j None)) all))),
      All-get_or (λ j. j < length calls) (below_one callers all i) k 0 small (All-filter (λ j. is_number i (get_or callers j None)) (λ j. j < length calls) all few),
    )))

pub below_called : (calls : List Call) (c : ℕ) → c < length calls → All (λ j. get_or (callers_of calls) j None ≡ Some c) (get_or (calls_below calls) c [])
below_called calls c lt =
    let callers = callers_of calls in
    let all = range_with_len 0 (length calls) in
    let same : get_or (calls_below calls) c [] ≡ below_one callers all c = group_at callers all c [] (omega (arith, lt, length-map calls (λ (c : Call). c.caller))) in
    subst (All (λ j. get_or callers j None ≡ Some c)) (sym same)
    (All-weaker (λ j. is_number c (get_or callers j None) ≡ true) (λ j. get_or callers j None ≡ Some c) (λ j h. is_some_number c (get_or callers j None) h) (below_one callers all c) (filter_passes (λ j. is_number c (get_or callers j None)) all))

-- steps of a call itself

module _ (calls : List Call) (grouping : Grouping) (group_numbers : List ℕ) where
  until_over : (before parts : List (List ℕ)) (later : List Step) → until_end (steps_over calls grouping group_numbers before parts ++ later) ≡ steps_over calls grouping group_numbers before parts ++ until_end later
  until_over before [] later = refl
  until_over before ([] ∷ parts) later = until_over (before ++ [] ∷ []) parts later
  until_over before ((i ∷ more) ∷ parts) later = by (forks grouping i) (until_over (before ++ (i ∷ more) ∷ []) parts later)
    where
      by : (b : Bool) → until_end (steps_over calls grouping group_numbers (before ++ (i ∷ more) ∷ []) parts ++ later) ≡ steps_over calls grouping group_numbers (before ++ (i ∷ more) ∷ []) parts ++ until_end later
          → until_end (cond b (Forks i ∷ Joins (last_after calls i more) (piece_after calls grouping group_numbers before parts i) ∷ []) (Starts i ∷ []) ++ steps_over calls grouping group_numbers (before ++ (i ∷ more) ∷ []) parts ++ later)
          ≡ cond b (Forks i ∷ Joins (last_after calls i more) (piece_after calls grouping group_numbers before parts i) ∷ []) (Starts i ∷ []) ++ steps_over calls grouping group_numbers (before ++ (i ∷ more) ∷ []) parts ++ until_end later
      by true h = ap (λ (ss : List Step). Forks i ∷ Joins (last_after calls i more) (piece_after calls grouping group_numbers before parts i) ∷ ss) h
      by false h = ap (λ (ss : List Step). Starts i ∷ ss) h

  end_over : (before parts : List (List ℕ)) (later : List Step) → has_end (steps_over calls grouping group_numbers before parts ++ later) ≡ has_end later
  end_over before [] later = refl
  end_over before ([] ∷ parts) later = end_over (before ++ [] ∷ []) parts later
  end_over before ((i ∷ more) ∷ parts) later = by (forks grouping i) (end_over (before ++ (i ∷ more) ∷ []) parts later)
    where
      by : (b : Bool) → has_end (steps_over calls grouping group_numbers (before ++ (i ∷ more) ∷ []) parts ++ later) ≡ has_end later
          → has_end (cond b (Forks i ∷ Joins (last_after calls i more) (piece_after calls grouping group_numbers before parts i) ∷ []) (Starts i ∷ []) ++ steps_over calls grouping group_numbers (before ++ (i ∷ more) ∷ []) parts ++ later) ≡ has_end later
      by true h = h
      by false h = h

  module _ (P : ℕ → Type 0) where
    part_calls : (before later : List (List ℕ)) (part : List ℕ) → All P part → All (λ s. P (call_of s)) (part_steps calls grouping group_numbers before later part)
    part_calls before later [] h = All-nil (λ s. P (call_of s))
    part_calls before later (i ∷ more) h = by (forks grouping i)
      where
        first : P i
        first = All-head P i more h

        by : (b : Bool) → All (λ s. P (call_of s)) (cond b (Forks i ∷ Joins (last_after calls i more) (piece_after calls grouping group_numbers before later i) ∷ []) (Starts i ∷ []))
        by true =
            All-cons (λ s. P (call_of s)) (Forks i) (Joins (last_after calls i more) (piece_after calls grouping group_numbers before later i) ∷ []) first
            (All-cons (λ s. P (call_of s)) (Joins (last_after calls i more) (piece_after calls grouping group_numbers before later i)) [] (last_within calls grouping P i more first (All-tail P i more h)) (All-nil (λ s. P (call_of s))))
        by false = All-cons (λ s. P (call_of s)) (Starts i) [] first (All-nil (λ s. P (call_of s)))

    over_calls : (before parts : List (List ℕ)) → All (All P) parts → All (λ s. P (call_of s)) (steps_over calls grouping group_numbers before parts)
    over_calls before [] h = All-nil (λ s. P (call_of s))
    over_calls before (part ∷ later) h = All-append (λ s. P (call_of s)) (part_steps calls grouping group_numbers before later part) (steps_over calls grouping group_numbers (before ++ part ∷ []) later) (part_calls before later part (All-head (All P) part later h)) (over_calls (before ++ part ∷ []) later (All-tail (All P) part later h))

    -- what holds of each call below one holds of the calls of its steps
    pub own_calls : (below : List ℕ) → All P below → All (λ s. P (call_of s)) (own_steps calls grouping group_numbers below)
    own_calls below h = over_calls [] (parts_of calls grouping below) (parts_within calls grouping P below h)

all_behind : (i : ℕ) (steps : List Step) → All (λ s. i < call_of s) steps → list_all (starts_behind i) (steps ++ Ends i ∷ []) ≡ true
all_behind i [] h = refl
all_behind i (s ∷ steps) h = and_from (starts_behind i s) (list_all (starts_behind i) (steps ++ Ends i ∷ [])) (by s (All-head (λ s. i < call_of s) s steps h)) (all_behind i steps (All-tail (λ s. i < call_of s) s steps h))
  where
    by : (s : Step) → i < call_of s → starts_behind i s ≡ true
    by (Starts j) lt = lt-ltb i j lt
    by (Ends j) lt = refl
    by (Forks j) lt = refl
    by (Joins j piece) lt = refl

until_append : (xs ys : List Step) → has_end xs ≡ true → until_end (xs ++ ys) ≡ until_end xs
until_append [] ys h = absurd (false≢true h)
until_append (Starts i ∷ xs) ys h = ap (λ (ss : List Step). Starts i ∷ ss) (until_append xs ys h)
until_append (Ends i ∷ xs) ys h = refl
until_append (Forks i ∷ xs) ys h = ap (λ (ss : List Step). Forks i ∷ ss) (until_append xs ys h)
until_append (Joins i piece ∷ xs) ys h = ap (λ (ss : List Step). Joins i piece ∷ ss) (until_append xs ys h)

end_append : (xs ys : List Step) → has_end xs ≡ true → has_end (xs ++ ys) ≡ true
end_append [] ys h = absurd (false≢true h)
end_append (Starts i ∷ xs) ys h = end_append xs ys h
end_append (Ends i ∷ xs) ys h = refl
end_append (Forks i ∷ xs) ys h = end_append xs ys h
end_append (Joins i piece ∷ xs) ys h = end_append xs ys h

module _ (calls : List Call) (below : List (List ℕ)) (grouping : Grouping) (group_numbers : List ℕ) where
  -- the steps of a call itself, up to its end
  abbrev pub own_row : ℕ → List Step
  own_row i = own_steps calls grouping group_numbers (get_or below i []) ++ Ends i ∷ []

  -- the first calls have their steps
  pub record AreMade (at : ℕ) (steps : List Step) (firsts : List ℕ) : Type 0 where
    pub size : length firsts ≡ at
    pub within : All (λ s. call_of s < length calls) steps
    pub rows : (i : ℕ) → i < at → row_of steps firsts i ≡ own_row i
    pub ended : (i : ℕ) → i < at → has_end (drop (get_or firsts i 0) steps) ≡ true

  pub made_none : (steps : List Step) (firsts : List ℕ) → steps ≡ [] → firsts ≡ [] → AreMade 0 steps firsts
  made_none steps firsts none empty = record {
    size = ap length empty;
    within = subst (All (λ s. call_of s < length calls)) (sym none) (All-nil (λ s. call_of s < length calls));
    rows = λ i lt. absurd (let e : ⊥ = omega (arith, lt) in e);
    ended = λ i lt. absurd (let e : ⊥ = omega (arith, lt) in e);
  }

  module _ (before : AreBefore calls) (is : below ≡ calls_below calls) where
    own_within : (i : ℕ) → i < length calls → All (λ s. (i < call_of s) × (call_of s < length calls)) (own_steps calls grouping group_numbers (get_or below i []))
    own_within i lt = own_calls calls grouping group_numbers (λ j. (i < j) × (j < length calls)) (get_or below i []) (below_behind calls below before is i lt)

    module _ (at : ℕ) (steps new : List Step) (firsts more : List ℕ) (first : ℕ) (start : first ≡ length steps) (step : more ≡ firsts ++ first ∷ []) (made : new ≡ steps ++ own_row at) (h : AreMade at steps firsts) where
      old_drop : (i : ℕ) → i < at → drop (get_or more i 0) new ≡ drop (get_or firsts i 0) steps ++ own_row at
      old_drop i lt =
          ap (λ p. drop p new) (ap (λ (fs : List ℕ). get_or fs i 0) step ∙ get_or_append_left firsts (first ∷ []) 0 i (omega (arith, lt, h.size)))
          ∙ ap (drop (get_or firsts i 0)) made ∙ drop-append-le (get_or firsts i 0) steps (own_row at) (omega (arith, has_place steps firsts (get_or firsts i 0) (h.ended i lt)))

      new_drop : drop (get_or more at 0) new ≡ own_row at
      new_drop =
          ap (λ p. drop p new) (ap (λ (fs : List ℕ). get_or fs at 0) step ∙ get_or_push firsts first 0 at h.size ∙ start)
          ∙ ap (drop (length steps)) made ∙ drop_at steps (own_row at) (length steps) refl

      rows_more : (i : ℕ) → i < at + 1 → row_of new more i ≡ own_row i
      rows_more i lt = by (cases_lt i at)
        where
          by : (i < at) ⊎ (at ≤ i) → row_of new more i ≡ own_row i
          by (inl less) = ap until_end (old_drop i less) ∙ until_append (drop (get_or firsts i 0) steps) (own_row at) (h.ended i less) ∙ h.rows i less
          by (inr le) = subst (λ k. row_of new more k ≡ own_row k) (let e : at ≡ i = omega (arith, lt, le) in e) (ap until_end new_drop ∙ until_over calls grouping group_numbers [] (parts_of calls grouping (get_or below at [])) (Ends at ∷ []))

      ends_more : (i : ℕ) → i < at + 1 → has_end (drop (get_or more i 0) new) ≡ true
      ends_more i lt = by (cases_lt i at)
        where
          by : (i < at) ⊎ (at ≤ i) → has_end (drop (get_or more i 0) new) ≡ true
          by (inl less) = ap has_end (old_drop i less) ∙ end_append (drop (get_or firsts i 0) steps) (own_row at) (h.ended i less)
          by (inr le) = subst (λ k. has_end (drop (get_or more k 0) new) ≡ true) (let e : at ≡ i = omega (arith, lt, le) in e) (ap has_end new_drop ∙ end_over calls grouping group_numbers [] (parts_of calls grouping (get_or below at [])) (Ends at ∷ []))

    pub made_more : (at : ℕ) (steps new : List Step) (firsts more : List ℕ) (first : ℕ) → at < length calls → first ≡ length steps → more ≡ firsts ++ first ∷ [] → new ≡ steps ++ own_steps calls grouping group_numbers (get_or below at []) ++ Ends at ∷ [] → AreMade at steps firsts → AreMade (at + 1) new more
    made_more at steps new firsts more first lt start step made h =
        let told : new ≡ steps ++ own_row at = made ∙ append_assoc steps (own_steps calls grouping group_numbers (get_or below at [])) (Ends at ∷ []) in
        record {
          size = ap length step ∙ length-append firsts (first ∷ []) ∙ (let e : length firsts + 1 ≡ at + 1 = omega (arith, h.size) in e);
          within = subst (All (λ s. call_of s < length calls)) (sym told) (All-append (λ s. call_of s < length calls) steps (own_row at) h.within
              (All-push (λ s. call_of s < length calls) (own_steps calls grouping group_numbers (get_or below at [])) (Ends at) (All-weaker (λ s. (at < call_of s) × (call_of s < length calls)) (λ s. call_of s < length calls) (λ s both. both.1) (own_steps calls grouping group_numbers (get_or below at [])) (own_within at lt)) lt));
          rows = rows_more at steps new firsts more first start step told h;
          ended = ends_more at steps new firsts more first start step told h;
        }

    module _ (steps : List Step) (firsts : List ℕ) (h : AreMade (length calls) steps firsts) where
      pub are_rows : AreRows steps firsts
      are_rows = record {
        within = All-weaker (λ s. call_of s < length calls) (λ s. call_of s < length firsts) (λ s lt. omega (arith, lt, h.size)) steps h.within;
        ended = λ i lt. h.ended i (omega (arith, lt, h.size));
        behind = λ i lt.
            let less : i < length calls = omega (arith, lt, h.size) in
            ap (list_all (starts_behind i)) (h.rows i less)
            ∙ all_behind i (own_steps calls grouping group_numbers (get_or below i [])) (All-weaker (λ s. (i < call_of s) × (call_of s < length calls)) (λ s. i < call_of s) (λ s both. both.0) (own_steps calls grouping group_numbers (get_or below i [])) (own_within i less));
      }

      goes_same : (n : ℕ) → ((j : ℕ) → j < length calls → thread_within steps firsts n j ≡ steps_within calls below grouping group_numbers n j) → (s : Step) → call_of s < length calls → gone_into (thread_within steps firsts n) s ≡ gone_into (steps_within calls below grouping group_numbers n) s
      goes_same n same (Starts j) lt = same j lt
      goes_same n same (Ends j) lt = refl
      goes_same n same (Forks j) lt = refl
      goes_same n same (Joins j piece) lt = refl

      same_thread : (n i : ℕ) → i < length calls → thread_within steps firsts n i ≡ steps_within calls below grouping group_numbers n i
      same_thread zero i lt = refl
      same_thread (suc n) i lt =
          ap (λ (ss : List Step). Starts i ∷ ss)
          (ap (flat_map (gone_into (thread_within steps firsts n))) (h.rows i lt)
          ∙ flat_map-append (gone_into (thread_within steps firsts n)) (own_steps calls grouping group_numbers (get_or below i [])) (Ends i ∷ [])
          ∙ ap (λ (ss : List Step). ss ++ Ends i ∷ [])
          (flat_same (gone_into (thread_within steps firsts n)) (gone_into (steps_within calls below grouping group_numbers n)) (own_steps calls grouping group_numbers (get_or below i []))
          (All-weaker (λ s. (i < call_of s) × (call_of s < length calls)) (λ s. gone_into (thread_within steps firsts n) s ≡ gone_into (steps_within calls below grouping group_numbers n) s) (λ s both. goes_same n (same_thread n) s both.1) (own_steps calls grouping group_numbers (get_or below i [])) (own_within i lt))))

      pub table_count : length (threads_in steps firsts) ≡ length calls
      table_count = length-table (thread_within steps firsts (length firsts)) (length firsts) ∙ h.size

      pub table_threads : (call : ℕ) → call < length calls → get_or (threads_in steps firsts) call [] ≡ steps_from calls below grouping group_numbers call
      table_threads call lt =
          get_or-table (thread_within steps firsts (length firsts)) (length firsts) call [] (omega (arith, lt, h.size))
          ∙ ap (λ n. thread_within steps firsts n call) h.size ∙ same_thread (length calls) call lt
