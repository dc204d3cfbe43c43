-- How often calls stand in threads.
use Rattle.std.proofs.Common.{◌≡◌, ◌≢◌, ◌⊎◌, inl, inr, ℕ, zero, suc, ◌+◌, ◌<◌, ◌≤◌, List, [], ◌∷◌, ◌++◌, ◌&&◌, All, Bool, true, false, cond, eqb, Option, Some, None, filter, length, get_or, max, nat_lt, refl, sym, ap, ◌∙◌, subst, arith, eq-eqb}
use Rattle.std.specs.Prelude.{is_none}
use Rattle.std.specs.List.{count_by, flat_map, range_with_len, sum_by}
use Rattle.std.proofs.lemmas.Bool.{and_parts, cases_eq, cases_lt, eqb-true, ne_eqb}
use Rattle.std.proofs.lemmas.List.{length-map}
use Rattle.std.proofs.lemmas.List.Elements.{All-filter, All-head, All-tail, All-weaker}
use Rattle.std.proofs.lemmas.List.Sums.{sum_by-append, sum_by-cons, sum_by_push}
use Rattle.call_trees.specs.Below.{is_number}
use Rattle.call_trees.proofs.GroupLemmas.{group_at}
use Rattle.span_calls.specs.Calls.{AreBefore}
use Rattle.span_calls.specs.declared.call.Call.{Call}
use Rattle.span_names.specs.declared.piece.Piece.{Piece}
use Rattle.context_forks.specs.Forks.{callers_of, calls_below}
use Rattle.context_forks.specs.Partners.{end_of, last_after, start_of}
use Rattle.thread_steps.specs.Parts.{Grouping, cut_from, fork_together, forks, group_of}
use Rattle.thread_steps.specs.Steps.{gone_into, own_steps, part_steps, piece_after, steps_over, steps_within}
use Rattle.thread_steps.specs.ThreadLaws.{AreClosed, CallsStandWithCallers, EachStandsOnce, HeadsStandOnce, NoOtherStands, all_steps, caller_within, count_of, is_end, is_start, thread_heads, thread_steps}
use Rattle.thread_steps.specs.declared.step.Step.{Step}
use Rattle.thread_steps.specs.declared.step.Step.TheVariants.{Starts, Ends, Forks, Joins}
use Rattle.thread_steps.proofs.GapLemmas.{count-cons}
use Rattle.thread_steps.proofs.TableLemmas.{below_behind, caller_before, range_within}

-- sums

sum_plus : {X : Type 0} (f g h : X → ℕ) (xs : List X) → All (λ x. f x ≡ g x + h x) xs → sum_by f xs ≡ sum_by g xs + sum_by h xs
sum_plus f g h [] all = refl
sum_plus f g h (x ∷ xs) all = omega (arith, sum_by-cons f x xs, sum_by-cons g x xs, sum_by-cons h x xs, All-head (λ x. f x ≡ g x + h x) x xs all, sum_plus f g h xs (All-tail (λ x. f x ≡ g x + h x) x xs all))

sum_none : {X : Type 0} (xs : List X) → sum_by (λ x. 0) xs ≡ 0
sum_none [] = refl
sum_none (x ∷ xs) = sum_by-cons (λ x. 0) x xs ∙ (let e : 0 + sum_by (λ x. 0) xs ≡ 0 = omega (arith, sum_none xs) in e)

pub count-flat : {X Y : Type 0} (p : Y → Bool) (f : X → List Y) (xs : List X) → count_by p (flat_map f xs) ≡ sum_by (λ x. count_by p (f x)) xs
count-flat p f [] = refl
count-flat p f (x ∷ xs) =
    sum_by-append (λ y. cond (p y) 1 0) (f x) (flat_map f xs)
    ∙ ap (λ n. count_by p (f x) + n) (count-flat p f xs) ∙ sym (sum_by-cons (λ x. count_by p (f x)) x xs)

-- a number below a bound is met once among those

count_below : (i : ℕ) (p : ℕ → Bool) (a n : ℕ) → i < a → count_by (eqb i) (filter p (range_with_len a n)) ≡ 0
count_below i p a zero lt = refl
count_below i p a (suc n) lt = by (p a) (count_below i p (a + 1) n (omega (arith, lt)))
  where
    by : (b : Bool) → count_by (eqb i) (filter p (range_with_len (a + 1) n)) ≡ 0 → count_by (eqb i) (cond b (a ∷ filter p (range_with_len (a + 1) n)) (filter p (range_with_len (a + 1) n))) ≡ 0
    by true h = count-cons (eqb i) a (filter p (range_with_len (a + 1) n)) ∙ ap (λ b. cond b 1 0 + count_by (eqb i) (filter p (range_with_len (a + 1) n))) (ne_eqb i a (λ e. let gone : ⊥ = omega (arith, lt, e) in gone)) ∙ (let e : 0 + count_by (eqb i) (filter p (range_with_len (a + 1) n)) ≡ 0 = omega (arith, h) in e)
    by false h = h

count_range : (i : ℕ) (p : ℕ → Bool) (a n : ℕ) → a ≤ i → i < a + n → count_by (eqb i) (filter p (range_with_len a n)) ≡ cond (p i) 1 0
count_range i p a zero le lt = absurd (let e : ⊥ = omega (arith, le, lt) in e)
count_range i p a (suc n) le lt = front (p a) ∙ by (cases_eq a i) (count_range i p (a + 1) n)
  where
    rest : ℕ
    rest = count_by (eqb i) (filter p (range_with_len (a + 1) n))

    front : (b : Bool) → count_by (eqb i) (cond b (a ∷ filter p (range_with_len (a + 1) n)) (filter p (range_with_len (a + 1) n))) ≡ cond b (cond (eqb i a) 1 0) 0 + count_by (eqb i) (filter p (range_with_len (a + 1) n))
    front true = count-cons (eqb i) a (filter p (range_with_len (a + 1) n))
    front false = let e : count_by (eqb i) (filter p (range_with_len (a + 1) n)) ≡ 0 + count_by (eqb i) (filter p (range_with_len (a + 1) n)) = omega arith in e

    none : (b : Bool) → cond {A = ℕ} b 0 0 ≡ 0
    none true = refl
    none false = refl

    by : (a ≡ i) ⊎ (a ≡ i → ⊥) → (a + 1 ≤ i → i < a + 1 + n → count_by (eqb i) (filter p (range_with_len (a + 1) n)) ≡ cond (p i) 1 0)
        → cond (p a) (cond (eqb i a) 1 0) 0 + count_by (eqb i) (filter p (range_with_len (a + 1) n)) ≡ cond (p i) 1 0
    by (inl same) later =
        ap (λ b. cond (p a) (cond b 1 0) 0 + count_by (eqb i) (filter p (range_with_len (a + 1) n))) (eq-eqb i a (sym same))
        ∙ ap (λ n. cond (p a) 1 0 + n) (count_below i p (a + 1) n (omega (arith, same)))
        ∙ (let e : cond (p a) 1 0 + 0 ≡ cond (p a) 1 0 = omega arith in e) ∙ ap (λ k. cond (p k) 1 0) same
    by (inr other) later =
        ap (λ b. cond (p a) (cond b 1 0) 0 + count_by (eqb i) (filter p (range_with_len (a + 1) n))) (ne_eqb i a (λ e. other (sym e)))
        ∙ ap (λ m. m + count_by (eqb i) (filter p (range_with_len (a + 1) n))) (none (p a))
        ∙ (let e : 0 + count_by (eqb i) (filter p (range_with_len (a + 1) n)) ≡ count_by (eqb i) (filter p (range_with_len (a + 1) n)) = omega arith in e)
        ∙ later (let low : a < i = below other in omega (arith, low)) (omega (arith, lt))
      where
        below : (a ≡ i → ⊥) → a < i
        below other = omega (arith, le, other)

count_above : (i : ℕ) (p : ℕ → Bool) (a n : ℕ) → a + n ≤ i → count_by (eqb i) (filter p (range_with_len a n)) ≡ 0
count_above i p a zero le = refl
count_above i p a (suc n) le = by (p a) (count_above i p (a + 1) n (omega (arith, le)))
  where
    by : (b : Bool) → count_by (eqb i) (filter p (range_with_len (a + 1) n)) ≡ 0 → count_by (eqb i) (cond b (a ∷ filter p (range_with_len (a + 1) n)) (filter p (range_with_len (a + 1) n))) ≡ 0
    by true h = count-cons (eqb i) a (filter p (range_with_len (a + 1) n)) ∙ ap (λ b. cond b 1 0 + count_by (eqb i) (filter p (range_with_len (a + 1) n))) (ne_eqb i a (λ e. let gone : ⊥ = omega (arith, le, e) in gone)) ∙ (let e : 0 + count_by (eqb i) (filter p (range_with_len (a + 1) n)) ≡ 0 = omega (arith, h) in e)
    by false h = h

-- one outside of a range is not met there
count_outside : (i : ℕ) (p : ℕ → Bool) (a n : ℕ) → (a ≤ i → i < a + n → ⊥) → count_by (eqb i) (filter p (range_with_len a n)) ≡ 0
count_outside i p a n out = by (cases_lt i a) (cases_lt i (a + n))
  where
    by : (i < a) ⊎ (a ≤ i) → (i < a + n) ⊎ (a + n ≤ i) → count_by (eqb i) (filter p (range_with_len a n)) ≡ 0
    by (inl below) other = count_below i p a n below
    by (inr low) (inl high) = absurd (out low high)
    by (inr low) (inr above) = count_above i p a n above

-- steps over parts, by what each start weighs

module _ (calls : List Call) (grouping : Grouping) (group_numbers : List ℕ) (weight : Step → ℕ) (forking : (j : ℕ) → weight (Forks j) ≡ 0) (joining : (j : ℕ) (piece : Piece) → weight (Joins j piece) ≡ 0) where
  -- what a call weighs that is not forked
  abbrev pub own_weight : ℕ → ℕ
  own_weight j = cond (forks grouping j) 0 (weight (Starts j))

  part_weight : (before later : List (List ℕ)) (i : ℕ) (more : List ℕ) → sum_by weight (part_steps calls grouping group_numbers before later (i ∷ more)) ≡ own_weight i
  part_weight before later i more = by (forks grouping i)
    where
      by : (b : Bool) → sum_by weight (cond b (Forks i ∷ Joins (last_after calls i more) (piece_after calls grouping group_numbers before later i) ∷ []) (Starts i ∷ [])) ≡ cond b 0 (weight (Starts i))
      by true = omega (arith, sum_by-cons weight (Forks i) (Joins (last_after calls i more) (piece_after calls grouping group_numbers before later i) ∷ []), sum_by-cons weight (Joins (last_after calls i more) (piece_after calls grouping group_numbers before later i)) [], forking i, joining (last_after calls i more) (piece_after calls grouping group_numbers before later i))
      by false = omega (arith, sum_by-cons weight (Starts i) [])

  no_weight : (first i : ℕ) (b : Bool) → (fork_together grouping first i && b) ≡ true → own_weight i ≡ 0
  no_weight first i b h =
      let together = (and_parts (fork_together grouping first i) b h).0 in
      let second = (and_parts (forks grouping first) (forks grouping i && eqb (group_of grouping first) (group_of grouping i)) together).1 in
      ap (λ b. cond b 0 (weight (Starts i))) (and_parts (forks grouping i) (eqb (group_of grouping first) (group_of grouping i)) second).0

  cut_weight : (before : List (List ℕ)) (first : ℕ) (more : List ℕ) (end : ℕ) (later : List ℕ) → sum_by own_weight more ≡ 0 → sum_by weight (steps_over calls grouping group_numbers before (cut_from calls grouping first (first ∷ more) end later)) ≡ own_weight first + sum_by own_weight later
  cut_weight before first more end [] h = omega (arith, sum_by-append weight (part_steps calls grouping group_numbers before [] (first ∷ more)) [], part_weight before [] first more)
  cut_weight before first more end (i ∷ later) h =
      by (fork_together grouping first i && nat_lt (start_of calls i) end) refl
      (λ none. cut_weight before first (more ++ i ∷ []) (max end (end_of calls i)) later none)
      (cut_weight (before ++ (first ∷ more) ∷ []) i [] (end_of calls i) later refl)
    where
      by : (b : Bool) → (fork_together grouping first i && nat_lt (start_of calls i) end) ≡ b
          → (sum_by own_weight (more ++ i ∷ []) ≡ 0 → sum_by weight (steps_over calls grouping group_numbers before (cut_from calls grouping first (first ∷ (more ++ i ∷ [])) (max end (end_of calls i)) later)) ≡ own_weight first + sum_by own_weight later)
          → sum_by weight (steps_over calls grouping group_numbers (before ++ (first ∷ more) ∷ []) (cut_from calls grouping i (i ∷ []) (end_of calls i) later)) ≡ own_weight i + sum_by own_weight later
          → sum_by weight (steps_over calls grouping group_numbers before (cond b (cut_from calls grouping first ((first ∷ more) ++ i ∷ []) (max end (end_of calls i)) later) ((first ∷ more) ∷ cut_from calls grouping i (i ∷ []) (end_of calls i) later)))
          ≡ own_weight first + sum_by own_weight (i ∷ later)
      by true e on off =
          let light : own_weight i ≡ 0 = no_weight first i (nat_lt (start_of calls i) end) e in
          omega (arith, on (omega (arith, sum_by_push own_weight more i, h, light)), sum_by-cons own_weight i later, light)
      by false e on off =
          omega (
            arith,
            sum_by-append weight (part_steps calls grouping group_numbers before (cut_from calls grouping i (i ∷ []) (end_of calls i) later) (first ∷ more)) (steps_over calls grouping group_numbers (before ++ (first ∷ more) ∷ []) (cut_from calls grouping i (i ∷ []) (end_of calls i) later)),
            part_weight before (cut_from calls grouping i (i ∷ []) (end_of calls i) later) first more,
            off,
            sum_by-cons own_weight i later,
          )

  pub steps_weigh : (below : List ℕ) → sum_by weight (own_steps calls grouping group_numbers below) ≡ sum_by own_weight below
  steps_weigh [] = refl
  steps_weigh (i ∷ later) = cut_weight [] i [] (end_of calls i) later refl ∙ sym (sum_by-cons own_weight i later)

-- how often a step of a call stands in threads

module _ (is_of : ℕ → Step → Bool) (own : (i t : ℕ) → cond (is_of i (Starts t)) 1 0 + cond (is_of i (Ends t)) 1 0 ≡ cond (eqb i t) 1 0) (forking : (i j : ℕ) → is_of i (Forks j) ≡ false) (joining : (i j : ℕ) (piece : Piece) → is_of i (Joins j piece) ≡ false) (calls : List Call) (grouping : Grouping) (group_numbers : List ℕ) (before : AreBefore calls) where
  -- how often a call stands in a thread so deep
  abbrev pub stands : ℕ → ℕ → ℕ → ℕ
  stands i n t = count_by (is_of i) (steps_within calls (calls_below calls) grouping group_numbers n t)

  -- the same of a caller, if there is one
  abbrev pub stands_by : Option ℕ → ℕ → ℕ → ℕ
  stands_by None n t = 0
  stands_by (Some c) n t = stands c n t

  -- the calls below a call
  abbrev pub under : ℕ → List ℕ
  under t = get_or (calls_below calls) t []

  pub stands_suc : (i n t : ℕ) → stands i (suc n) t ≡ cond (eqb i t) 1 0 + sum_by (λ j. cond (forks grouping j) 0 (stands i n j)) (under t)
  stands_suc i n t =
      let steps = own_steps calls grouping group_numbers (under t) in
      let deep = flat_map (gone_into (steps_within calls (calls_below calls) grouping group_numbers n)) steps in
      omega (
        arith,
        count-cons (is_of i) (Starts t) (deep ++ Ends t ∷ []),
        sum_by_push (λ s. cond (is_of i s) 1 0) deep (Ends t),
        own i t,
        count-flat (is_of i) (gone_into (steps_within calls (calls_below calls) grouping group_numbers n)) steps,
        steps_weigh calls grouping group_numbers (λ s. count_by (is_of i) (gone_into (steps_within calls (calls_below calls) grouping group_numbers n) s))
            (λ j. count-cons (is_of i) (Forks j) [] ∙ ap (λ b. cond b 1 0 + 0) (forking i j)) (λ j piece. count-cons (is_of i) (Joins j piece) [] ∙ ap (λ b. cond b 1 0 + 0) (joining i j piece)) (under t),
      )

  -- no weight at all
  light : (up : Option ℕ) (n : ℕ) (xs : List ℕ) → up ≡ None → sum_by (λ j. cond (forks grouping j) 0 (stands_by up n j)) xs ≡ 0
  light up n [] none = refl
  light up n (x ∷ xs) none = omega (arith, sum_by-cons (λ j. cond (forks grouping j) 0 (stands_by up n j)) x xs, light up n xs none, by (forks grouping x))
    where
      by : (b : Bool) → cond b 0 (stands_by up n x) ≡ 0
      by true = refl
      by false = ap (λ (o : Option ℕ). stands_by o n x) none

  by_suc : (b : Bool) (o : Option ℕ) (n t : ℕ) → stands_by (cond b None o) (suc n) t ≡ cond b 0 (cond (is_number t o) 1 0) + sum_by (λ j. cond (forks grouping j) 0 (stands_by (cond b None o) n j)) (under t)
  by_suc true o n t = omega (arith, light None n (under t) refl)
  by_suc false None n t = omega (arith, light None n (under t) refl)
  by_suc false (Some c) n t = stands_suc c n t

  -- which of these is a call, if it is not forked
  met_unforked : (i : ℕ) (xs : List ℕ) → sum_by (λ j. cond (forks grouping j) 0 (cond (eqb i j) 1 0)) xs ≡ cond (forks grouping i) 0 (count_by (eqb i) xs)
  met_unforked i [] = by (forks grouping i)
    where
      by : (b : Bool) → ◌≡◌ {A = ℕ} 0 (cond {A = ℕ} b 0 0)
      by true = refl
      by false = refl
  met_unforked i (j ∷ xs) =
      sum_by-cons (λ j. cond (forks grouping j) 0 (cond (eqb i j) 1 0)) j xs ∙ ap (λ n. cond (forks grouping j) 0 (cond (eqb i j) 1 0) + n) (met_unforked i xs)
      ∙ ap (λ n. n + cond (forks grouping i) 0 (count_by (eqb i) xs)) (same (eqb i j) refl) ∙ by (forks grouping i) ∙ ap (cond (forks grouping i) 0) (sym (count-cons (eqb i) j xs))
    where
      none : (b : Bool) → ◌≡◌ {A = ℕ} (cond {A = ℕ} b 0 0) 0
      none true = refl
      none false = refl

      same : (b : Bool) → eqb i j ≡ b → ◌≡◌ {A = ℕ} (cond (forks grouping j) 0 (cond b 1 0)) (cond (forks grouping i) 0 (cond b 1 0))
      same true e = ap (λ k. cond {A = ℕ} (forks grouping k) 0 1) (sym (eqb-true i j e))
      same false e = none (forks grouping j) ∙ sym (none (forks grouping i))

      by : (b : Bool) → cond b 0 (cond (eqb i j) 1 0) + cond b 0 (count_by (eqb i) xs) ≡ cond b 0 (cond (eqb i j) 1 0 + count_by (eqb i) xs)
      by true = omega arith
      by false = refl

  met_under : (i t : ℕ) → i < length calls → t < length calls → count_by (eqb i) (under t) ≡ cond (is_number t (get_or (callers_of calls) i None)) 1 0
  met_under i t lt less =
      ap (count_by (eqb i)) (group_at (callers_of calls) (range_with_len 0 (length calls)) t [] (omega (arith, less, length-map calls (λ (c : Call). c.caller))))
      ∙ count_range i (λ j. is_number t (get_or (callers_of calls) j None)) 0 (length calls) (omega arith) (omega (arith, lt))

  pub stand : (n t i : ℕ) → t < length calls → i < length calls → length calls ≤ n + t → stands i n t ≡ cond (eqb i t) 1 0 + stands_by (caller_within calls grouping i) n t
  stand zero t i less lt le = absurd (let e : ⊥ = omega (arith, less, le) in e)
  stand (suc n) t i less lt le =
      let up = caller_within calls grouping i in
      omega (
        arith,
        stands_suc i n t,
        sum_plus (λ j. cond (forks grouping j) 0 (stands i n j)) (λ j. cond (forks grouping j) 0 (cond (eqb i j) 1 0)) (λ j. cond (forks grouping j) 0 (stands_by up n j)) (under t)
            (All-weaker (λ j. (t < j) × (j < length calls)) (λ j. cond (forks grouping j) 0 (stands i n j) ≡ cond (forks grouping j) 0 (cond (eqb i j) 1 0) + cond (forks grouping j) 0 (stands_by up n j))
            (λ j both. split (forks grouping j) (stands i n j) (cond (eqb i j) 1 0) (stands_by up n j) (stand n j i both.1 lt (omega (arith, both.0, le)))) (under t) (below_behind calls (calls_below calls) before refl t less)),
        met_unforked i (under t),
        ap (cond (forks grouping i) 0) (met_under i t lt less),
        by_suc (forks grouping i) (get_or (callers_of calls) i None) n t,
      )
    where
      split : (b : Bool) (x y z : ℕ) → x ≡ y + z → cond b 0 x ≡ cond b 0 y + cond b 0 z
      split true x y z h = omega arith
      split false x y z h = h

  pub caller_some : (b : Bool) (o : Option ℕ) (c : ℕ) → cond b None o ≡ Some c → o ≡ Some c
  caller_some true o c h = cc
  caller_some false o c h = h

  same_count : (o : Option ℕ) (t : ℕ) → stands_by o (length calls) t ≡ count_of calls grouping group_numbers is_of o t
  same_count None t = refl
  same_count (Some c) t = refl

  pub stands_with_caller : (head i : ℕ) → head < length calls → i < length calls → i ≢ head → count_by (is_of i) (thread_steps calls grouping group_numbers head) ≡ count_of calls grouping group_numbers is_of (caller_within calls grouping i) head
  stands_with_caller head i less lt other =
      stand (length calls) head i less lt (omega arith)
      ∙ ap (λ b. cond b 1 0 + stands_by (caller_within calls grouping i) (length calls) head) (ne_eqb i head other)
      ∙ (let e : 0 + stands_by (caller_within calls grouping i) (length calls) head ≡ stands_by (caller_within calls grouping i) (length calls) head = omega arith in e)
      ∙ same_count (caller_within calls grouping i) head

  none_before : (k i head : ℕ) → i < k → i < head → head < length calls → stands i (length calls) head ≡ 0
  none_before zero i head few lt less = absurd (let e : ⊥ = omega (arith, few) in e)
  none_before (suc k) i head few lt less =
      stand (length calls) head i less (omega (arith, lt, less)) (omega arith)
      ∙ ap (λ b. cond b 1 0 + stands_by (caller_within calls grouping i) (length calls) head) (ne_eqb i head (λ e. let gone : ⊥ = omega (arith, lt, e) in gone))
      ∙ by (caller_within calls grouping i) refl (none_before k)
    where
      by : (o : Option ℕ) → caller_within calls grouping i ≡ o → ((c h : ℕ) → c < k → c < h → h < length calls → stands c (length calls) h ≡ 0) → 0 + stands_by o (length calls) head ≡ 0
      by None e rest = refl
      by (Some c) e rest =
          let low : c < i = caller_before calls before c i (caller_some (forks grouping i) (get_or (callers_of calls) i None) c e) in
          omega (arith, rest c head (omega (arith, low, few)) (omega (arith, low, lt)) less)

  pub heads_once : (head : ℕ) → head < length calls → count_by (is_of head) (thread_steps calls grouping group_numbers head) ≡ 1
  heads_once head less =
      stand (length calls) head head less less (omega arith)
      ∙ ap (λ b. cond b 1 0 + stands_by (caller_within calls grouping head) (length calls) head) (eq-eqb head head refl)
      ∙ by (caller_within calls grouping head) refl
    where
      by : (o : Option ℕ) → caller_within calls grouping head ≡ o → 1 + stands_by o (length calls) head ≡ 1
      by None e = refl
      by (Some c) e =
          let low : c < head = caller_before calls before c head (caller_some (forks grouping head) (get_or (callers_of calls) head None) c e) in
          omega (arith, none_before (suc c) c head (omega arith) low less)

  few_below : (k i head : ℕ) → i < k → i < length calls → head < length calls → stands i (length calls) head ≤ 1
  few_below zero i head few lt less = absurd (let e : ⊥ = omega (arith, few) in e)
  few_below (suc k) i head few lt less = by (cases_eq i head) (few_below k)
    where
      from : (o : Option ℕ) → caller_within calls grouping i ≡ o → ((c h : ℕ) → c < k → c < length calls → h < length calls → stands c (length calls) h ≤ 1) → stands_by o (length calls) head ≤ 1
      from None e rest = omega arith
      from (Some c) e rest =
          let low : c < i = caller_before calls before c i (caller_some (forks grouping i) (get_or (callers_of calls) i None) c e) in
          rest c head (omega (arith, low, few)) (omega (arith, low, lt)) less

      by : (i ≡ head) ⊎ (i ≡ head → ⊥) → ((c h : ℕ) → c < k → c < length calls → h < length calls → stands c (length calls) h ≤ 1) → stands i (length calls) head ≤ 1
      by (inl same) rest = subst (λ j. stands j (length calls) head ≤ 1) (sym same) (omega (arith, heads_once head less))
      by (inr other) rest = omega (arith, stand (length calls) head i less lt (omega arith), ap (λ b. cond {A = ℕ} b 1 0) (ne_eqb i head other), from (caller_within calls grouping i) refl rest)

  -- in a thread a call starts, or ends, once at most
  pub once_at_most : (i head : ℕ) → i < length calls → head < length calls → count_by (is_of i) (thread_steps calls grouping group_numbers head) ≤ 1
  once_at_most i head lt less = few_below (suc i) i head (omega arith) lt less

  -- all threads of requests

  module _ (start size : ℕ) (closed : AreClosed calls start size) where
    heads_within : All (λ t. t < length calls) (thread_heads calls grouping start size)
    heads_within = All-filter (λ i. is_none (caller_within calls grouping i)) (λ t. t < length calls) (range_with_len start size) (All-weaker (λ t. t < start + size) (λ t. t < length calls) (λ t lt. omega (arith, lt, closed.bound)) (range_with_len start size) (range_within start size))

    all_stand : (i : ℕ) → i < length calls → count_by (is_of i) (all_steps calls grouping group_numbers start size) ≡ count_by (eqb i) (thread_heads calls grouping start size) + sum_by (λ t. stands_by (caller_within calls grouping i) (length calls) t) (thread_heads calls grouping start size)
    all_stand i lt =
        let up = caller_within calls grouping i in
        let heads = thread_heads calls grouping start size in
        omega (
          arith,
          count-flat (is_of i) (thread_steps calls grouping group_numbers) heads,
          sum_plus (λ t. stands i (length calls) t) (λ t. cond (eqb i t) 1 0) (λ t. stands_by up (length calls) t) heads
              (All-weaker (λ t. t < length calls) (λ t. stands i (length calls) t ≡ cond (eqb i t) 1 0 + stands_by up (length calls) t) (λ t less. stand (length calls) t i less lt (omega arith)) heads heads_within),
        )

    once_below : (k i : ℕ) → i < k → start ≤ i → i < start + size → count_by (is_of i) (all_steps calls grouping group_numbers start size) ≡ 1
    once_below zero i few low high = absurd (let e : ⊥ = omega (arith, few) in e)
    once_below (suc k) i few low high =
        all_stand i (omega (arith, high, closed.bound))
        ∙ ap (λ n. n + sum_by (λ t. stands_by (caller_within calls grouping i) (length calls) t) (thread_heads calls grouping start size)) (count_range i (λ k. is_none (caller_within calls grouping k)) start size low high)
        ∙ by (caller_within calls grouping i) refl (once_below k)
      where
        by : (o : Option ℕ) → caller_within calls grouping i ≡ o → ((c : ℕ) → c < k → start ≤ c → c < start + size → count_by (is_of c) (all_steps calls grouping group_numbers start size) ≡ 1)
            → cond (is_none o) 1 0 + sum_by (λ t. stands_by o (length calls) t) (thread_heads calls grouping start size) ≡ 1
        by None e rest = omega (arith, sum_none (thread_heads calls grouping start size))
        by (Some c) e rest =
            let up = caller_some (forks grouping i) (get_or (callers_of calls) i None) c e in
            let under : c < i = caller_before calls before c i up in
            omega (arith, count-flat (is_of c) (thread_steps calls grouping group_numbers) (thread_heads calls grouping start size), rest c (omega (arith, under, few)) (closed.callers i c low high up) (omega (arith, under, high)))

    pub stands_once : (i : ℕ) → start ≤ i → i < start + size → count_by (is_of i) (all_steps calls grouping group_numbers start size) ≡ 1
    stands_once i low high = once_below (suc i) i (omega arith) low high

    none_below : (k i : ℕ) → i < k → i < length calls → (start ≤ i → i < start + size → ⊥) → count_by (is_of i) (all_steps calls grouping group_numbers start size) ≡ 0
    none_below zero i few lt out = absurd (let e : ⊥ = omega (arith, few) in e)
    none_below (suc k) i few lt out =
        all_stand i lt
        ∙ ap (λ n. n + sum_by (λ t. stands_by (caller_within calls grouping i) (length calls) t) (thread_heads calls grouping start size)) (count_outside i (λ k. is_none (caller_within calls grouping k)) start size out)
        ∙ by (caller_within calls grouping i) refl (none_below k)
      where
        by : (o : Option ℕ) → caller_within calls grouping i ≡ o → ((c : ℕ) → c < k → c < length calls → (start ≤ c → c < start + size → ⊥) → count_by (is_of c) (all_steps calls grouping group_numbers start size) ≡ 0)
            → 0 + sum_by (λ t. stands_by o (length calls) t) (thread_heads calls grouping start size) ≡ 0
        by None e rest = omega (arith, sum_none (thread_heads calls grouping start size))
        by (Some c) e rest =
            let up = caller_some (forks grouping i) (get_or (callers_of calls) i None) c e in
            let under : c < i = caller_before calls before c i up in
            let gone : start ≤ c → c < start + size → ⊥ = λ low high. out (omega (arith, low, under)) (closed.called i c up low high) in
            omega (arith, count-flat (is_of c) (thread_steps calls grouping group_numbers) (thread_heads calls grouping start size), rest c (omega (arith, under, few)) (omega (arith, under, lt)) gone)

    pub none_outside : (i : ℕ) → i < length calls → (start ≤ i → i < start + size → ⊥) → count_by (is_of i) (all_steps calls grouping group_numbers start size) ≡ 0
    none_outside i lt out = none_below (suc i) i (omega arith) lt out

pub start_own : (i t : ℕ) → cond (is_start i (Starts t)) 1 0 + cond (is_start i (Ends t)) 1 0 ≡ cond (eqb i t) 1 0
start_own i t = omega arith

pub end_own : (i t : ℕ) → cond (is_end i (Starts t)) 1 0 + cond (is_end i (Ends t)) 1 0 ≡ cond (eqb i t) 1 0
end_own i t = omega arith

pub each_stands_once : EachStandsOnce
each_stands_once calls grouping group_numbers before start size closed i low high = (
  stands_once is_start start_own (λ i j. refl) (λ i j piece. refl) calls grouping group_numbers before start size closed i low high,
  stands_once is_end end_own (λ i j. refl) (λ i j piece. refl) calls grouping group_numbers before start size closed i low high,
)

pub no_other_stands : NoOtherStands
no_other_stands calls grouping group_numbers before start size closed i lt out = (
  none_outside is_start start_own (λ i j. refl) (λ i j piece. refl) calls grouping group_numbers before start size closed i lt out,
  none_outside is_end end_own (λ i j. refl) (λ i j piece. refl) calls grouping group_numbers before start size closed i lt out,
)

pub heads_stand_once : HeadsStandOnce
heads_stand_once calls grouping group_numbers before head less = (
  heads_once is_start start_own (λ i j. refl) (λ i j piece. refl) calls grouping group_numbers before head less,
  heads_once is_end end_own (λ i j. refl) (λ i j piece. refl) calls grouping group_numbers before head less,
)

pub calls_stand_with_callers : CallsStandWithCallers
calls_stand_with_callers calls grouping group_numbers before head i less lt other = (
  stands_with_caller is_start start_own (λ i j. refl) (λ i j piece. refl) calls grouping group_numbers before head i less lt other,
  stands_with_caller is_end end_own (λ i j. refl) (λ i j piece. refl) calls grouping group_numbers before head i less lt other,
)

-- a call starts as often as it ends
pub as_often : (calls : List Call) (grouping : Grouping) (group_numbers : List ℕ) → AreBefore calls → (k i head : ℕ) → i < k → i < length calls → head < length calls → count_by (is_start i) (thread_steps calls grouping group_numbers head) ≡ count_by (is_end i) (thread_steps calls grouping group_numbers head)
as_often calls grouping group_numbers before zero i head few lt less = absurd (let e : ⊥ = omega (arith, few) in e)
as_often calls grouping group_numbers before (suc k) i head few lt less = by (cases_eq i head) (as_often calls grouping group_numbers before k)
  where
    from : (o : Option ℕ) → caller_within calls grouping i ≡ o
        → ((c h : ℕ) → c < k → c < length calls → h < length calls → count_by (is_start c) (thread_steps calls grouping group_numbers h) ≡ count_by (is_end c) (thread_steps calls grouping group_numbers h))
        → count_of calls grouping group_numbers is_start o head ≡ count_of calls grouping group_numbers is_end o head
    from None e rest = refl
    from (Some c) e rest =
        let low : c < i = caller_before calls before c i (caller_some is_start start_own (λ i j. refl) (λ i j piece. refl) calls grouping group_numbers before (forks grouping i) (get_or (callers_of calls) i None) c e) in
        rest c head (omega (arith, low, few)) (omega (arith, low, lt)) less

    by : (i ≡ head) ⊎ (i ≡ head → ⊥)
        → ((c h : ℕ) → c < k → c < length calls → h < length calls → count_by (is_start c) (thread_steps calls grouping group_numbers h) ≡ count_by (is_end c) (thread_steps calls grouping group_numbers h))
        → count_by (is_start i) (thread_steps calls grouping group_numbers head) ≡ count_by (is_end i) (thread_steps calls grouping group_numbers head)
    by (inl same) rest =
        let both = heads_stand_once calls grouping group_numbers before head less in
        subst (λ j. count_by (is_start j) (thread_steps calls grouping group_numbers head) ≡ count_by (is_end j) (thread_steps calls grouping group_numbers head)) (sym same) (both.0 ∙ sym both.1)
    by (inr other) rest =
        let both = calls_stand_with_callers calls grouping group_numbers before head i less lt other in
        both.0 ∙ from (caller_within calls grouping i) refl rest ∙ sym both.1
