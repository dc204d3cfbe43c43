-- In a thread each piece is joined once at most.
use Rattle.std.proofs.Common.{◌≡◌, ◌⊎◌, inl, inr, ℕ, zero, suc, ◌+◌, ◌*◌, ◌<◌, ◌≤◌, List, [], ◌∷◌, ◌++◌, All, Bool, true, false, cond, eqb, Some, None, length, get_or, refl, sym, ap, ◌∙◌, arith}
use Rattle.std.proofs.Math.Nat.{add-mul, zero-mul}
use Rattle.std.specs.List.{count_by, flat_map, range_with_len, sum_by}
use Rattle.std.proofs.lemmas.Bool.{cases_lt}
use Rattle.std.proofs.lemmas.List.Elements.{All-head, All-tail, All-weaker}
use Rattle.std.proofs.lemmas.List.Sums.{sum_by-cons, sum_by_push}
use Rattle.span_calls.specs.Calls.{AreBefore}
use Rattle.span_calls.specs.declared.call.Call.{Call}
use Rattle.span_names.specs.declared.piece.Piece.{Piece}
use Rattle.context_forks.specs.Forks.{callers_of, calls_below}
use Rattle.thread_steps.specs.Parts.{Grouping, forks, parts_of}
use Rattle.thread_steps.specs.StepKeys.{AreToldApart}
use Rattle.thread_steps.specs.Steps.{gone_into, own_steps, steps_within}
use Rattle.thread_steps.specs.ThreadCalls.{Stands}
use Rattle.thread_steps.specs.ThreadLaws.{is_start, thread_steps}
use Rattle.thread_steps.specs.declared.step.Step.{Step}
use Rattle.thread_steps.specs.declared.step.Step.TheVariants.{Starts, Ends, Forks, Joins}
use Rattle.thread_steps.proofs.CountLemmas.{left_some, product_small, range_one, range_pick, right_some, sum_add, sum_zero}
use Rattle.thread_steps.proofs.CutLemmas.{parts_within}
use Rattle.thread_steps.proofs.GapLemmas.{count-cons}
use Rattle.thread_steps.proofs.LawLemmas.{count-flat, once_at_most, stands_suc, start_own, steps_weigh}
use Rattle.thread_steps.proofs.PieceLemmas.{is_join, joined_by, joined_once}
use Rattle.thread_steps.proofs.TableLemmas.{below_behind, below_called}

pub sum_all : {X : Type 0} (f g : X → ℕ) (xs : List X) → All (λ x. f x ≡ g x) xs → sum_by f xs ≡ sum_by g xs
sum_all f g [] h = refl
sum_all f g (x ∷ xs) h = omega (arith, sum_by-cons f x xs, sum_by-cons g x xs, All-head (λ x. f x ≡ g x) x xs h, sum_all f g xs (All-tail (λ x. f x ≡ g x) x xs h))

-- what calls weigh that start in threads

module _ (calls : List Call) (grouping : Grouping) (group_numbers : List ℕ) (before : AreBefore calls) (weigh : ℕ → ℕ) where
  -- how often a call starts in a thread so deep
  abbrev pub starts : ℕ → ℕ → ℕ → ℕ
  starts c n t = count_by (is_start c) (steps_within calls (calls_below calls) grouping group_numbers n t)

  abbrev under : ℕ → List ℕ
  under t = get_or (calls_below calls) t []

  -- what all calls weigh together that start in it
  abbrev pub by_calls : ℕ → ℕ → ℕ
  by_calls n t = sum_by (λ c. starts c n t * weigh c) (range_with_len 0 (length calls))

  swap : (n : ℕ) (xs : List ℕ) → sum_by (λ c. sum_by (λ j. cond (forks grouping j) 0 (starts c n j)) xs * weigh c) (range_with_len 0 (length calls)) ≡ sum_by (λ j. cond (forks grouping j) 0 (by_calls n j)) xs
  swap n [] = sum_zero (λ c. 0 * weigh c) (range_with_len 0 (length calls)) (λ c. zero-mul (weigh c))
  swap n (x ∷ xs) =
      sum_add (λ c. sum_by (λ j. cond (forks grouping j) 0 (starts c n j)) (x ∷ xs) * weigh c) (λ c. cond (forks grouping x) 0 (starts c n x) * weigh c) (λ c. sum_by (λ j. cond (forks grouping j) 0 (starts c n j)) xs * weigh c) (range_with_len 0 (length calls))
      (λ c. ap (λ m. m * weigh c) (sum_by-cons (λ j. cond (forks grouping j) 0 (starts c n j)) x xs) ∙ add-mul (cond (forks grouping x) 0 (starts c n x)) (sum_by (λ j. cond (forks grouping j) 0 (starts c n j)) xs) (weigh c))
      ∙ ap (λ m. sum_by (λ c. cond (forks grouping x) 0 (starts c n x) * weigh c) (range_with_len 0 (length calls)) + m) (swap n xs)
      ∙ ap (λ m. m + sum_by (λ j. cond (forks grouping j) 0 (by_calls n j)) xs) (by (forks grouping x))
      ∙ sym (sum_by-cons (λ j. cond (forks grouping j) 0 (by_calls n j)) x xs)
    where
      by : (b : Bool) → sum_by (λ c. cond b 0 (starts c n x) * weigh c) (range_with_len 0 (length calls)) ≡ cond b 0 (by_calls n x)
      by true = sum_zero (λ c. 0 * weigh c) (range_with_len 0 (length calls)) (λ c. zero-mul (weigh c))
      by false = refl

  -- what is so for each call and those that it goes into is so for a thread
  module _ (total : ℕ → ℕ → ℕ) (next : (n t : ℕ) → t < length calls → length calls ≤ suc n + t → total (suc n) t ≡ weigh t + sum_by (λ j. cond (forks grouping j) 0 (total n j)) (under t)) where
    pub total_by_calls : (n t : ℕ) → t < length calls → length calls ≤ n + t → total n t ≡ by_calls n t
    total_by_calls zero t lt le = absurd (let e : ⊥ = omega (arith, lt, le) in e)
    total_by_calls (suc n) t lt le =
        next n t lt le
        ∙ ap (λ m. weigh t + m) (sum_all (λ j. cond (forks grouping j) 0 (total n j)) (λ j. cond (forks grouping j) 0 (by_calls n j)) (under t)
        (All-weaker (λ j. (t < j) × (j < length calls)) (λ j. cond (forks grouping j) 0 (total n j) ≡ cond (forks grouping j) 0 (by_calls n j)) (λ j both. ap (cond (forks grouping j) 0) (total_by_calls n j both.1 (omega (arith, both.0, le)))) (under t) (below_behind calls (calls_below calls) before refl t lt)))
        ∙ ap (λ m. m + sum_by (λ j. cond (forks grouping j) 0 (by_calls n j)) (under t)) (sym (range_pick weigh t 0 (length calls) (omega arith) (omega (arith, lt))))
        ∙ ap (λ m. sum_by (λ c. cond (eqb c t) 1 0 * weigh c) (range_with_len 0 (length calls)) + m) (sym (swap n (under t)))
        ∙ sym (sum_add (λ c. starts c (suc n) t * weigh c) (λ c. cond (eqb c t) 1 0 * weigh c) (λ c. sum_by (λ j. cond (forks grouping j) 0 (starts c n j)) (under t) * weigh c) (range_with_len 0 (length calls))
        (λ c. ap (λ m. m * weigh c) (stands_suc is_start start_own (λ i j. refl) (λ i j piece. refl) calls grouping group_numbers before c n t)
        ∙ add-mul (cond (eqb c t) 1 0) (sum_by (λ j. cond (forks grouping j) 0 (starts c n j)) (under t)) (weigh c)))

module _ (calls : List Call) (grouping : Grouping) (group_numbers : List ℕ) (before : AreBefore calls) (p : Piece) where
  -- the steps of a thread so deep
  abbrev deep : ℕ → ℕ → List Step
  deep n t = steps_within calls (calls_below calls) grouping group_numbers n t

  abbrev below : ℕ → List ℕ
  below t = get_or (calls_below calls) t []

  -- how often the piece is joined in it, and by a call itself
  abbrev joins : ℕ → ℕ → ℕ
  joins n t = count_by (is_join p) (deep n t)

  abbrev own_joins : ℕ → ℕ
  own_joins t = count_by (is_join p) (own_steps calls grouping group_numbers (below t))

  through : ℕ → Step → ℕ
  through n (Starts j) = joins n j
  through n (Ends j) = 0
  through n (Forks j) = 0
  through n (Joins j piece) = 0

  joins_suc : (n t : ℕ) → joins (suc n) t ≡ own_joins t + sum_by (λ j. cond (forks grouping j) 0 (joins n j)) (below t)
  unfolding through
  joins_suc n t =
      let steps = own_steps calls grouping group_numbers (below t) in
      let inner = flat_map (gone_into (deep n)) steps in
      omega (
        arith,
        count-cons (is_join p) (Starts t) (inner ++ Ends t ∷ []),
        sum_by_push (λ s. cond (is_join p s) 1 0) inner (Ends t),
        count-flat (is_join p) (gone_into (deep n)) steps,
        sum_add (λ s. count_by (is_join p) (gone_into (deep n) s)) (through n) (λ s. cond (is_join p s) 1 0) steps each,
        steps_weigh calls grouping group_numbers (through n) (λ j. refl) (λ j piece. refl) (below t),
      )
    where
      each : (s : Step) → count_by (is_join p) (gone_into (deep n) s) ≡ through n s + cond (is_join p s) 1 0
      each (Starts j) = let e : joins n j ≡ joins n j + 0 = omega arith in e
      each (Ends j) = omega (arith, count-cons (is_join p) (Ends j) [])
      each (Forks j) = omega (arith, count-cons (is_join p) (Forks j) [])
      each (Joins j piece) = omega (arith, count-cons (is_join p) (Joins j piece) [])

  module _ (head : ℕ) (less : head < length calls) (told : AreToldApart calls grouping group_numbers head) where
    all_called : (c : ℕ) → c < length calls → All (All (λ j. get_or (callers_of calls) j None ≡ Some c)) (parts_of calls grouping (below c))
    all_called c lt = parts_within calls grouping (λ j. get_or (callers_of calls) j None ≡ Some c) (below c) (below_called calls c lt)

    own_few : (c : ℕ) → c < length calls → Stands calls grouping group_numbers head c → own_joins c ≤ 1
    own_few c lt stands =
        joined_once calls grouping group_numbers p (λ j. get_or (callers_of calls) j None ≡ Some c)
        (λ i j ci cj fi fj same. told.groups i j c c stands stands (fi, ci) (fj, cj) same)
        [] (parts_of calls grouping (below c)) (all_called c lt)

    small : (c : ℕ) → c < 0 + length calls → starts calls grouping group_numbers before own_joins c (length calls) head * own_joins c ≤ 1
    small c lt = by (cases_lt 0 (starts calls grouping group_numbers before own_joins c (length calls) head))
      where
        within : c < length calls
        within = omega (arith, lt)

        by : (0 < starts calls grouping group_numbers before own_joins c (length calls) head) ⊎ (starts calls grouping group_numbers before own_joins c (length calls) head ≤ 0) → starts calls grouping group_numbers before own_joins c (length calls) head * own_joins c ≤ 1
        by (inl some) = product_small (starts calls grouping group_numbers before own_joins c (length calls) head) (own_joins c) (once_at_most is_start start_own (λ i j. refl) (λ i j piece. refl) calls grouping group_numbers before c head within less) (own_few c within some)
        by (inr none) = omega (arith, ap (λ m. m * own_joins c) (let e : starts calls grouping group_numbers before own_joins c (length calls) head ≡ 0 = omega (arith, none) in e), zero-mul (own_joins c))

    one : (c d : ℕ) → c < 0 + length calls → d < 0 + length calls → 0 < starts calls grouping group_numbers before own_joins c (length calls) head * own_joins c → 0 < starts calls grouping group_numbers before own_joins d (length calls) head * own_joins d → c ≡ d
    one c d lt low some other =
        let first = joined_by calls grouping group_numbers p (λ j. get_or (callers_of calls) j None ≡ Some c) [] (parts_of calls grouping (below c)) (all_called c (omega (arith, lt))) (right_some (starts calls grouping group_numbers before own_joins c (length calls) head) (own_joins c) some) in
        let second = joined_by calls grouping group_numbers p (λ j. get_or (callers_of calls) j None ≡ Some d) [] (parts_of calls grouping (below d)) (all_called d (omega (arith, low))) (right_some (starts calls grouping group_numbers before own_joins d (length calls) head) (own_joins d) other) in
        let sc = left_some (starts calls grouping group_numbers before own_joins c (length calls) head) (own_joins c) some in
        let sd = left_some (starts calls grouping group_numbers before own_joins d (length calls) head) (own_joins d) other in
        let same = told.groups first.0 second.0 c d sc sd (first.2, first.1) (second.2, second.1) (first.3 ∙ sym second.3) in
        told.contexts c d sc sd (told.callers first.0 second.0 c d (first.2, first.1) (second.2, second.1) same)

    pub joined_at_most_once : count_by (is_join p) (thread_steps calls grouping group_numbers head) ≤ 1
    joined_at_most_once = omega (arith, total_by_calls calls grouping group_numbers before own_joins joins (λ n t lt le. joins_suc n t) (length calls) head less (omega arith), range_one (λ c. starts calls grouping group_numbers before own_joins c (length calls) head * own_joins c) 0 (length calls) small one)
