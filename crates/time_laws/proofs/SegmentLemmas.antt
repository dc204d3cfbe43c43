-- The segments of a thread are the own time of its calls.
use Rattle.std.proofs.Common.{◌≡◌, ℕ, zero, suc, ◌+◌, ◌-◌, ◌*◌, ◌<◌, ◌≤◌, List, [], ◌∷◌, ◌++◌, ◌&&◌, All, Bool, true, false, cond, eqb, max, nat_le, nat_lt, not, Some, None, length, get_or, refl, sym, ap, ◌∙◌, arith, append_assoc}
use Rattle.std.proofs.Math.Nat.{add-mul, one-mul, zero-mul}
use Rattle.std.specs.List.{count_by, flat_map, list_any, range_with_len, sum_by}
use Rattle.std.specs.Prelude.{is_none}
use Rattle.std.proofs.lemmas.Bool.{and_parts, false≢true}
use Rattle.std.proofs.lemmas.List.Elements.{All-cons, All-filter, All-from_get_or, All-get_or, All-head, All-nil, All-tail, All-weaker}
use Rattle.std.proofs.lemmas.List.Sums.{sum_by-append, sum_by-cons}
use Rattle.span_calls.specs.Calls.{AreBefore}
use Rattle.span_calls.specs.declared.call.Call.{Call}
use Rattle.span_calls.proofs.PairLemmas.{pairs_listed}
use Rattle.context_forks.specs.Forks.{callers_of, calls_below}
use Rattle.context_forks.specs.Partners.{end_of, last_after, start_of}
use Rattle.thread_steps.specs.Parts.{Grouping, cut_from, fork_together, forks, group_of, parts_of}
use Rattle.thread_steps.specs.Steps.{gone_into, own_steps, piece_after, steps_over, steps_within}
use Rattle.thread_steps.specs.ThreadLaws.{AreClosed, all_steps, caller_within, is_start, thread_heads, thread_steps}
use Rattle.thread_steps.specs.declared.step.Step.{Step}
use Rattle.thread_steps.specs.declared.step.Step.TheVariants.{Starts, Ends, Forks, Joins}
use Rattle.thread_steps.proofs.CountLemmas.{range_none, sum_add, sum_same, sum_zero}
use Rattle.thread_steps.proofs.CutLemmas.{parts_within}
use Rattle.thread_steps.proofs.GapLemmas.{count-cons}
use Rattle.thread_steps.proofs.JoinLemmas.{by_calls, starts, sum_all, total_by_calls}
use Rattle.thread_steps.proofs.LawLemmas.{count-flat, each_stands_once, no_other_stands, steps_weigh}
use Rattle.thread_steps.proofs.TableLemmas.{below_behind, below_called, range_within}
use Rattle.time_laws.specs.OwnTimes.{AreNested, SegmentsAreOwnTime, all_segments, is_within, runs, runs_itself, segments_behind, segments_of, step_time}
use Rattle.time_laws.proofs.LaidLemmas.{Apart, Laid, Rise, concat_parts, gaps, gaps_laid, inside, parts_laid}

-- a part of a call that is not forked has no other call
abbrev pub IsSingle : Grouping → List ℕ → Type 0
IsSingle grouping [] = ⊥
IsSingle grouping (i ∷ more) = forks grouping i ≡ false → more ≡ []

module _ (calls : List Call) (grouping : Grouping) where
  cut_single : (first : ℕ) (more : List ℕ) (end : ℕ) (later : List ℕ) → IsSingle grouping (first ∷ more) → All (IsSingle grouping) (cut_from calls grouping first (first ∷ more) end later)
  cut_single first more end [] h = All-cons (IsSingle grouping) (first ∷ more) [] h (All-nil (IsSingle grouping))
  cut_single first more end (i ∷ later) h =
      by (fork_together grouping first i && nat_lt (start_of calls i) end) refl
      (λ single. cut_single first (more ++ i ∷ []) (max end (end_of calls i)) later single)
      (cut_single i [] (end_of calls i) later (λ plain. refl))
    where
      clash : (fork_together grouping first i && nat_lt (start_of calls i) end) ≡ true → forks grouping first ≡ false → more ++ i ∷ [] ≡ []
      clash on plain =
          let together = (and_parts (fork_together grouping first i) (nat_lt (start_of calls i) end) on).0 in
          let forked = (and_parts (forks grouping first) (forks grouping i && eqb (group_of grouping first) (group_of grouping i)) together).0 in
          absurd (false≢true (sym plain ∙ forked))

      by : (b : Bool) → (fork_together grouping first i && nat_lt (start_of calls i) end) ≡ b
          → (IsSingle grouping (first ∷ (more ++ i ∷ [])) → All (IsSingle grouping) (cut_from calls grouping first (first ∷ (more ++ i ∷ [])) (max end (end_of calls i)) later))
          → All (IsSingle grouping) (cut_from calls grouping i (i ∷ []) (end_of calls i) later)
          → All (IsSingle grouping) (cond b (cut_from calls grouping first ((first ∷ more) ++ i ∷ []) (max end (end_of calls i)) later) ((first ∷ more) ∷ cut_from calls grouping i (i ∷ []) (end_of calls i) later))
      by true e on off = on (clash e)
      by false e on off = All-cons (IsSingle grouping) (first ∷ more) (cut_from calls grouping i (i ∷ []) (end_of calls i) later) h off

  pub parts_single : (below : List ℕ) → All (IsSingle grouping) (parts_of calls grouping below)
  parts_single [] = All-nil (IsSingle grouping)
  parts_single (i ∷ later) = cut_single i [] (end_of calls i) later (λ plain. refl)

-- ranges

range_split : (a m n : ℕ) → range_with_len a (m + n) ≡ range_with_len a m ++ range_with_len (a + m) n
range_split a zero n = ap (range_with_len a) (let e : 0 + n ≡ n = omega arith in e) ∙ ap (λ b. range_with_len b n) (let e : a ≡ a + 0 = omega arith in e)
range_split a (suc m) n =
    ap (range_with_len a) (let e : suc m + n ≡ suc (m + n) = omega arith in e)
    ∙ ap (λ (xs : List ℕ). a ∷ xs) (range_split (a + 1) m n ∙ ap (λ b. range_with_len (a + 1) m ++ range_with_len b n) (let e : a + 1 + m ≡ a + suc m = omega arith in e))

range_same : (f g : ℕ → ℕ) (a n : ℕ) → ((c : ℕ) → a ≤ c → c < a + n → f c ≡ g c) → sum_by f (range_with_len a n) ≡ sum_by g (range_with_len a n)
range_same f g a zero h = refl
range_same f g a (suc n) h =
    omega (arith, sum_by-cons f a (range_with_len (a + 1) n), sum_by-cons g a (range_with_len (a + 1) n), h a (omega arith) (omega arith), range_same f g (a + 1) n (λ c low high. h c (omega (arith, low)) (omega (arith, high))))

-- of all numbers those of a range count once, and no other does
in_range : (k w : ℕ → ℕ) (start size count : ℕ) → start + size ≤ count → ((c : ℕ) → start ≤ c → c < start + size → k c ≡ 1) → ((c : ℕ) → c < count → (start ≤ c → c < start + size → ⊥) → k c ≡ 0) → sum_by (λ c. k c * w c) (range_with_len 0 count) ≡ sum_by w (range_with_len start size)
in_range k w start size count le one none =
    let f : ℕ → ℕ = λ c. k c * w c in
    let rest : ℕ = count - (start + size) in
    ap (λ n. sum_by (λ c. k c * w c) (range_with_len 0 n)) (let e : count ≡ start + (size + rest) = omega (arith, le) in e)
    ∙ ap (sum_by (λ c. k c * w c)) (range_split 0 start (size + rest))
    ∙ sum_by-append (λ c. k c * w c) (range_with_len 0 start) (range_with_len (0 + start) (size + rest))
    ∙ ap (λ n. n + sum_by (λ c. k c * w c) (range_with_len (0 + start) (size + rest))) (range_none (λ c. k c * w c) 0 start (λ c low high. ap (λ n. n * w c) (none c (omega (arith, high, le)) (λ more less. let gone : ⊥ = omega (arith, more, high) in gone)) ∙ zero-mul (w c)))
    ∙ ap (λ b. 0 + sum_by (λ c. k c * w c) (range_with_len b (size + rest))) (let e : 0 + start ≡ start = omega arith in e)
    ∙ ap (λ (xs : List ℕ). 0 + sum_by (λ c. k c * w c) xs) (range_split start size rest)
    ∙ ap (λ n. 0 + n) (sum_by-append (λ c. k c * w c) (range_with_len start size) (range_with_len (start + size) rest))
    ∙ ap (λ n. 0 + (sum_by (λ c. k c * w c) (range_with_len start size) + n)) (range_none (λ c. k c * w c) (start + size) rest (λ c low high. ap (λ n. n * w c) (none c (omega (arith, high, le)) (λ more less. let gone : ⊥ = omega (arith, less, low) in gone)) ∙ zero-mul (w c)))
    ∙ ap (λ n. 0 + (n + 0)) (range_same (λ c. k c * w c) w start size (λ c low high. ap (λ n. n * w c) (one c low high) ∙ one-mul (w c)))
    ∙ (let e : 0 + (sum_by w (range_with_len start size) + 0) ≡ sum_by w (range_with_len start size) = omega arith in e)

module _ (calls : List Call) (at : ℕ) where
  -- how many segments behind a step have the instant
  abbrev pub count_behind : Step → List Step → ℕ
  count_behind s steps = count_by (is_within calls at) (segments_behind s steps)

  -- the segment to a step has it
  abbrev pub one_to : Step → Step → ℕ
  one_to s (Starts i) = cond (nat_le (step_time calls s) at && nat_lt at (start_of calls i)) 1 0
  one_to s (Ends i) = cond (nat_le (step_time calls s) at && nat_lt at (end_of calls i)) 1 0
  one_to s (Forks i) = cond (nat_le (step_time calls s) at && nat_lt at (start_of calls i)) 1 0
  one_to s (Joins i piece) = 0

  behind_step : (s t : Step) (later : List Step) → count_behind s (t ∷ later) ≡ one_to s t + count_behind t later
  behind_step s (Starts i) later = count-cons (is_within calls at) (s, Starts i) (segments_behind (Starts i) later)
  behind_step s (Ends i) later = count-cons (is_within calls at) (s, Ends i) (segments_behind (Ends i) later)
  behind_step s (Forks i) later = count-cons (is_within calls at) (s, Forks i) (segments_behind (Forks i) later)
  behind_step s (Joins i piece) later = let e : count_behind (Joins i piece) later ≡ 0 + count_behind (Joins i piece) later = omega arith in e

  -- what comes behind an end
  behind_end : (s : Step) (inner : List Step) (i : ℕ) (later : List Step) → count_behind s ((inner ++ Ends i ∷ []) ++ later) ≡ count_behind s (inner ++ Ends i ∷ []) + count_behind (Ends i) later
  behind_end s [] i later = omega (arith, behind_step s (Ends i) later, behind_step s (Ends i) [])
  behind_end s (t ∷ inner) i later = omega (arith, behind_step s t ((inner ++ Ends i ∷ []) ++ later), behind_step s t (inner ++ Ends i ∷ []), behind_end t inner i later)

  module _ (grouping : Grouping) (group_numbers : List ℕ) (within : ℕ → List Step) (total : ℕ → ℕ) where
    -- what a step weighs: a call that starts, all that is within it
    abbrev pub weight : Step → ℕ
    weight (Starts j) = total j
    weight (Ends j) = 0
    weight (Forks j) = 0
    weight (Joins j piece) = 0

    module _ (P : ℕ → Type 0) (told : (j : ℕ) → P j → (inner : List Step) × (within j ≡ Starts j ∷ (inner ++ Ends j ∷ [])) × (total j ≡ count_behind (Starts j) (inner ++ Ends j ∷ []))) where
      pub over_parts : (s : Step) (c : ℕ) (before parts : List (List ℕ)) → All (IsSingle grouping) parts → All (All P) parts
          → count_behind s (flat_map (gone_into within) (steps_over calls grouping group_numbers before parts) ++ Ends c ∷ [])
          ≡ gaps calls grouping at (step_time calls s) (end_of calls c) parts + sum_by weight (steps_over calls grouping group_numbers before parts)
      over_parts s c before [] single all = omega (arith, behind_step s (Ends c) [])
      over_parts s c before ([] ∷ later) single all = absurd (All-head (IsSingle grouping) [] later single)
      over_parts s c before ((i ∷ more) ∷ later) single all =
          by (forks grouping i) refl
          (λ p. over_parts (Joins (last_after calls i more) p) c (before ++ (i ∷ more) ∷ []) later (All-tail (IsSingle grouping) (i ∷ more) later single) (All-tail (All P) (i ∷ more) later all))
          (over_parts (Ends i) c (before ++ (i ∷ more) ∷ []) later (All-tail (IsSingle grouping) (i ∷ more) later single) (All-tail (All P) (i ∷ more) later all))
        where
          rest : List Step
          rest = steps_over calls grouping group_numbers (before ++ (i ∷ more) ∷ []) later

          by : (b : Bool) → forks grouping i ≡ b
              → ((p : _) → count_behind (Joins (last_after calls i more) p) (flat_map (gone_into within) (steps_over calls grouping group_numbers (before ++ (i ∷ more) ∷ []) later) ++ Ends c ∷ [])
              ≡ gaps calls grouping at (end_of calls (last_after calls i more)) (end_of calls c) later + sum_by weight (steps_over calls grouping group_numbers (before ++ (i ∷ more) ∷ []) later))
              → (count_behind (Ends i) (flat_map (gone_into within) (steps_over calls grouping group_numbers (before ++ (i ∷ more) ∷ []) later) ++ Ends c ∷ [])
              ≡ gaps calls grouping at (end_of calls i) (end_of calls c) later + sum_by weight (steps_over calls grouping group_numbers (before ++ (i ∷ more) ∷ []) later))
              → count_behind s (flat_map (gone_into within) (cond b (Forks i ∷ Joins (last_after calls i more) (piece_after calls grouping group_numbers before later i) ∷ []) (Starts i ∷ []) ++ steps_over calls grouping group_numbers (before ++ (i ∷ more) ∷ []) later) ++ Ends c ∷ [])
              ≡ cond (inside calls grouping at (step_time calls s) (start_of calls i)) 1 0 + gaps calls grouping at (end_of calls (last_after calls i more)) (end_of calls c) later
              + sum_by weight (cond b (Forks i ∷ Joins (last_after calls i more) (piece_after calls grouping group_numbers before later i) ∷ []) (Starts i ∷ []) ++ steps_over calls grouping group_numbers (before ++ (i ∷ more) ∷ []) later)
          by true forked joined ended =
              let p = piece_after calls grouping group_numbers before later i in
              let steps = steps_over calls grouping group_numbers (before ++ (i ∷ more) ∷ []) later in
              let inner = flat_map (gone_into within) steps ++ Ends c ∷ [] in
              omega (
                arith,
                behind_step s (Forks i) (Joins (last_after calls i more) p ∷ inner),
                behind_step (Forks i) (Joins (last_after calls i more) p) inner,
                joined p,
                sum_by-cons weight (Forks i) (Joins (last_after calls i more) p ∷ steps),
                sum_by-cons weight (Joins (last_after calls i more) p) steps,
              )
          by false plain joined ended =
              let child = told i (All-head P i more (All-head (All P) (i ∷ more) later all)) in
              let steps = steps_over calls grouping group_numbers (before ++ (i ∷ more) ∷ []) later in
              let inner = flat_map (gone_into within) steps ++ Ends c ∷ [] in
              let alone : last_after calls i more ≡ i = ap (last_after calls i) (All-head (IsSingle grouping) (i ∷ more) later single plain) in
              omega (
                arith,
                ap (count_behind s) (append_assoc (within i) (flat_map (gone_into within) steps) (Ends c ∷ []) ∙ ap (λ (ss : List Step). ss ++ inner) child.1),
                behind_step s (Starts i) ((child.0 ++ Ends i ∷ []) ++ inner),
                behind_end (Starts i) child.0 i inner,
                child.2,
                ended,
                ap (λ l. gaps calls grouping at (end_of calls l) (end_of calls c) later) alone,
                sum_by-cons weight (Starts i) steps,
              )

module _ (calls : List Call) (grouping : Grouping) (group_numbers : List ℕ) (before : AreBefore calls) (nested : AreNested calls grouping) (at : ℕ) where
  abbrev under : ℕ → List ℕ
  under t = get_or (calls_below calls) t []

  -- how many segments of a thread so deep have the instant, and whether a call runs itself then
  abbrev total : ℕ → ℕ → ℕ
  total n t = count_by (is_within calls at) (segments_of (steps_within calls (calls_below calls) grouping group_numbers n t))

  abbrev own : ℕ → ℕ
  own t = cond (runs_itself calls at t) 1 0

  whole : (n j : ℕ) → j < length calls → length calls ≤ n + j → (inner : List Step) × (steps_within calls (calls_below calls) grouping group_numbers n j ≡ Starts j ∷ (inner ++ Ends j ∷ [])) × (total n j ≡ count_behind calls at (Starts j) (inner ++ Ends j ∷ []))
  whole zero j lt le = absurd (let e : ⊥ = omega (arith, lt, le) in e)
  whole (suc n) j lt le = (flat_map (gone_into (steps_within calls (calls_below calls) grouping group_numbers n)) (own_steps calls grouping group_numbers (under j)), refl, refl)

  laid : (t : ℕ) → t < length calls → Laid calls grouping at (start_of calls t) (end_of calls t) (parts_of calls grouping (under t))
  laid t lt =
      parts_laid calls grouping at (end_of calls t) (start_of calls t) (under t) (nested.ends t lt)
      (All-weaker (λ j. get_or (callers_of calls) j None ≡ Some t) (λ j. start_of calls t ≤ start_of calls j) (λ j h. (nested.within j t h).0) (under t) (below_called calls t lt))
      (All-from_get_or (λ j. (start_of calls j ≤ end_of calls j) × (end_of calls j ≤ end_of calls t)) (under t) 0 (λ k small.
      let j = get_or (under t) k 0 in (
        nested.ends j (All-get_or (λ j. (t < j) × (j < length calls)) (under t) k 0 small (below_behind calls (calls_below calls) before refl t lt)).1,
        (nested.within j t (All-get_or (λ j. get_or (callers_of calls) j None ≡ Some t) (under t) k 0 small (below_called calls t lt))).1,
      )))
      (pairs_listed (Rise calls grouping at) (under t) (nested.rise t lt))
      (pairs_listed (Apart calls grouping at) (under t) (nested.apart t lt))

  next : (n t : ℕ) → t < length calls → length calls ≤ suc n + t → total (suc n) t ≡ own t + sum_by (λ j. cond (forks grouping j) 0 (total n j)) (under t)
  next n t lt le =
      over_parts calls at grouping group_numbers (steps_within calls (calls_below calls) grouping group_numbers n) (total n) (λ j. (t < j) × (j < length calls)) (λ j both. whole n j both.1 (omega (arith, both.0, le)))
      (Starts t) t [] (parts_of calls grouping (under t)) (parts_single calls grouping (under t)) (parts_within calls grouping (λ j. (t < j) × (j < length calls)) (under t) (below_behind calls (calls_below calls) before refl t lt))
      ∙ ap (λ m. m + sum_by (weight calls at grouping group_numbers (steps_within calls (calls_below calls) grouping group_numbers n) (total n)) (own_steps calls grouping group_numbers (under t)))
      (gaps_laid calls grouping at (start_of calls t) (end_of calls t) (parts_of calls grouping (under t)) (laid t lt)
      ∙ ap (λ (xs : List ℕ). cond {A = ℕ} (inside calls grouping at (start_of calls t) (end_of calls t) && not (list_any (runs calls at) xs)) 1 0) (concat_parts calls grouping at (under t)))
      ∙ ap (λ m. own t + m) (steps_weigh calls grouping group_numbers (weight calls at grouping group_numbers (steps_within calls (calls_below calls) grouping group_numbers n) (total n)) (λ j. refl) (λ j piece. refl) (under t))

  heads_swap : (hs : List ℕ) → sum_by (λ h. by_calls calls grouping group_numbers before own (length calls) h) hs ≡ sum_by (λ c. sum_by (λ h. starts calls grouping group_numbers before own c (length calls) h) hs * own c) (range_with_len 0 (length calls))
  heads_swap [] = sym (sum_zero (λ c. 0 * own c) (range_with_len 0 (length calls)) (λ c. zero-mul (own c)))
  heads_swap (x ∷ hs) =
      sum_by-cons (λ h. by_calls calls grouping group_numbers before own (length calls) h) x hs
      ∙ ap (λ m. by_calls calls grouping group_numbers before own (length calls) x + m) (heads_swap hs)
      ∙ sym (sum_add (λ c. sum_by (λ h. starts calls grouping group_numbers before own c (length calls) h) (x ∷ hs) * own c) (λ c. starts calls grouping group_numbers before own c (length calls) x * own c) (λ c. sum_by (λ h. starts calls grouping group_numbers before own c (length calls) h) hs * own c) (range_with_len 0 (length calls))
      (λ c. ap (λ m. m * own c) (sum_by-cons (λ h. starts calls grouping group_numbers before own c (length calls) h) x hs) ∙ add-mul (starts calls grouping group_numbers before own c (length calls) x) (sum_by (λ h. starts calls grouping group_numbers before own c (length calls) h) hs) (own c)))

  module _ (start size : ℕ) (closed : AreClosed calls start size) where
    heads : List ℕ
    heads = thread_heads calls grouping start size

    heads_within : All (λ t. t < length calls) (thread_heads calls grouping start size)
    heads_within = All-filter (λ i. is_none (caller_within calls grouping i)) (λ t. t < length calls) (range_with_len start size) (All-weaker (λ t. t < start + size) (λ t. t < length calls) (λ t lt. omega (arith, lt, closed.bound)) (range_with_len start size) (range_within start size))

    pub all_own : count_by (is_within calls at) (all_segments calls grouping group_numbers start size) ≡ count_by (runs_itself calls at) (range_with_len start size)
    all_own =
        count-flat (is_within calls at) (λ head. segments_of (thread_steps calls grouping group_numbers head)) (thread_heads calls grouping start size)
        ∙ sum_all (λ h. total (length calls) h) (λ h. by_calls calls grouping group_numbers before own (length calls) h) (thread_heads calls grouping start size)
        (All-weaker (λ t. t < length calls) (λ h. total (length calls) h ≡ by_calls calls grouping group_numbers before own (length calls) h) (λ h lt. total_by_calls calls grouping group_numbers before own total next (length calls) h lt (omega arith)) (thread_heads calls grouping start size) heads_within)
        ∙ heads_swap (thread_heads calls grouping start size)
        ∙ sum_same (λ c. sum_by (λ h. starts calls grouping group_numbers before own c (length calls) h) (thread_heads calls grouping start size) * own c) (λ c. count_by (is_start c) (all_steps calls grouping group_numbers start size) * own c) (range_with_len 0 (length calls))
        (λ c. ap (λ m. m * own c) (sym (count-flat (is_start c) (thread_steps calls grouping group_numbers) (thread_heads calls grouping start size))))
        ∙ in_range (λ c. count_by (is_start c) (all_steps calls grouping group_numbers start size)) own start size (length calls) closed.bound
        (λ c low high. (each_stands_once calls grouping group_numbers before start size closed c low high).0)
        (λ c lt out. (no_other_stands calls grouping group_numbers before start size closed c lt out).0)

pub segments_are_own_time : SegmentsAreOwnTime
segments_are_own_time calls grouping group_numbers before nested start size closed at = all_own calls grouping group_numbers before nested at start size closed
