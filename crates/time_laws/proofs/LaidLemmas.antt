-- The parts of the calls of one caller lie one after another in time.
use Rattle.std.proofs.Common.{◌≡◌, ◌⊎◌, inl, inr, ℕ, ◌+◌, ◌<◌, ◌≤◌, List, [], ◌∷◌, ◌++◌, ◌&&◌, ◌||◌, All, Bool, true, false, cond, eqb, max, nat_le, nat_lt, not, refl, sym, ap, ◌∙◌, subst, arith, append_assoc}
use Rattle.std.specs.List.{flat_map, list_any}
use Rattle.std.proofs.lemmas.Bool.{and_left, and_parts, and_right, cases_lt, eqb-true, le-leb, le-ltb, lt-leb, lt-ltb, ltb-false, ltb-true}
use Rattle.std.proofs.lemmas.List.Elements.{All-cons, All-head, All-nil, All-push, All-tail, All-weaker}
use Rattle.std.proofs.lemmas.List.Folds.{list_any-append}
use Rattle.span_calls.specs.declared.call.Call.{Call}
use Rattle.span_calls.proofs.PairLemmas.{ByPairs}
use Rattle.context_forks.specs.Partners.{end_of, last_after, later_of, start_of}
use Rattle.thread_steps.specs.Parts.{Grouping, cut_from, fork_together, forks, group_of, parts_of}
use Rattle.thread_steps.proofs.CutLemmas.{last_within}
use Rattle.time_laws.specs.OwnTimes.{runs}

-- the calls of all parts
abbrev pub all_of_parts : List (List ℕ) → List ℕ
all_of_parts parts = flat_map (λ (p : List ℕ). p) parts

-- an instant before, within and behind a part

early : (a b c d g h l : Bool) → b ≡ true → c ≡ false → g ≡ false → h ≡ true → l ≡ false → cond (a && b) 1 0 + cond ((g && h) && not l) 1 0 ≡ cond ((a && h) && not ((c && d) || l)) 1 0
early a b c d g h l eb ec eg eh el =
    ap (λ x. cond (a && x) 1 0 + cond ((g && h) && not l) 1 0) eb ∙ ap (λ x. cond (a && true) 1 0 + cond ((x && h) && not l) 1 0) eg ∙ by a
    ∙ sym (ap (λ x. cond {A = ℕ} ((a && x) && not ((c && d) || l)) 1 0) eh ∙ ap (λ x. cond {A = ℕ} ((a && true) && not ((x && d) || l)) 1 0) ec ∙ ap (λ x. cond {A = ℕ} ((a && true) && not ((false && d) || x)) 1 0) el)
  where
    by : (a : Bool) → cond (a && true) 1 0 + 0 ≡ cond {A = ℕ} ((a && true) && true) 1 0
    by true = refl
    by false = refl

middle : (a b c d g h l : Bool) → b ≡ false → c ≡ true → d ≡ true → g ≡ false → cond (a && b) 1 0 + cond ((g && h) && not l) 1 0 ≡ cond ((a && h) && not ((c && d) || l)) 1 0
middle a b c d g h l eb ec ed eg =
    ap (λ x. cond (a && x) 1 0 + cond ((g && h) && not l) 1 0) eb ∙ ap (λ x. cond (a && false) 1 0 + cond ((x && h) && not l) 1 0) eg ∙ by a h
    ∙ sym (ap (λ x. cond {A = ℕ} ((a && h) && not ((x && d) || l)) 1 0) ec ∙ ap (λ x. cond {A = ℕ} ((a && h) && not ((true && x) || l)) 1 0) ed)
  where
    by : (a h : Bool) → cond (a && false) 1 0 + 0 ≡ cond {A = ℕ} ((a && h) && false) 1 0
    by true true = refl
    by true false = refl
    by false h = refl

late : (a b c d g h l : Bool) → a ≡ true → b ≡ false → c ≡ true → d ≡ false → g ≡ true → cond (a && b) 1 0 + cond ((g && h) && not l) 1 0 ≡ cond ((a && h) && not ((c && d) || l)) 1 0
late a b c d g h l ea eb ec ed eg =
    ap (λ x. cond (a && x) 1 0 + cond ((g && h) && not l) 1 0) eb ∙ ap (λ x. cond (x && false) 1 0 + cond ((g && h) && not l) 1 0) ea ∙ ap (λ x. 0 + cond ((x && h) && not l) 1 0) eg ∙ by h l
    ∙ sym (ap (λ x. cond {A = ℕ} ((x && h) && not ((c && d) || l)) 1 0) ea ∙ ap (λ x. cond {A = ℕ} ((true && h) && not ((x && d) || l)) 1 0) ec ∙ ap (λ x. cond {A = ℕ} ((true && h) && not ((true && x) || l)) 1 0) ed)
  where
    by : (h l : Bool) → 0 + cond (h && not l) 1 0 ≡ cond {A = ℕ} (h && not l) 1 0
    by true true = refl
    by true false = refl
    by false l = refl

joins : (a b c d m : Bool) → a ≡ false → c ≡ false → ((a && b) || ((c && d) || false)) ≡ (a && m)
joins a b c d m ea ec = ap (λ x. (x && b) || ((c && d) || false)) ea ∙ ap (λ x. (x && d) || false) ec ∙ sym (ap (λ x. x && m) ea)

module _ (calls : List Call) (grouping : Grouping) (at : ℕ) where
  -- an instant is from u on, before v
  abbrev pub inside : ℕ → ℕ → Bool
  inside u v = nat_le u at && nat_lt at v

  -- the time between parts, from u to e, at the instant
  abbrev pub gaps : (u e : ℕ) → List (List ℕ) → ℕ
  gaps u e [] = cond (inside u e) 1 0
  gaps u e ([] ∷ later) = gaps u e later
  gaps u e ((i ∷ more) ∷ later) = cond (inside u (start_of calls i)) 1 0 + gaps (end_of calls (last_after calls i more)) e later

  -- parts lie one after another from u to e, and at the instant some call of a part runs where the part does
  abbrev pub Laid : (u e : ℕ) → List (List ℕ) → Type 0
  Laid u e [] = u ≤ e
  Laid u e ([] ∷ later) = ⊥
  Laid u e ((i ∷ more) ∷ later) = (u ≤ start_of calls i) × (start_of calls i ≤ end_of calls (last_after calls i more))
      × (list_any (runs calls at) (i ∷ more) ≡ inside (start_of calls i) (end_of calls (last_after calls i more)))
      × Laid (end_of calls (last_after calls i more)) e later

  laid_le : (u e : ℕ) (parts : List (List ℕ)) → Laid u e parts → u ≤ e
  laid_le u e [] h = h
  laid_le u e ([] ∷ later) h = absurd h
  laid_le u e ((i ∷ more) ∷ later) h = omega (arith, h.0, h.1, laid_le (end_of calls (last_after calls i more)) e later h.3)

  laid_none : (u e : ℕ) (parts : List (List ℕ)) → at < u → Laid u e parts → list_any (runs calls at) (all_of_parts parts) ≡ false
  laid_none u e [] lt h = refl
  laid_none u e ([] ∷ later) lt h = absurd h
  laid_none u e ((i ∷ more) ∷ later) lt h =
      list_any-append (runs calls at) (i ∷ more) (all_of_parts later)
      ∙ ap (λ b. b || list_any (runs calls at) (all_of_parts later)) (h.2 ∙ and_left (nat_le (start_of calls i) at) (nat_lt at (end_of calls (last_after calls i more))) (lt-leb (start_of calls i) at (omega (arith, lt, h.0))))
      ∙ laid_none (end_of calls (last_after calls i more)) e later (omega (arith, lt, h.0, h.1)) h.3

  pub gaps_laid : (u e : ℕ) (parts : List (List ℕ)) → Laid u e parts → gaps u e parts ≡ cond (inside u e && not (list_any (runs calls at) (all_of_parts parts))) 1 0
  gaps_laid u e [] h = by (inside u e)
    where
      by : (b : Bool) → cond {A = ℕ} b 1 0 ≡ cond (b && true) 1 0
      by true = refl
      by false = refl
  gaps_laid u e ([] ∷ later) h = absurd h
  gaps_laid u e ((i ∷ more) ∷ later) h =
      ap (λ n. cond (inside u (start_of calls i)) 1 0 + n) (gaps_laid (end_of calls (last_after calls i more)) e later h.3)
      ∙ by (cases_lt at (start_of calls i)) (cases_lt at (end_of calls (last_after calls i more)))
      ∙ ap (λ b. cond {A = ℕ} (inside u e && not (b || list_any (runs calls at) (all_of_parts later))) 1 0) (sym h.2)
      ∙ ap (λ b. cond {A = ℕ} (inside u e && not b) 1 0) (sym (list_any-append (runs calls at) (i ∷ more) (all_of_parts later)))
    where
      by : (at < start_of calls i) ⊎ (start_of calls i ≤ at) → (at < end_of calls (last_after calls i more)) ⊎ (end_of calls (last_after calls i more) ≤ at)
          → cond (inside u (start_of calls i)) 1 0 + cond (inside (end_of calls (last_after calls i more)) e && not (list_any (runs calls at) (all_of_parts later))) 1 0
          ≡ cond (inside u e && not (inside (start_of calls i) (end_of calls (last_after calls i more)) || list_any (runs calls at) (all_of_parts later))) 1 0
      by (inl lt) other =
          let f = end_of calls (last_after calls i more) in
          let below : at < f = omega (arith, lt, h.1) in
          early (nat_le u at) (nat_lt at (start_of calls i)) (nat_le (start_of calls i) at) (nat_lt at f) (nat_le f at) (nat_lt at e) (list_any (runs calls at) (all_of_parts later))
          (lt-ltb at (start_of calls i) lt) (lt-leb (start_of calls i) at lt) (lt-leb f at below) (lt-ltb at e (omega (arith, below, laid_le f e later h.3))) (laid_none f e later below h.3)
      by (inr le) (inl lt) =
          let f = end_of calls (last_after calls i more) in
          middle (nat_le u at) (nat_lt at (start_of calls i)) (nat_le (start_of calls i) at) (nat_lt at f) (nat_le f at) (nat_lt at e) (list_any (runs calls at) (all_of_parts later))
          (le-ltb at (start_of calls i) le) (le-leb (start_of calls i) at le) (lt-ltb at f lt) (lt-leb f at lt)
      by (inr le) (inr low) =
          let f = end_of calls (last_after calls i more) in
          late (nat_le u at) (nat_lt at (start_of calls i)) (nat_le (start_of calls i) at) (nat_lt at f) (nat_le f at) (nat_lt at e) (list_any (runs calls at) (all_of_parts later))
          (le-leb u at (omega (arith, le, h.0))) (le-ltb at (start_of calls i) le) (le-leb (start_of calls i) at le) (le-ltb at f low) (le-leb f at low)

  -- where a part lies, with one more call that starts before it ends
  grown : (s f a b : ℕ) (runs_part : Bool) → s ≤ a → a < f → a ≤ b → runs_part ≡ inside s f → (runs_part || (inside a b || false)) ≡ inside s (max f b)
  grown s f a b runs_part low lt rise is = ap (λ r. r || (inside a b || false)) is ∙ by (cases_lt at s) (cases_lt at f) (cases_lt at b)
    where
      by : (at < s) ⊎ (s ≤ at) → (at < f) ⊎ (f ≤ at) → (at < b) ⊎ (b ≤ at) → (inside s f || (inside a b || false)) ≡ inside s (max f b)
      by (inl before) two three =
          joins (nat_le s at) (nat_lt at f) (nat_le a at) (nat_lt at b) (nat_lt at (max f b)) (lt-leb s at before) (lt-leb a at (omega (arith, before, low)))
      by (inr from) (inl until) three =
          let all : at < max f b = omega (arith, until) in
          ap (λ x. (x && nat_lt at f) || (inside a b || false)) (le-leb s at from) ∙ ap (λ x. (true && x) || (inside a b || false)) (lt-ltb at f until)
          ∙ sym (ap (λ x. x && nat_lt at (max f b)) (le-leb s at from) ∙ ap (λ x. true && x) (lt-ltb at (max f b) all))
      by (inr from) (inr past) (inl until) =
          let all : at < max f b = omega (arith, until) in
          let started : a ≤ at = omega (arith, lt, past) in
          ap (λ x. (nat_le s at && x) || (inside a b || false)) (le-ltb at f past)
          ∙ ap (λ x. x || (inside a b || false)) (and_right (nat_le s at) false refl)
          ∙ ap (λ x. (x && nat_lt at b) || false) (le-leb a at started) ∙ ap (λ x. (true && x) || false) (lt-ltb at b until)
          ∙ sym (ap (λ x. x && nat_lt at (max f b)) (le-leb s at from) ∙ ap (λ x. true && x) (lt-ltb at (max f b) all))
      by (inr from) (inr past) (inr over) =
          let none : max f b ≤ at = omega (arith, past, over) in
          ap (λ x. (nat_le s at && x) || (inside a b || false)) (le-ltb at f past)
          ∙ ap (λ x. x || (inside a b || false)) (and_right (nat_le s at) false refl)
          ∙ ap (λ x. (nat_le a at && x) || false) (le-ltb at b over)
          ∙ ap (λ x. x || false) (and_right (nat_le a at) false refl)
          ∙ sym (ap (λ x. nat_le s at && x) (le-ltb at (max f b) none) ∙ and_right (nat_le s at) false refl)

  last_push : (i : ℕ) (more : List ℕ) (j : ℕ) → last_after calls i (more ++ j ∷ []) ≡ later_of calls (last_after calls i more) j
  last_push i [] j = refl
  last_push i (k ∷ more) j = last_push (later_of calls i k) more j

  later_end : (i j : ℕ) → max (end_of calls i) (end_of calls j) ≡ end_of calls (later_of calls i j)
  later_end i j = cases (nat_lt (end_of calls i) (end_of calls j)) refl
    where
      cases : (b : Bool) → nat_lt (end_of calls i) (end_of calls j) ≡ b → max (end_of calls i) (end_of calls j) ≡ end_of calls (cond b j i)
      cases true h = let lt : end_of calls i < end_of calls j = ltb-true (end_of calls i) (end_of calls j) h in omega arith
      cases false h = let le : end_of calls j ≤ end_of calls i = ltb-false (end_of calls i) (end_of calls j) h in omega arith

  -- two calls of which the first one ends before the second one starts, unless they are forked together
  abbrev pub Apart : ℕ → ℕ → Type 0
  Apart i j = fork_together grouping i j ≡ false → end_of calls i ≤ start_of calls j

  abbrev pub Rise : ℕ → ℕ → Type 0
  Rise i j = start_of calls i ≤ start_of calls j

  -- a call that is forked together with another one is so with the same ones
  alike : (first i : ℕ) → fork_together grouping first i ≡ true → (j : ℕ) → fork_together grouping i j ≡ fork_together grouping first j
  alike first i h j =
      let one = and_parts (forks grouping first) (forks grouping i && eqb (group_of grouping first) (group_of grouping i)) h in
      let two = and_parts (forks grouping i) (eqb (group_of grouping first) (group_of grouping i)) one.1 in
      ap (λ b. b && (forks grouping j && eqb (group_of grouping i) (group_of grouping j))) (two.0 ∙ sym one.0)
      ∙ ap (λ g. forks grouping first && (forks grouping j && eqb g (group_of grouping j))) (sym (eqb-true (group_of grouping first) (group_of grouping i) two.1))

  module _ (e : ℕ) where
    cut_laid : (u first : ℕ) (more : List ℕ) (end : ℕ) (later : List ℕ) → u ≤ start_of calls first → start_of calls first ≤ end → end ≡ end_of calls (last_after calls first more) → end ≤ e
        → list_any (runs calls at) (first ∷ more) ≡ inside (start_of calls first) end
        → All (λ m. (j : ℕ) → fork_together grouping m j ≡ fork_together grouping first j) (first ∷ more)
        → All (λ m. All (Apart m) later) (first ∷ more) → All (Rise first) later → ByPairs Rise later → ByPairs Apart later
        → All (λ j. (start_of calls j ≤ end_of calls j) × (end_of calls j ≤ e)) later
        → Laid u e (cut_from calls grouping first (first ∷ more) end later)
    cut_laid u first more end [] low rise is top fills same apart from rises aparts ends =
        (low, omega (arith, rise, is), fills ∙ ap (inside (start_of calls first)) is, omega (arith, top, is))
    cut_laid u first more end (i ∷ later) low rise is top fills same apart from rises aparts ends =
        let own = All-head (λ j. (start_of calls j ≤ end_of calls j) × (end_of calls j ≤ e)) i later ends in
        let rest = All-tail (λ j. (start_of calls j ≤ end_of calls j) × (end_of calls j ≤ e)) i later ends in
        let starts = All-head (Rise first) i later from in
        by (fork_together grouping first i) (nat_lt (start_of calls i) end) refl refl
        (λ together before.
        cut_laid u first (more ++ i ∷ []) (max end (end_of calls i)) later low (omega (arith, rise)) (ap (λ n. max n (end_of calls i)) is ∙ later_end (last_after calls first more) i ∙ ap (end_of calls) (sym (last_push first more i))) (omega (arith, top, own.1))
        (list_any-append (runs calls at) (first ∷ more) (i ∷ []) ∙ grown (start_of calls first) end (start_of calls i) (end_of calls i) (list_any (runs calls at) (first ∷ more)) starts (ltb-true (start_of calls i) end before) own.0 fills)
        (All-push (λ m. (j : ℕ) → fork_together grouping m j ≡ fork_together grouping first j) (first ∷ more) i same (alike first i together))
        (All-push (λ m. All (Apart m) later) (first ∷ more) i (All-weaker (λ m. All (Apart m) (i ∷ later)) (λ m. All (Apart m) later) (λ m h. All-tail (Apart m) i later h) (first ∷ more) apart) aparts.0)
        (All-tail (Rise first) i later from) rises.1 aparts.1 rest)
        (λ past. (
          low,
          omega (arith, rise, is),
          fills ∙ ap (inside (start_of calls first)) is,
          cut_laid (end_of calls (last_after calls first more)) i [] (end_of calls i) later past own.0 refl own.1
              (single (inside (start_of calls i) (end_of calls i)))
              (All-cons (λ m. (j : ℕ) → fork_together grouping m j ≡ fork_together grouping i j) i [] (λ j. refl) (All-nil (λ m. (j : ℕ) → fork_together grouping m j ≡ fork_together grouping i j)))
              (All-cons (λ m. All (Apart m) later) i [] aparts.0 (All-nil (λ m. All (Apart m) later)))
              rises.0 rises.1 aparts.1 rest,
        ))
      where
        single : (b : Bool) → (b || false) ≡ b
        single true = refl
        single false = refl

        -- where they are not forked together, each call of the part ends before
        ended : fork_together grouping first i ≡ false → end_of calls (last_after calls first more) ≤ start_of calls i
        ended off =
            let each : All (λ m. end_of calls m ≤ start_of calls i) (first ∷ more) = both (first ∷ more) same apart off in
            last_within calls grouping (λ m. end_of calls m ≤ start_of calls i) first more (All-head (λ m. end_of calls m ≤ start_of calls i) first more each) (All-tail (λ m. end_of calls m ≤ start_of calls i) first more each)
          where
            both : (ms : List ℕ) → All (λ m. (j : ℕ) → fork_together grouping m j ≡ fork_together grouping first j) ms → All (λ m. All (Apart m) (i ∷ later)) ms → fork_together grouping first i ≡ false → All (λ m. end_of calls m ≤ start_of calls i) ms
            both [] h k off = All-nil (λ m. end_of calls m ≤ start_of calls i)
            both (m ∷ ms) h k off =
                All-cons (λ m. end_of calls m ≤ start_of calls i) m ms
                (All-head (Apart m) i later (All-head (λ m. All (Apart m) (i ∷ later)) m ms k) (All-head (λ m. (j : ℕ) → fork_together grouping m j ≡ fork_together grouping first j) m ms h i ∙ off))
                (both ms (All-tail (λ m. (j : ℕ) → fork_together grouping m j ≡ fork_together grouping first j) m ms h) (All-tail (λ m. All (Apart m) (i ∷ later)) m ms k) off)

        by : (b c : Bool) → fork_together grouping first i ≡ b → nat_lt (start_of calls i) end ≡ c
            → (fork_together grouping first i ≡ true → nat_lt (start_of calls i) end ≡ true → Laid u e (cut_from calls grouping first ((first ∷ more) ++ i ∷ []) (max end (end_of calls i)) later))
            → (end_of calls (last_after calls first more) ≤ start_of calls i → Laid u e ((first ∷ more) ∷ cut_from calls grouping i (i ∷ []) (end_of calls i) later))
            → Laid u e (cond (fork_together grouping first i && nat_lt (start_of calls i) end) (cut_from calls grouping first ((first ∷ more) ++ i ∷ []) (max end (end_of calls i)) later) ((first ∷ more) ∷ cut_from calls grouping i (i ∷ []) (end_of calls i) later))
        by true true together before on off = pick true (sym (ap (λ b. b && nat_lt (start_of calls i) end) together ∙ before)) (on together before)
          where
            pick : (b : Bool) → b ≡ (fork_together grouping first i && nat_lt (start_of calls i) end) → Laid u e (cond b (cut_from calls grouping first ((first ∷ more) ++ i ∷ []) (max end (end_of calls i)) later) ((first ∷ more) ∷ cut_from calls grouping i (i ∷ []) (end_of calls i) later))
                → Laid u e (cond (fork_together grouping first i && nat_lt (start_of calls i) end) (cut_from calls grouping first ((first ∷ more) ++ i ∷ []) (max end (end_of calls i)) later) ((first ∷ more) ∷ cut_from calls grouping i (i ∷ []) (end_of calls i) later))
            pick b is h = subst (λ x. Laid u e (cond x (cut_from calls grouping first ((first ∷ more) ++ i ∷ []) (max end (end_of calls i)) later) ((first ∷ more) ∷ cut_from calls grouping i (i ∷ []) (end_of calls i) later))) is h
        by true false together before on off =
            subst (λ x. Laid u e (cond x (cut_from calls grouping first ((first ∷ more) ++ i ∷ []) (max end (end_of calls i)) later) ((first ∷ more) ∷ cut_from calls grouping i (i ∷ []) (end_of calls i) later)))
            (sym (and_right (fork_together grouping first i) (nat_lt (start_of calls i) end) before))
            (off (omega (arith, ltb-false (start_of calls i) end before, is)))
        by false c together before on off =
            subst (λ x. Laid u e (cond x (cut_from calls grouping first ((first ∷ more) ++ i ∷ []) (max end (end_of calls i)) later) ((first ∷ more) ∷ cut_from calls grouping i (i ∷ []) (end_of calls i) later)))
            (sym (and_left (fork_together grouping first i) (nat_lt (start_of calls i) end) together))
            (off (ended together))

    pub parts_laid : (u : ℕ) (below : List ℕ) → u ≤ e → All (λ j. u ≤ start_of calls j) below → All (λ j. (start_of calls j ≤ end_of calls j) × (end_of calls j ≤ e)) below → ByPairs Rise below → ByPairs Apart below → Laid u e (parts_of calls grouping below)
    parts_laid u [] le low ends rises aparts = le
    parts_laid u (i ∷ later) le low ends rises aparts =
        let own = All-head (λ j. (start_of calls j ≤ end_of calls j) × (end_of calls j ≤ e)) i later ends in
        cut_laid u i [] (end_of calls i) later (All-head (λ j. u ≤ start_of calls j) i later low) own.0 refl own.1
        (single (inside (start_of calls i) (end_of calls i)))
        (All-cons (λ m. (j : ℕ) → fork_together grouping m j ≡ fork_together grouping i j) i [] (λ j. refl) (All-nil (λ m. (j : ℕ) → fork_together grouping m j ≡ fork_together grouping i j)))
        (All-cons (λ m. All (Apart m) later) i [] aparts.0 (All-nil (λ m. All (Apart m) later)))
        rises.0 rises.1 aparts.1 (All-tail (λ j. (start_of calls j ≤ end_of calls j) × (end_of calls j ≤ e)) i later ends)
      where
        single : (b : Bool) → (b || false) ≡ b
        single true = refl
        single false = refl

  -- the calls of parts are those that were cut
  concat_cut : (first : ℕ) (part : List ℕ) (end : ℕ) (later : List ℕ) → all_of_parts (cut_from calls grouping first part end later) ≡ part ++ later
  concat_cut first part end [] = refl
  concat_cut first part end (i ∷ later) = by (fork_together grouping first i && nat_lt (start_of calls i) end) (concat_cut first (part ++ i ∷ []) (max end (end_of calls i)) later) (concat_cut i (i ∷ []) (end_of calls i) later)
    where
      by : (b : Bool) → all_of_parts (cut_from calls grouping first (part ++ i ∷ []) (max end (end_of calls i)) later) ≡ (part ++ i ∷ []) ++ later → all_of_parts (cut_from calls grouping i (i ∷ []) (end_of calls i) later) ≡ i ∷ later
          → all_of_parts (cond b (cut_from calls grouping first (part ++ i ∷ []) (max end (end_of calls i)) later) (part ∷ cut_from calls grouping i (i ∷ []) (end_of calls i) later)) ≡ part ++ i ∷ later
      by true on off = on ∙ append_assoc part (i ∷ []) later
      by false on off = ap (λ (xs : List ℕ). part ++ xs) off

  pub concat_parts : (below : List ℕ) → all_of_parts (parts_of calls grouping below) ≡ below
  concat_parts [] = refl
  concat_parts (i ∷ later) = concat_cut i (i ∷ []) (end_of calls i) later
