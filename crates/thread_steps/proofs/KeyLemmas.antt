-- No two steps of a thread have one key.
use Rattle.std.proofs.Common.{◌≡◌, ◌⊎◌, inl, inr, ℕ, zero, suc, ◌<◌, ◌≤◌, List, [], ◌∷◌, ◌++◌, All, Bool, true, false, cond, Option, Some, None, length, get_or, slice_get, refl, sym, ap, ◌∙◌, subst, arith, eq-eqb}
use Rattle.std.specs.List.{flat_map}
use Rattle.std.proofs.lemmas.Bool.{cases_order}
use Rattle.std.proofs.lemmas.List.Concat.{flat_map-append}
use Rattle.std.proofs.lemmas.List.Elements.{All-append, All-cons, All-head, All-nil, All-push, All-tail, All-weaker}
use Rattle.span_calls.specs.Calls.{AreBefore}
use Rattle.span_calls.specs.declared.call.Call.{Call}
use Rattle.span_names.specs.declared.piece.Piece.{Piece}
use Rattle.context_forks.specs.Forks.{calls_below}
use Rattle.context_forks.specs.Partners.{last_after}
use Rattle.thread_steps.specs.Parts.{Grouping, forks, parts_of}
use Rattle.thread_steps.specs.StepKeys.{AreToldApart, StartIn, EndIn, StepKey, StepsDiffer, happening_of, keys_from, piece_behind}
use Rattle.thread_steps.specs.Steps.{call_of, gone_into, own_steps, part_steps, piece_after, steps_over, steps_within}
use Rattle.thread_steps.specs.ThreadCalls.{Stands}
use Rattle.thread_steps.specs.ThreadLaws.{is_end, is_start, thread_steps}
use Rattle.thread_steps.specs.declared.step.Step.{Step}
use Rattle.thread_steps.specs.declared.step.Step.TheVariants.{Starts, Ends, Forks, Joins}
use Rattle.thread_steps.proofs.CountLemmas.{count_apart, count_found, some_inj}
use Rattle.thread_steps.proofs.JoinLemmas.{joined_at_most_once}
use Rattle.thread_steps.proofs.LawLemmas.{as_often, end_own, once_at_most, start_own}
use Rattle.thread_steps.proofs.PieceLemmas.{is_join, piece_reflexive}
use Rattle.thread_steps.proofs.TableLemmas.{below_behind, own_calls}

-- the piece that a thread is in behind a step

abbrev behind : Option Piece → List Step → ℕ → Option Piece
behind piece [] i = piece
behind piece (s ∷ steps) zero = piece_behind piece s
behind piece (s ∷ steps) (suc i) = behind (piece_behind piece s) steps i

key_at : (grouping : Grouping) (piece : Option Piece) (steps : List Step) (i : ℕ) (key : StepKey) → slice_get (keys_from grouping piece steps) i ≡ Some key
    → (s : Step) × (slice_get steps i ≡ Some s) × (key.piece ≡ behind piece steps i) × (key.happens ≡ happening_of grouping s)
key_at grouping piece [] i key at = cc
key_at grouping piece (s ∷ steps) zero key at =
    let is = some_inj (record { piece = piece_behind piece s; happens = happening_of grouping s }) key at in
    (s, refl, sym (ap (λ (k : StepKey). k.piece) is), sym (ap (λ (k : StepKey). k.happens) is))
key_at grouping piece (s ∷ steps) (suc i) key at = key_at grouping (piece_behind piece s) steps i key at

-- a join at this place
abbrev JoinsAt : List Step → Piece → ℕ → Type 0
JoinsAt steps p m = (d : ℕ) × (slice_get steps m ≡ Some (Joins d p))

behind_join : (piece : Option Piece) (steps : List Step) (i c : ℕ) (p : Piece) → slice_get steps i ≡ Some (Joins c p) → behind piece steps i ≡ Some p
behind_join piece [] i c p at = cc
behind_join piece (s ∷ steps) zero c p at = ap (piece_behind piece) (some_inj s (Joins c p) at)
behind_join piece (s ∷ steps) (suc i) c p at = behind_join (piece_behind piece s) steps i c p at

-- the piece behind a step is the one at the start, or that of a join before
behind_from : (piece : Option Piece) (steps : List Step) (i : ℕ) (r : Piece) → behind piece steps i ≡ Some r → (piece ≡ Some r) ⊎ ((m : ℕ) × (m ≤ i) × JoinsAt steps r m)
behind_from piece [] i r h = inl h
behind_from piece (s ∷ steps) zero r h = by s h
  where
    by : (s : Step) → piece_behind piece s ≡ Some r → (piece ≡ Some r) ⊎ ((m : ℕ) × (m ≤ 0) × JoinsAt (s ∷ steps) r m)
    by (Starts c) h = inl h
    by (Ends c) h = inl h
    by (Forks c) h = inl h
    by (Joins c q) h = inr (0, omega arith, (c, ap (λ (p : Piece). Some (Joins c p)) (some_inj q r h)))
behind_from piece (s ∷ steps) (suc i) r h = later (behind_from (piece_behind piece s) steps i r h)
  where
    first : (s : Step) → piece_behind piece s ≡ Some r → (piece ≡ Some r) ⊎ ((m : ℕ) × (m ≤ suc i) × JoinsAt (s ∷ steps) r m)
    first (Starts c) h = inl h
    first (Ends c) h = inl h
    first (Forks c) h = inl h
    first (Joins c q) h = inr (0, omega arith, (c, ap (λ (p : Piece). Some (Joins c p)) (some_inj q r h)))

    later : (piece_behind piece s ≡ Some r) ⊎ ((m : ℕ) × (m ≤ i) × JoinsAt steps r m) → (piece ≡ Some r) ⊎ ((m : ℕ) × (m ≤ suc i) × JoinsAt (s ∷ steps) r m)
    later (inl at) = first s at
    later (inr there) = inr (suc there.0, omega (arith, there.1), there.2)

-- behind a join the thread is in a piece
behind_some : (q : Piece) (steps : List Step) (j : ℕ) → (r : Piece) × (behind (Some q) steps j ≡ Some r)
behind_some q [] j = (q, refl)
behind_some q (Starts c ∷ steps) zero = (q, refl)
behind_some q (Ends c ∷ steps) zero = (q, refl)
behind_some q (Forks c ∷ steps) zero = (q, refl)
behind_some q (Joins c p ∷ steps) zero = (p, refl)
behind_some q (Starts c ∷ steps) (suc j) = behind_some q steps j
behind_some q (Ends c ∷ steps) (suc j) = behind_some q steps j
behind_some q (Forks c ∷ steps) (suc j) = behind_some q steps j
behind_some q (Joins c p ∷ steps) (suc j) = behind_some p steps j

-- behind a join and more steps the thread is in the piece of a join from there on
behind_late : (piece : Option Piece) (steps : List Step) (k j d : ℕ) (q : Piece) → slice_get steps k ≡ Some (Joins d q) → k ≤ j → (r : Piece) × (behind piece steps j ≡ Some r) × ((m : ℕ) × (k ≤ m) × (m ≤ j) × JoinsAt steps r m)
behind_late piece [] k j d q at le = cc
behind_late piece (s ∷ steps) zero zero d q at le = (q, ap (piece_behind piece) (some_inj s (Joins d q) at), (0, omega arith, omega arith, (d, at)))
behind_late piece (s ∷ steps) zero (suc j) d q at le =
    let r = behind_some q steps j in
    let from : behind (piece_behind piece s) steps j ≡ Some r.0 = ap (λ (t : Step). behind (piece_behind piece t) steps j) (some_inj s (Joins d q) at) ∙ r.1 in
    (r.0, from, by r.0 (behind_from (Some q) steps j r.0 r.1))
  where
    by : (r : Piece) → (Some q ≡ Some r) ⊎ ((m : ℕ) × (m ≤ j) × JoinsAt steps r m) → (m : ℕ) × (0 ≤ m) × (m ≤ suc j) × JoinsAt (s ∷ steps) r m
    by r (inl same) = (0, omega arith, omega arith, (d, at ∙ ap (λ (p : Piece). Some (Joins d p)) (some_inj q r same)))
    by r (inr there) = (suc there.0, omega arith, omega (arith, there.1), there.2)
behind_late piece (s ∷ steps) (suc k) zero d q at le = absurd (let e : ⊥ = omega (arith, le) in e)
behind_late piece (s ∷ steps) (suc k) (suc j) d q at le =
    let rest = behind_late (piece_behind piece s) steps k j d q at (omega (arith, le)) in
    (rest.0, rest.1, (suc rest.2.0, omega (arith, rest.2.1), omega (arith, rest.2.2), rest.2.3))

-- behind each fork stands a join

abbrev BeginsWithJoin : List Step → Type 0
BeginsWithJoin [] = ⊥
BeginsWithJoin (Starts c ∷ later) = ⊥
BeginsWithJoin (Ends c ∷ later) = ⊥
BeginsWithJoin (Forks c ∷ later) = ⊥
BeginsWithJoin (Joins c p ∷ later) = Unit {0}

abbrev ArePaired : List Step → Type 0
ArePaired [] = Unit {0}
ArePaired (Starts c ∷ later) = ArePaired later
ArePaired (Ends c ∷ later) = ArePaired later
ArePaired (Forks c ∷ later) = BeginsWithJoin later × ArePaired later
ArePaired (Joins c p ∷ later) = ArePaired later

begins_append : (xs ys : List Step) → BeginsWithJoin xs → BeginsWithJoin (xs ++ ys)
begins_append [] ys h = absurd h
begins_append (Starts c ∷ xs) ys h = absurd h
begins_append (Ends c ∷ xs) ys h = absurd h
begins_append (Forks c ∷ xs) ys h = absurd h
begins_append (Joins c p ∷ xs) ys h = tt

paired_append : (xs ys : List Step) → ArePaired xs → ArePaired ys → ArePaired (xs ++ ys)
paired_append [] ys h k = k
paired_append (Starts c ∷ xs) ys h k = paired_append xs ys h k
paired_append (Ends c ∷ xs) ys h k = paired_append xs ys h k
paired_append (Forks c ∷ xs) ys h k = (begins_append xs ys h.0, paired_append xs ys h.1 k)
paired_append (Joins c p ∷ xs) ys h k = paired_append xs ys h k

paired_at : (steps : List Step) (i c : ℕ) → ArePaired steps → slice_get steps i ≡ Some (Forks c) → (q : Piece) × JoinsAt steps q (suc i)
paired_at [] i c h at = cc
paired_at (Starts d ∷ steps) zero c h at = cc
paired_at (Ends d ∷ steps) zero c h at = cc
paired_at (Forks d ∷ steps) zero c h at = by steps h.0
  where
    by : (later : List Step) → BeginsWithJoin later → (q : Piece) × JoinsAt (Forks d ∷ later) q 1
    by [] b = absurd b
    by (Starts e ∷ later) b = absurd b
    by (Ends e ∷ later) b = absurd b
    by (Forks e ∷ later) b = absurd b
    by (Joins e p ∷ later) b = (p, (e, refl))
paired_at (Joins d p ∷ steps) zero c h at = cc
paired_at (Starts d ∷ steps) (suc i) c h at = paired_at steps i c h at
paired_at (Ends d ∷ steps) (suc i) c h at = paired_at steps i c h at
paired_at (Forks d ∷ steps) (suc i) c h at = paired_at steps i c h.1 at
paired_at (Joins d p ∷ steps) (suc i) c h at = paired_at steps i c h at

module _ (calls : List Call) (grouping : Grouping) (group_numbers : List ℕ) where
  paired_over : (within : ℕ → List Step) → ((j : ℕ) → ArePaired (within j)) → (before parts : List (List ℕ)) → ArePaired (flat_map (gone_into within) (steps_over calls grouping group_numbers before parts))
  paired_over within h before [] = tt
  paired_over within h before (part ∷ later) =
      subst ArePaired (sym (flat_map-append (gone_into within) (part_steps calls grouping group_numbers before later part) (steps_over calls grouping group_numbers (before ++ part ∷ []) later)))
      (paired_append (flat_map (gone_into within) (part_steps calls grouping group_numbers before later part)) (flat_map (gone_into within) (steps_over calls grouping group_numbers (before ++ part ∷ []) later)) (one part) (paired_over within h (before ++ part ∷ []) later))
    where
      one : (part : List ℕ) → ArePaired (flat_map (gone_into within) (part_steps calls grouping group_numbers before later part))
      one [] = tt
      one (i ∷ more) = by (forks grouping i)
        where
          by : (b : Bool) → ArePaired (flat_map (gone_into within) (cond b (Forks i ∷ Joins (last_after calls i more) (piece_after calls grouping group_numbers before later i) ∷ []) (Starts i ∷ [])))
          by true = (tt, tt)
          by false = paired_append (within i) [] (h i) tt

  paired_within : (n t : ℕ) → ArePaired (steps_within calls (calls_below calls) grouping group_numbers n t)
  paired_within zero t = tt
  paired_within (suc n) t = paired_append (flat_map (gone_into (steps_within calls (calls_below calls) grouping group_numbers n)) (own_steps calls grouping group_numbers (get_or (calls_below calls) t []))) (Ends t ∷ [])
      (paired_over (steps_within calls (calls_below calls) grouping group_numbers n) (paired_within n) [] (parts_of calls grouping (get_or (calls_below calls) t []))) tt

  -- the steps of a thread are of calls

  module _ (before : AreBefore calls) where
    gone_calls : (within : ℕ → List Step) → ((j : ℕ) → j < length calls → All (λ s. call_of s < length calls) (within j)) → (steps : List Step) → All (λ s. call_of s < length calls) steps → All (λ s. call_of s < length calls) (flat_map (gone_into within) steps)
    gone_calls within h [] all = All-nil (λ s. call_of s < length calls)
    gone_calls within h (s ∷ steps) all = All-append (λ s. call_of s < length calls) (gone_into within s) (flat_map (gone_into within) steps) (by s (All-head (λ s. call_of s < length calls) s steps all)) (gone_calls within h steps (All-tail (λ s. call_of s < length calls) s steps all))
      where
        by : (s : Step) → call_of s < length calls → All (λ s. call_of s < length calls) (gone_into within s)
        by (Starts j) lt = h j lt
        by (Ends j) lt = All-cons (λ s. call_of s < length calls) (Ends j) [] lt (All-nil (λ s. call_of s < length calls))
        by (Forks j) lt = All-cons (λ s. call_of s < length calls) (Forks j) [] lt (All-nil (λ s. call_of s < length calls))
        by (Joins j piece) lt = All-cons (λ s. call_of s < length calls) (Joins j piece) [] lt (All-nil (λ s. call_of s < length calls))

    pub calls_within : (n t : ℕ) → t < length calls → All (λ s. call_of s < length calls) (steps_within calls (calls_below calls) grouping group_numbers n t)
    calls_within zero t lt = All-nil (λ s. call_of s < length calls)
    calls_within (suc n) t lt =
        let under = get_or (calls_below calls) t [] in
        let inner = flat_map (gone_into (steps_within calls (calls_below calls) grouping group_numbers n)) (own_steps calls grouping group_numbers under) in
        All-cons (λ s. call_of s < length calls) (Starts t) (inner ++ Ends t ∷ []) lt
        (All-push (λ s. call_of s < length calls) inner (Ends t)
        (gone_calls (steps_within calls (calls_below calls) grouping group_numbers n) (calls_within n) (own_steps calls grouping group_numbers under)
        (own_calls calls grouping group_numbers (λ j. j < length calls) under (All-weaker (λ j. (t < j) × (j < length calls)) (λ j. j < length calls) (λ j both. both.1) under (below_behind calls (calls_below calls) before refl t lt)))) lt)

    -- in a thread whose calls are told apart

    module _ (head : ℕ) (less : head < length calls) (told : AreToldApart calls grouping group_numbers head) where
      abbrev steps : List Step
      steps = thread_steps calls grouping group_numbers head

      step_call : (xs : List Step) (i : ℕ) (s : Step) → All (λ s. call_of s < length calls) xs → slice_get xs i ≡ Some s → call_of s < length calls
      step_call [] i s all at = cc
      step_call (x ∷ xs) zero s all at = subst (λ (t : Step). call_of t < length calls) (some_inj x s at) (All-head (λ s. call_of s < length calls) x xs all)
      step_call (x ∷ xs) (suc i) s all at = step_call xs i s (All-tail (λ s. call_of s < length calls) x xs all) at

      call_at : (i : ℕ) (s : Step) → slice_get steps i ≡ Some s → call_of s < length calls
      call_at i s at = step_call steps i s (calls_within (length calls) head less) at

      starts_apart : (i j c d : ℕ) → slice_get steps i ≡ Some (Starts c) → slice_get steps j ≡ Some (Starts d) → get_or grouping.numbers c 0 ≡ get_or grouping.numbers d 0 → i ≡ j
      starts_apart i j c d at there same =
          let first : Stands calls grouping group_numbers head c = count_found (is_start c) steps i (Starts c) at (eq-eqb c c refl) in
          let second : Stands calls grouping group_numbers head d = count_found (is_start d) steps j (Starts d) there (eq-eqb d d refl) in
          count_apart (is_start c) steps (once_at_most is_start start_own (λ i j. refl) (λ i j piece. refl) calls grouping group_numbers before c head (call_at i (Starts c) at) less)
          i j (Starts c) (Starts d) at there (eq-eqb c c refl) (eq-eqb c d (told.contexts c d first second same))

      ends_apart : (i j c d : ℕ) → slice_get steps i ≡ Some (Ends c) → slice_get steps j ≡ Some (Ends d) → get_or grouping.numbers c 0 ≡ get_or grouping.numbers d 0 → i ≡ j
      ends_apart i j c d at there same =
          let lt = call_at i (Ends c) at in
          let low = call_at j (Ends d) there in
          let first : Stands calls grouping group_numbers head c = subst (λ n. 0 < n) (sym (as_often calls grouping group_numbers before (suc c) c head (omega arith) lt less)) (count_found (is_end c) steps i (Ends c) at (eq-eqb c c refl)) in
          let second : Stands calls grouping group_numbers head d = subst (λ n. 0 < n) (sym (as_often calls grouping group_numbers before (suc d) d head (omega arith) low less)) (count_found (is_end d) steps j (Ends d) there (eq-eqb d d refl)) in
          count_apart (is_end c) steps (once_at_most is_end end_own (λ i j. refl) (λ i j piece. refl) calls grouping group_numbers before c head lt less)
          i j (Ends c) (Ends d) at there (eq-eqb c c refl) (eq-eqb c d (told.contexts c d first second same))

      joins_one : (p : Piece) (i j c d : ℕ) → slice_get steps i ≡ Some (Joins c p) → slice_get steps j ≡ Some (Joins d p) → i ≡ j
      joins_one p i j c d at there =
          count_apart (is_join p) steps (joined_at_most_once calls grouping group_numbers before p head less told) i j (Joins c p) (Joins d p) at there (piece_reflexive p) (piece_reflexive p)

      joins_apart : (i j c d : ℕ) (p q : Piece) → slice_get steps i ≡ Some (Joins c p) → slice_get steps j ≡ Some (Joins d q) → behind None steps i ≡ behind None steps j → i ≡ j
      joins_apart i j c d p q at there same =
          let one : p ≡ q = some_inj p q (sym (behind_join None steps i c p at) ∙ same ∙ behind_join None steps j d q there) in
          joins_one q i j c d (at ∙ ap (λ (r : Piece). Some (Joins c r)) one) there

      none_some : (r : Piece) → None ≡ Some r → ⊥
      none_some r h = cc

      -- between two forks the piece changes, and never comes again
      forks_late : (i j c d : ℕ) → slice_get steps i ≡ Some (Forks c) → i < j → behind None steps i ≡ behind None steps j → ⊥
      forks_late i j c d at lt same =
          let next = paired_at steps i c (paired_within (length calls) head) at in
          let last = behind_late None steps (suc i) j next.1.0 next.0 next.1.1 (omega (arith, lt)) in
          by last.0 last.2 (behind_from None steps i last.0 (same ∙ last.1))
        where
          by : (r : Piece) → ((m : ℕ) × (suc i ≤ m) × (m ≤ j) × JoinsAt steps r m) → (None ≡ Some r) ⊎ ((m : ℕ) × (m ≤ i) × JoinsAt steps r m) → ⊥
          by r later (inl none) = none_some r none
          by r later (inr early) =
              let same : early.0 ≡ later.0 = joins_one r early.0 later.0 early.2.0 later.3.0 early.2.1 later.3.1 in
              omega (arith, same, early.1, later.1)

      forks_apart : (i j c d : ℕ) → slice_get steps i ≡ Some (Forks c) → slice_get steps j ≡ Some (Forks d) → behind None steps i ≡ behind None steps j → i ≡ j
      forks_apart i j c d at there same = by (cases_order i j)
        where
          by : (i ≡ j) ⊎ ((i < j) ⊎ (j < i)) → i ≡ j
          by (inl is) = is
          by (inr (inl lt)) = absurd (forks_late i j c d at lt same)
          by (inr (inr lt)) = absurd (forks_late j i d c there lt (sym same))

      context_start : (m n : ℕ) → StartIn m ≡ StartIn n → m ≡ n
      context_start m n h = cc

      context_end : (m n : ℕ) → EndIn m ≡ EndIn n → m ≡ n
      context_end m n h = cc

      pub steps_apart : (i j : ℕ) (s t : Step) → slice_get steps i ≡ Some s → slice_get steps j ≡ Some t → behind None steps i ≡ behind None steps j → happening_of grouping s ≡ happening_of grouping t → i ≡ j
      steps_apart i j (Starts c) (Starts d) at there same happens = starts_apart i j c d at there (context_start (get_or grouping.numbers c 0) (get_or grouping.numbers d 0) happens)
      steps_apart i j (Starts c) (Ends d) at there same happens = cc
      steps_apart i j (Starts c) (Forks d) at there same happens = cc
      steps_apart i j (Starts c) (Joins d q) at there same happens = cc
      steps_apart i j (Ends c) (Starts d) at there same happens = cc
      steps_apart i j (Ends c) (Ends d) at there same happens = ends_apart i j c d at there (context_end (get_or grouping.numbers c 0) (get_or grouping.numbers d 0) happens)
      steps_apart i j (Ends c) (Forks d) at there same happens = cc
      steps_apart i j (Ends c) (Joins d q) at there same happens = cc
      steps_apart i j (Forks c) (Starts d) at there same happens = cc
      steps_apart i j (Forks c) (Ends d) at there same happens = cc
      steps_apart i j (Forks c) (Forks d) at there same happens = forks_apart i j c d at there same
      steps_apart i j (Forks c) (Joins d q) at there same happens = cc
      steps_apart i j (Joins c p) (Starts d) at there same happens = cc
      steps_apart i j (Joins c p) (Ends d) at there same happens = cc
      steps_apart i j (Joins c p) (Forks d) at there same happens = cc
      steps_apart i j (Joins c p) (Joins d q) at there same happens = joins_apart i j c d p q at there same

pub steps_differ : StepsDiffer
steps_differ calls grouping group_numbers before head less told i j key at there =
    let steps = thread_steps calls grouping group_numbers head in
    let first = key_at grouping None steps i key at in
    let second = key_at grouping None steps j key there in
    steps_apart calls grouping group_numbers before head less told i j first.0 second.0 first.1 second.1 (sym first.2 ∙ second.2) (sym first.3 ∙ second.3)
