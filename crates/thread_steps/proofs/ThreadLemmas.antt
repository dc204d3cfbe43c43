-- Threads in a table of steps.
use Rattle.std.proofs.Common.{◌≡◌, ℕ, zero, suc, ◌+◌, ◌<◌, ◌≤◌, List, [], ◌∷◌, ◌++◌, All, ◌⊎◌, inl, inr, Some, true, length, get_or, drop, reverse, refl, sym, ap, ◌∙◌, subst, append-nil, append_assoc, arith}
use Rattle.std.specs.List.{flat_map, list_all}
use Rattle.std.proofs.lemmas.Bool.{and_parts, cases_lt, false≢true, ltb-true}
use Rattle.std.proofs.lemmas.List.{drop_all, drop_more, reverse-append}
use Rattle.std.proofs.lemmas.List.Concat.{flat_map-append}
use Rattle.std.proofs.lemmas.List.Elements.{All-append, All-cons, All-drop, All-get_or, All-head, All-nil, All-pop, All-push, All-tail}
use Rattle.thread_steps.specs.Steps.{call_of, gone_into}
use Rattle.thread_steps.specs.inner.StepRows.{AreRows, has_end, next_of, row_of, starts_behind, thread_within, until_end}
use Rattle.thread_steps.specs.declared.step.Step.{Step}
use Rattle.thread_steps.specs.declared.step.Step.TheVariants.{Starts, Ends, Forks, Joins}

pub flat_same : {X : Type 0} (f g : X → List Step) (xs : List X) → All (λ x. f x ≡ g x) xs → flat_map f xs ≡ flat_map g xs
flat_same f g [] h = refl
flat_same f g (x ∷ xs) h =
    ap (λ ys. ys ++ flat_map f xs) (All-head (λ x. f x ≡ g x) x xs h)
    ∙ ap (λ ys. g x ++ ys) (flat_same f g xs (All-tail (λ x. f x ≡ g x) x xs h))

-- what holds of each step holds of those up to an end
pub until_within : (P : Step → Type 0) (xs : List Step) → All P xs → All P (until_end xs)
until_within P [] h = h
until_within P (Starts i ∷ xs) h = All-cons P (Starts i) (until_end xs) (All-head P (Starts i) xs h) (until_within P xs (All-tail P (Starts i) xs h))
until_within P (Ends i ∷ xs) h = All-cons P (Ends i) [] (All-head P (Ends i) xs h) (All-nil P)
until_within P (Forks i ∷ xs) h = All-cons P (Forks i) (until_end xs) (All-head P (Forks i) xs h) (until_within P xs (All-tail P (Forks i) xs h))
until_within P (Joins i piece ∷ xs) h = All-cons P (Joins i piece) (until_end xs) (All-head P (Joins i piece) xs h) (until_within P xs (All-tail P (Joins i piece) xs h))

module _ (steps : List Step) (firsts : List ℕ) where
  -- the steps of a thread from a place in a row
  abbrev pub rest_from : ℕ → List Step
  rest_from p = flat_map (gone_into (thread_within steps firsts (length firsts))) (until_end (drop p steps))

  -- a place in a row
  abbrev pub HasEnd : ℕ → Type 0
  HasEnd p = has_end (drop p steps) ≡ true

  -- the steps so far, and the places where the walk goes on, the next one last
  pub record IsOnWalk (call : ℕ) (walked : List Step) (stack : List ℕ) : Type 0 where
    pub told : walked ++ flat_map rest_from (reverse stack) ≡ thread_within steps firsts (length firsts) call
    pub ended : All HasEnd stack
    pub within : All (λ s. call_of s < length firsts) walked

  pub has_place : (p : ℕ) → HasEnd p → p < length steps
  has_place p h = by (cases_lt p (length steps))
    where
      by : (p < length steps) ⊎ (length steps ≤ p) → p < length steps
      by (inl lt) = lt
      by (inr le) = absurd (false≢true (sym (ap has_end (drop_all p steps le)) ∙ h))

module _ (steps : List Step) (firsts : List ℕ) (rows : AreRows steps firsts) where
  -- a step of a call starts one that has so few calls behind it
  starts_less : (n i : ℕ) (s : Step) → length firsts ≤ suc n + i → starts_behind i s ≡ true → call_of s < length firsts
      → ((j : ℕ) → j < length firsts → length firsts ≤ n + j → thread_within steps firsts n j ≡ thread_within steps firsts (suc n) j)
      → gone_into (thread_within steps firsts n) s ≡ gone_into (thread_within steps firsts (suc n)) s
  starts_less n i (Starts j) le behind within same = let lt : i < j = ltb-true i j behind in same j within (omega (arith, lt, le))
  starts_less n i (Ends j) le behind within same = refl
  starts_less n i (Forks j) le behind within same = refl
  starts_less n i (Joins j piece) le behind within same = refl

  all_less : (n i : ℕ) (xs : List Step) → length firsts ≤ suc n + i → list_all (starts_behind i) xs ≡ true → All (λ s. call_of s < length firsts) xs
      → ((j : ℕ) → j < length firsts → length firsts ≤ n + j → thread_within steps firsts n j ≡ thread_within steps firsts (suc n) j)
      → All (λ s. gone_into (thread_within steps firsts n) s ≡ gone_into (thread_within steps firsts (suc n)) s) xs
  all_less n i [] le behind within same = All-nil (λ s. gone_into (thread_within steps firsts n) s ≡ gone_into (thread_within steps firsts (suc n)) s)
  all_less n i (s ∷ xs) le behind within same =
      let both : (starts_behind i s ≡ true) × (list_all (starts_behind i) xs ≡ true) = and_parts (starts_behind i s) (list_all (starts_behind i) xs) behind in
      All-cons (λ s. gone_into (thread_within steps firsts n) s ≡ gone_into (thread_within steps firsts (suc n)) s) s xs
      (starts_less n i s le both.0 (All-head (λ s. call_of s < length firsts) s xs within) same)
      (all_less n i xs le both.1 (All-tail (λ s. call_of s < length firsts) s xs within) same)

  row_same : (n i : ℕ) → i < length firsts → length firsts ≤ suc n + i
      → ((j : ℕ) → j < length firsts → length firsts ≤ n + j → thread_within steps firsts n j ≡ thread_within steps firsts (suc n) j)
      → flat_map (gone_into (thread_within steps firsts n)) (row_of steps firsts i) ≡ flat_map (gone_into (thread_within steps firsts (suc n))) (row_of steps firsts i)
  row_same n i lt le same =
      flat_same (gone_into (thread_within steps firsts n)) (gone_into (thread_within steps firsts (suc n))) (row_of steps firsts i)
      (all_less n i (row_of steps firsts i) le (rows.behind i lt) (until_within (λ s. call_of s < length firsts) (drop (get_or firsts i 0) steps) (All-drop (λ s. call_of s < length firsts) (get_or firsts i 0) steps rows.within)) same)

  thread_same : (n i : ℕ) → i < length firsts → length firsts ≤ n + i → thread_within steps firsts n i ≡ thread_within steps firsts (suc n) i
  thread_same zero i lt le = absurd (let e : ⊥ = omega (arith, lt, le) in e)
  thread_same (suc n) i lt le = ap (λ (ss : List Step). Starts i ∷ ss) (row_same n i lt le (thread_same n))

  thread_step : (n i : ℕ) → i < length firsts → length firsts ≤ n + i → thread_within steps firsts n i ≡ Starts i ∷ flat_map (gone_into (thread_within steps firsts n)) (row_of steps firsts i)
  thread_step zero i lt le = absurd (let e : ⊥ = omega (arith, lt, le) in e)
  thread_step (suc n) i lt le = ap (λ (ss : List Step). Starts i ∷ ss) (row_same n i lt le (thread_same n))

  pub rest_step : (p : ℕ) (s : Step) → s ≡ get_or steps p s → p < length steps → rest_from steps firsts p ≡ s ∷ flat_map (rest_from steps firsts) (reverse (next_of firsts p s))
  rest_step p s is lt = ap (λ (xs : List Step). flat_map (gone_into (thread_within steps firsts (length firsts))) (until_end xs)) (drop_more steps p s lt ∙ ap (λ (t : Step). t ∷ drop (p + 1) steps) (sym is)) ∙ by s within
    where
      within : call_of s < length firsts
      within = subst (λ (t : Step). call_of t < length firsts) (sym is) (All-get_or (λ s. call_of s < length firsts) steps p s lt rows.within)

      by : (s : Step) → call_of s < length firsts → flat_map (gone_into (thread_within steps firsts (length firsts))) (until_end (s ∷ drop (p + 1) steps)) ≡ s ∷ flat_map (rest_from steps firsts) (reverse (next_of firsts p s))
      by (Starts j) less =
          ap (λ (ss : List Step). ss ++ rest_from steps firsts (p + 1)) (thread_step (length firsts) j less (omega arith))
          ∙ ap (λ (ss : List Step). Starts j ∷ (rest_from steps firsts (get_or firsts j 0) ++ ss)) (sym (append-nil (rest_from steps firsts (p + 1))))
      by (Ends j) less = refl
      by (Forks j) less = ap (λ (ss : List Step). Forks j ∷ ss) (sym (append-nil (rest_from steps firsts (p + 1))))
      by (Joins j piece) less = ap (λ (ss : List Step). Joins j piece ∷ ss) (sym (append-nil (rest_from steps firsts (p + 1))))

  next_ended : (p : ℕ) (s : Step) → s ≡ get_or steps p s → (HasEnd steps firsts) p → All (HasEnd steps firsts) (next_of firsts p s)
  next_ended p s is h = by s within (sym (ap has_end (drop_more steps p s (has_place steps firsts p h) ∙ ap (λ (t : Step). t ∷ drop (p + 1) steps) (sym is))) ∙ h)
    where
      within : call_of s < length firsts
      within = subst (λ (t : Step). call_of t < length firsts) (sym is) (All-get_or (λ s. call_of s < length firsts) steps p s (has_place steps firsts p h) rows.within)

      by : (s : Step) → call_of s < length firsts → has_end (s ∷ drop (p + 1) steps) ≡ true → All (HasEnd steps firsts) (next_of firsts p s)
      by (Starts j) less later = All-cons (HasEnd steps firsts) (p + 1) (get_or firsts j 0 ∷ []) later (All-cons (HasEnd steps firsts) (get_or firsts j 0) [] (rows.ended j less) (All-nil (HasEnd steps firsts)))
      by (Ends j) less later = All-nil (HasEnd steps firsts)
      by (Forks j) less later = All-cons (HasEnd steps firsts) (p + 1) [] later (All-nil (HasEnd steps firsts))
      by (Joins j piece) less later = All-cons (HasEnd steps firsts) (p + 1) [] later (All-nil (HasEnd steps firsts))

  pub walk_begins : (call first : ℕ) (none walked : List Step) (empty stack : List ℕ) → call < length firsts → none ≡ [] → walked ≡ none ++ Starts call ∷ [] → empty ≡ [] → first ≡ get_or firsts call 0 → stack ≡ empty ++ first ∷ [] → IsOnWalk steps firsts call walked stack
  walk_begins call first none walked empty stack lt nothing one blank is step = record {
    told = ap (λ (ss : List Step). ss ++ flat_map (rest_from steps firsts) (reverse stack)) start ∙ ap (λ (ps : List ℕ). Starts call ∷ flat_map (rest_from steps firsts) (reverse ps)) top
        ∙ ap (λ (ss : List Step). Starts call ∷ ss) (append-nil (rest_from steps firsts (get_or firsts call 0))) ∙ sym (thread_step (length firsts) call lt (omega arith));
    ended = subst (All (HasEnd steps firsts)) (sym top) (All-cons (HasEnd steps firsts) (get_or firsts call 0) [] (rows.ended call lt) (All-nil (HasEnd steps firsts)));
    within = subst (All (λ s. call_of s < length firsts)) (sym start) (All-cons (λ s. call_of s < length firsts) (Starts call) [] lt (All-nil (λ s. call_of s < length firsts)));
  }
    where
      start : walked ≡ Starts call ∷ []
      start = one ∙ ap (λ (ss : List Step). ss ++ Starts call ∷ []) nothing

      top : stack ≡ get_or firsts call 0 ∷ []
      top = step ∙ ap (λ (ps : List ℕ). ps ++ first ∷ []) blank ∙ ap (λ p. p ∷ []) is

  module _ (call : ℕ) (walked : List Step) (stack under : List ℕ) (p : ℕ) (h : IsOnWalk steps firsts call walked stack) (popped : stack ≡ under ++ p ∷ []) where
    split : All (HasEnd steps firsts) under × (HasEnd steps firsts) p
    split = let s = All-pop (HasEnd steps firsts) stack under (Some p) popped h.ended in (s.0, s.1)

    pub on_top : p < length steps
    on_top = has_place steps firsts p split.1

    module _ (s : Step) (walked2 : List Step) (stack2 : List ℕ) (is : s ≡ get_or steps p s) (more : walked2 ≡ walked ++ s ∷ []) (pushed : stack2 ≡ under ++ next_of firsts p s) where
      pub top_within : call_of s < length firsts
      top_within = subst (λ (t : Step). call_of t < length firsts) (sym is) (All-get_or (λ s. call_of s < length firsts) steps p s on_top rows.within)

      pending : flat_map (rest_from steps firsts) (reverse stack2) ≡ flat_map (rest_from steps firsts) (reverse (next_of firsts p s)) ++ flat_map (rest_from steps firsts) (reverse under)
      pending = ap (λ (ps : List ℕ). flat_map (rest_from steps firsts) (reverse ps)) pushed ∙ ap (flat_map (rest_from steps firsts)) (reverse-append under (next_of firsts p s)) ∙ flat_map-append (rest_from steps firsts) (reverse (next_of firsts p s)) (reverse under)

      before : flat_map (rest_from steps firsts) (reverse stack) ≡ s ∷ (flat_map (rest_from steps firsts) (reverse (next_of firsts p s)) ++ flat_map (rest_from steps firsts) (reverse under))
      before =
          ap (λ (ps : List ℕ). flat_map (rest_from steps firsts) (reverse ps)) popped ∙ ap (flat_map (rest_from steps firsts)) (reverse-append under (p ∷ []))
          ∙ ap (λ (ss : List Step). ss ++ flat_map (rest_from steps firsts) (reverse under)) (rest_step p s is on_top)

      pub walk_more : IsOnWalk steps firsts call walked2 stack2
      walk_more = record {
        told =
            ap (λ (ss : List Step). ss ++ flat_map (rest_from steps firsts) (reverse stack2)) more ∙ append_assoc walked (s ∷ []) (flat_map (rest_from steps firsts) (reverse stack2))
            ∙ ap (λ (ss : List Step). walked ++ s ∷ ss) pending ∙ ap (λ (ss : List Step). walked ++ ss) (sym before) ∙ h.told;
        ended = subst (All (HasEnd steps firsts)) (sym pushed) (All-append (HasEnd steps firsts) under (next_of firsts p s) split.0 (next_ended p s is split.1));
        within = subst (All (λ s. call_of s < length firsts)) (sym more) (All-push (λ s. call_of s < length firsts) walked s h.within top_within);
      }

      pub walk_less : length (flat_map (rest_from steps firsts) (reverse stack2)) < length (flat_map (rest_from steps firsts) (reverse stack))
      walk_less = omega (arith, ap length pending, ap length before)

  pub walk_ends : (call : ℕ) (walked : List Step) (stack : List ℕ) → IsOnWalk steps firsts call walked stack → stack ≡ [] → walked ≡ thread_within steps firsts (length firsts) call
  walk_ends call walked stack h empty = sym (ap (λ (ps : List ℕ). walked ++ flat_map (rest_from steps firsts) (reverse ps)) empty ∙ append-nil walked) ∙ h.told
