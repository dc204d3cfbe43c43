-- The steps of a call itself.
use Rattle.std.proofs.Common.{◌≡◌, ℕ, ◌+◌, ◌<◌, ◌≤◌, List, [], ◌∷◌, ◌++◌, ◌&&◌, ◌||◌, All, Bool, true, false, cond, Option, Some, None, length, get_or, map, nat_eq, drop, refl, sym, ap, ◌∙◌, append-nil, append_assoc, arith}
use Rattle.std.specs.List.{count_by, list_any}
use Rattle.std.specs.Option.{option_eq}
use Rattle.std.proofs.lemmas.List.{drop_all, drop_more, length-map, map_push}
use Rattle.std.proofs.lemmas.List.Elements.{All-head, All-nil, All-push, All-tail}
use Rattle.span_calls.specs.declared.call.Call.{Call}
use Rattle.context_forks.specs.Partners.{last_after}
use Rattle.thread_steps.specs.Parts.{Grouping, forks, group_of, is_part_with, parts_of}
use Rattle.thread_steps.specs.Steps.{own_steps, part_steps, piece_after, steps_over}
use Rattle.thread_steps.specs.inner.CutParts.{part_of}
use Rattle.thread_steps.specs.inner.Gaps.{gap_of, gaps_over, group_of_part, steps_of_part}
use Rattle.thread_steps.specs.declared.parts.Part.{Part}
use Rattle.thread_steps.specs.declared.step.Step.{Step}
use Rattle.thread_steps.specs.declared.step.Step.TheVariants.{Starts, Forks, Joins}
use Rattle.thread_steps.proofs.CutLemmas.{IsFilled, parts_filled}
use Rattle.thread_steps.proofs.GapLemmas.{count-cons, gap_any, length-gaps}

module _ (grouping : Grouping) (group_numbers : List ℕ) where
  -- the steps over parts, by their gaps
  abbrev pub steps_with : List Part → List (Option ℕ) → List Step
  steps_with [] gaps = []
  steps_with (p ∷ parts) [] = []
  steps_with (p ∷ parts) (g ∷ gaps) = steps_of_part grouping group_numbers p g ++ steps_with parts gaps

  module _ (parts : List Part) (gaps : List (Option ℕ)) (all : List Step) (at : ℕ) where
    pub with_more : (steps new : List Step) (p : Part) (g : Option ℕ) → at < length parts → at < length gaps → p ≡ get_or parts at p → g ≡ get_or gaps at g → new ≡ steps ++ steps_of_part grouping group_numbers p g → steps ++ steps_with (drop at parts) (drop at gaps) ≡ all → new ++ steps_with (drop (at + 1) parts) (drop (at + 1) gaps) ≡ all
    with_more steps new p g lt less part gap step h =
        ap (λ (ss : List Step). ss ++ steps_with (drop (at + 1) parts) (drop (at + 1) gaps)) step
        ∙ append_assoc steps (steps_of_part grouping group_numbers p g) (steps_with (drop (at + 1) parts) (drop (at + 1) gaps))
        ∙ ap (λ (q : Part). steps ++ (steps_of_part grouping group_numbers q g ++ steps_with (drop (at + 1) parts) (drop (at + 1) gaps))) part
        ∙ ap (λ (o : Option ℕ). steps ++ (steps_of_part grouping group_numbers (get_or parts at p) o ++ steps_with (drop (at + 1) parts) (drop (at + 1) gaps))) gap
        ∙ ap (λ (ss : List Step). steps ++ ss) (sym (ap (λ (ps : List Part). steps_with ps (drop at gaps)) (drop_more parts at p lt) ∙ ap (steps_with (get_or parts at p ∷ drop (at + 1) parts)) (drop_more gaps at g less)))
        ∙ h

    pub with_all : (steps : List Step) → length parts ≤ at → steps ++ steps_with (drop at parts) (drop at gaps) ≡ all → steps ≡ all
    with_all steps le h = sym (ap (λ (ps : List Part). steps ++ steps_with ps (drop at gaps)) (drop_all at parts le) ∙ append-nil steps) ∙ h

  module _ (calls : List Call) where
    -- the group of a part, if its calls are forked
    abbrev key : List ℕ → Option ℕ
    key part = group_of_part grouping (part_of calls part)

    module _ (i : ℕ) (forked : forks grouping i ≡ true) where
      fork_same : (part : List ℕ) → IsFilled calls grouping part → is_part_with grouping i part ≡ option_eq nat_eq (Some (group_of grouping i)) (key part)
      fork_same [] h = absurd h
      fork_same (j ∷ more) h = ap (λ b. b && (forks grouping j && nat_eq (group_of grouping i) (group_of grouping j))) forked ∙ by (forks grouping j)
        where
          by : (b : Bool) → (true && (b && nat_eq (group_of grouping i) (group_of grouping j))) ≡ option_eq nat_eq (Some (group_of grouping i)) (cond b (Some (group_of grouping j)) None)
          by true = refl
          by false = refl

      count_same : (parts : List (List ℕ)) → All (IsFilled calls grouping) parts → count_by (is_part_with grouping i) parts ≡ count_by (option_eq nat_eq (Some (group_of grouping i))) (map key parts)
      count_same [] h = refl
      count_same (part ∷ parts) h =
          count-cons (is_part_with grouping i) part parts
          ∙ ap (λ b. cond b 1 0 + count_by (is_part_with grouping i) parts) (fork_same part (All-head (IsFilled calls grouping) part parts h))
          ∙ ap (λ n. cond (option_eq nat_eq (Some (group_of grouping i)) (key part)) 1 0 + n) (count_same parts (All-tail (IsFilled calls grouping) part parts h))
          ∙ sym (count-cons (option_eq nat_eq (Some (group_of grouping i))) (key part) (map key parts))

      any_same : (parts : List (List ℕ)) → All (IsFilled calls grouping) parts → list_any (is_part_with grouping i) parts ≡ list_any (option_eq nat_eq (Some (group_of grouping i))) (map key parts)
      any_same [] h = refl
      any_same (part ∷ parts) h =
          ap (λ b. b || list_any (is_part_with grouping i) parts) (fork_same part (All-head (IsFilled calls grouping) part parts h))
          ∙ ap (λ b. option_eq nat_eq (Some (group_of grouping i)) (key part) || b) (any_same parts (All-tail (IsFilled calls grouping) part parts h))

      gap_same : (before later : List (List ℕ)) → All (IsFilled calls grouping) before → All (IsFilled calls grouping) later → (piece_after calls grouping group_numbers before later i).gap ≡ gap_of (Some (group_of grouping i)) (count_by (option_eq nat_eq (Some (group_of grouping i))) (map key before) + 1) (count_by (option_eq nat_eq (Some (group_of grouping i))) (map key later) + 1)
      gap_same before later hb hl =
          ap (λ b. cond b (Some (1 + count_by (is_part_with grouping i) before)) None) (any_same later hl)
          ∙ ap (λ n. cond (list_any (option_eq nat_eq (Some (group_of grouping i))) (map key later)) (Some n) None) (let e : 1 + count_by (is_part_with grouping i) before ≡ count_by (option_eq nat_eq (Some (group_of grouping i))) (map key before) + 1 = omega (arith, count_same before hb) in e)
          ∙ sym (gap_any (option_eq nat_eq (Some (group_of grouping i))) (map key later) (group_of grouping i) (count_by (option_eq nat_eq (Some (group_of grouping i))) (map key before) + 1))

    -- the gap of a part with this key
    abbrev gap_at : (before later : List (List ℕ)) → Option ℕ → Option ℕ
    gap_at before later k = gap_of k (count_by (option_eq nat_eq k) (map key before) + 1) (count_by (option_eq nat_eq k) (map key later) + 1)

    part_same : (before later : List (List ℕ)) (i : ℕ) (more : List ℕ) → All (IsFilled calls grouping) before → All (IsFilled calls grouping) later → part_steps calls grouping group_numbers before later (i ∷ more) ≡ steps_of_part grouping group_numbers (part_of calls (i ∷ more)) (gap_at before later (key (i ∷ more)))
    part_same before later i more hb hl = by (forks grouping i) refl
      where
        by : (b : Bool) → forks grouping i ≡ b → cond b (Forks i ∷ Joins (last_after calls i more) (piece_after calls grouping group_numbers before later i) ∷ []) (Starts i ∷ [])
            ≡ cond b (Forks i ∷ Joins (last_after calls i more) (record { number = get_or group_numbers (group_of grouping i) 0; gap = gap_at before later (cond b (Some (group_of grouping i)) None) }) ∷ []) (Starts i ∷ [])
        by true h = ap (λ (g : Option ℕ). Forks i ∷ Joins (last_after calls i more) (record { number = get_or group_numbers (group_of grouping i) 0; gap = g }) ∷ []) (gap_same i h before later hb hl)
        by false h = refl

    over_same : (before parts : List (List ℕ)) → All (IsFilled calls grouping) before → All (IsFilled calls grouping) parts → steps_over calls grouping group_numbers before parts ≡ steps_with (map (part_of calls) parts) (gaps_over (map key before) (map key parts))
    over_same before [] hb hp = refl
    over_same before ([] ∷ later) hb hp = absurd (All-head (IsFilled calls grouping) [] later hp)
    over_same before ((i ∷ more) ∷ later) hb hp =
        ap (λ (ss : List Step). ss ++ steps_over calls grouping group_numbers (before ++ (i ∷ more) ∷ []) later) (part_same before later i more hb (All-tail (IsFilled calls grouping) (i ∷ more) later hp))
        ∙ ap (λ (ss : List Step). steps_of_part grouping group_numbers (part_of calls (i ∷ more)) (gap_at before later (key (i ∷ more))) ++ ss)
        (over_same (before ++ (i ∷ more) ∷ []) later (All-push (IsFilled calls grouping) before (i ∷ more) hb tt) (All-tail (IsFilled calls grouping) (i ∷ more) later hp)
        ∙ ap (λ (ks : List (Option ℕ)). steps_with (map (part_of calls) later) (gaps_over ks (map key later))) (map_push key before (i ∷ more)))

    map_twice : (parts : List (List ℕ)) → map (group_of_part grouping) (map (part_of calls) parts) ≡ map key parts
    map_twice [] = refl
    map_twice (part ∷ parts) = ap (λ (ks : List (Option ℕ)). key part ∷ ks) (map_twice parts)

    -- the steps over the parts of calls are those of their caller
    pub own_same : (below : List ℕ) (parts : List Part) (gaps : List (Option ℕ)) → parts ≡ map (part_of calls) (parts_of calls grouping below) → gaps ≡ gaps_over [] (map (group_of_part grouping) parts) → steps_with parts gaps ≡ own_steps calls grouping group_numbers below
    own_same below parts gaps is told =
        ap (steps_with parts) (told ∙ ap (λ (ps : List Part). gaps_over [] (map (group_of_part grouping) ps)) is ∙ ap (gaps_over []) (map_twice (parts_of calls grouping below)))
        ∙ ap (λ (ps : List Part). steps_with ps (gaps_over [] (map key (parts_of calls grouping below)))) is
        ∙ sym (over_same [] (parts_of calls grouping below) (All-nil (IsFilled calls grouping)) (parts_filled calls grouping below))

-- there is a gap for each part
pub gap_there : (grouping : Grouping) (parts : List Part) (gaps : List (Option ℕ)) (at : ℕ) → gaps ≡ gaps_over [] (map (group_of_part grouping) parts) → at < length parts → at < length gaps
gap_there grouping parts gaps at told lt = omega (arith, lt, ap length told, length-gaps [] (map (group_of_part grouping) parts), length-map parts (group_of_part grouping))
