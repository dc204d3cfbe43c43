-- Calls of one caller, cut into parts.
use Rattle.std.proofs.Common.{◌≡◌, ℕ, ◌+◌, ◌<◌, ◌≤◌, List, [], ◌∷◌, ◌++◌, ◌&&◌, All, Bool, true, false, cond, length, get_or, map, max, nat_lt, drop, refl, sym, ap, ◌∙◌, append_assoc, arith}
use Rattle.std.proofs.lemmas.Bool.{ltb-false, ltb-true}
use Rattle.std.proofs.lemmas.List.{drop_all, drop_more}
use Rattle.std.proofs.lemmas.List.Elements.{All-cons, All-head, All-nil, All-push, All-same, All-tail, All-weaker}
use Rattle.span_calls.specs.declared.call.Call.{Call}
use Rattle.context_forks.specs.Partners.{end_of, last_after, later_of, start_of}
use Rattle.thread_steps.specs.Parts.{Grouping, cut_from, fork_together, parts_of}
use Rattle.thread_steps.specs.inner.CutParts.{goes_on, part_of, part_with}
use Rattle.thread_steps.specs.declared.parts.Part.{Part}

abbrev pub part_from : ℕ → Part
part_from i = record { first = i; last = i }

module _ (calls : List Call) where
  last_push : (i : ℕ) (more : List ℕ) (j : ℕ) → last_after calls i (more ++ j ∷ []) ≡ later_of calls (last_after calls i more) j
  last_push i [] j = refl
  last_push i (k ∷ more) j = last_push (later_of calls i k) more j

  max_cases : (m n : ℕ) (b : Bool) → nat_lt m n ≡ b → max m n ≡ cond b n m
  max_cases m n true h = let lt : m < n = ltb-true m n h in omega arith
  max_cases m n false h = let le : n ≤ m = ltb-false m n h in omega arith

  later_end : (i j : ℕ) → max (end_of calls i) (end_of calls j) ≡ end_of calls (later_of calls i j)
  later_end i j = max_cases (end_of calls i) (end_of calls j) (nat_lt (end_of calls i) (end_of calls j)) refl ∙ by (nat_lt (end_of calls i) (end_of calls j))
    where
      by : (b : Bool) → cond b (end_of calls j) (end_of calls i) ≡ end_of calls (cond b j i)
      by true = refl
      by false = refl

  module _ (grouping : Grouping) where
    -- the parts of calls, where the last one so far is this
    abbrev pub cut_with : Part → List ℕ → List Part
    cut_with part [] = part ∷ []
    cut_with part (i ∷ later) = cond (goes_on calls grouping part i) (cut_with (part_with calls part i) later) (part ∷ cut_with (part_from i) later)

    cut_same : (first : ℕ) (more : List ℕ) (end : ℕ) (later : List ℕ) → end ≡ end_of calls (last_after calls first more) → map (part_of calls) (cut_from calls grouping first (first ∷ more) end later) ≡ cut_with (part_of calls (first ∷ more)) later
    cut_same first more end [] is = refl
    cut_same first more end (i ∷ later) is =
        ap (λ b. map (part_of calls) (cond b (cut_from calls grouping first ((first ∷ more) ++ i ∷ []) (max end (end_of calls i)) later) ((first ∷ more) ∷ cut_from calls grouping i (i ∷ []) (end_of calls i) later)))
        (ap (λ e. fork_together grouping first i && nat_lt (start_of calls i) e) is)
        ∙ by (goes_on calls grouping (part_of calls (first ∷ more)) i)
        (cut_same first (more ++ i ∷ []) (max end (end_of calls i)) later (ap (λ e. max e (end_of calls i)) is ∙ later_end (last_after calls first more) i ∙ ap (end_of calls) (sym (last_push first more i))))
        (cut_same i [] (end_of calls i) later refl)
      where
        by : (b : Bool)
            → map (part_of calls) (cut_from calls grouping first (first ∷ (more ++ i ∷ [])) (max end (end_of calls i)) later) ≡ cut_with (part_of calls (first ∷ (more ++ i ∷ []))) later
            → map (part_of calls) (cut_from calls grouping i (i ∷ []) (end_of calls i) later) ≡ cut_with (part_from i) later
            → map (part_of calls) (cond b (cut_from calls grouping first ((first ∷ more) ++ i ∷ []) (max end (end_of calls i)) later) ((first ∷ more) ∷ cut_from calls grouping i (i ∷ []) (end_of calls i) later))
            ≡ cond b (cut_with (part_with calls (part_of calls (first ∷ more)) i) later) (part_of calls (first ∷ more) ∷ cut_with (part_from i) later)
        by true on off = on ∙ ap (λ l. cut_with (record { first = first; last = l }) later) (last_push first more i)
        by false on off = ap (λ (ps : List Part). part_of calls (first ∷ more) ∷ ps) off

    pub none_cut : (below : List ℕ) (parts : List Part) → length below ≡ 0 → parts ≡ [] → parts ≡ map (part_of calls) (parts_of calls grouping below)
    none_cut [] parts h is = is
    none_cut (i ∷ later) parts h is = cc

    pub cut_begins : (below : List ℕ) (parts : List Part) (part : Part) → 0 < length below → parts ≡ [] → part ≡ part_from (get_or below 0 0) → parts ++ cut_with part (drop 1 below) ≡ map (part_of calls) (parts_of calls grouping below)
    cut_begins [] parts part h none is = absurd (let e : ⊥ = omega (arith, h) in e)
    cut_begins (i ∷ later) parts part h none is =
        ap (λ (ps : List Part). ps ++ cut_with part later) none ∙ ap (λ (p : Part). cut_with p later) is ∙ sym (cut_same i [] (end_of calls i) later refl)

    cut_next : (part : Part) (below : List ℕ) (at : ℕ) → at < length below → cut_with part (drop at below) ≡ cond (goes_on calls grouping part (get_or below at 0)) (cut_with (part_with calls part (get_or below at 0)) (drop (at + 1) below)) (part ∷ cut_with (part_from (get_or below at 0)) (drop (at + 1) below))
    cut_next part below at lt = ap (cut_with part) (drop_more below at 0 lt)

    pub cut_on : (parts all : List Part) (part new : Part) (below : List ℕ) (at : ℕ) → at < length below → goes_on calls grouping part (get_or below at 0) ≡ true → new ≡ part_with calls part (get_or below at 0) → parts ++ cut_with part (drop at below) ≡ all → parts ++ cut_with new (drop (at + 1) below) ≡ all
    cut_on parts all part new below at lt on is h =
        ap (λ (p : Part). parts ++ cut_with p (drop (at + 1) below)) is
        ∙ ap (λ (ps : List Part). parts ++ ps) (sym (cut_next part below at lt ∙ ap (λ b. cond b (cut_with (part_with calls part (get_or below at 0)) (drop (at + 1) below)) (part ∷ cut_with (part_from (get_or below at 0)) (drop (at + 1) below))) on))
        ∙ h

    pub cut_off : (parts more all : List Part) (part new : Part) (below : List ℕ) (at : ℕ) → at < length below → goes_on calls grouping part (get_or below at 0) ≡ false → more ≡ parts ++ part ∷ [] → new ≡ part_from (get_or below at 0) → parts ++ cut_with part (drop at below) ≡ all → more ++ cut_with new (drop (at + 1) below) ≡ all
    cut_off parts more all part new below at lt off step is h =
        ap (λ (p : Part). more ++ cut_with p (drop (at + 1) below)) is
        ∙ ap (λ (ps : List Part). ps ++ cut_with (part_from (get_or below at 0)) (drop (at + 1) below)) step
        ∙ append_assoc parts (part ∷ []) (cut_with (part_from (get_or below at 0)) (drop (at + 1) below))
        ∙ ap (λ (ps : List Part). parts ++ ps) (sym (cut_next part below at lt ∙ ap (λ b. cond b (cut_with (part_with calls part (get_or below at 0)) (drop (at + 1) below)) (part ∷ cut_with (part_from (get_or below at 0)) (drop (at + 1) below))) off))
        ∙ h

    pub cut_all : (parts more all : List Part) (part : Part) (below : List ℕ) (at : ℕ) → length below ≤ at → more ≡ parts ++ part ∷ [] → parts ++ cut_with part (drop at below) ≡ all → more ≡ all
    cut_all parts more all part below at le step h = step ∙ ap (λ (is : List ℕ). parts ++ cut_with part is) (sym (drop_all at below le)) ∙ h

    -- what holds of each call holds of those of parts
    module _ (P : ℕ → Type 0) where
      cut_within : (first : ℕ) (part : List ℕ) (end : ℕ) (later : List ℕ) → All P part → All P later → All (All P) (cut_from calls grouping first part end later)
      cut_within first part end [] one h = All-cons (All P) part [] one (All-nil (All P))
      cut_within first part end (i ∷ later) one h =
          by (fork_together grouping first i && nat_lt (start_of calls i) end)
          (cut_within first (part ++ i ∷ []) (max end (end_of calls i)) later (All-push P part i one (All-head P i later h)) (All-tail P i later h))
          (cut_within i (i ∷ []) (end_of calls i) later (All-cons P i [] (All-head P i later h) (All-nil P)) (All-tail P i later h))
        where
          by : (b : Bool) → All (All P) (cut_from calls grouping first (part ++ i ∷ []) (max end (end_of calls i)) later) → All (All P) (cut_from calls grouping i (i ∷ []) (end_of calls i) later)
              → All (All P) (cond b (cut_from calls grouping first (part ++ i ∷ []) (max end (end_of calls i)) later) (part ∷ cut_from calls grouping i (i ∷ []) (end_of calls i) later))
          by true on off = on
          by false on off = All-cons (All P) part (cut_from calls grouping i (i ∷ []) (end_of calls i) later) one off

      pub parts_within : (below : List ℕ) → All P below → All (All P) (parts_of calls grouping below)
      parts_within [] h = All-nil (All P)
      parts_within (i ∷ later) h = cut_within i (i ∷ []) (end_of calls i) later (All-cons P i [] (All-head P i later h) (All-nil P)) (All-tail P i later h)

      pub last_within : (i : ℕ) (more : List ℕ) → P i → All P more → P (last_after calls i more)
      last_within i [] one h = one
      last_within i (j ∷ more) one h = last_within (later_of calls i j) more (by (nat_lt (end_of calls i) (end_of calls j))) (All-tail P j more h)
        where
          by : (b : Bool) → P (cond b j i)
          by true = All-head P j more h
          by false = one

    -- each part has a call
    abbrev pub IsFilled : List ℕ → Type 0
    IsFilled [] = ⊥
    IsFilled (i ∷ more) = Unit {0}

    cut_filled : (first : ℕ) (part : List ℕ) (end : ℕ) (later : List ℕ) → IsFilled part → All IsFilled (cut_from calls grouping first part end later)
    cut_filled first part end [] one = All-cons IsFilled part [] one (All-nil IsFilled)
    cut_filled first part end (i ∷ later) one =
        by (fork_together grouping first i && nat_lt (start_of calls i) end)
        (cut_filled first (part ++ i ∷ []) (max end (end_of calls i)) later (pushed part))
        (cut_filled i (i ∷ []) (end_of calls i) later tt)
      where
        pushed : (part : List ℕ) → IsFilled (part ++ i ∷ [])
        pushed [] = tt
        pushed (j ∷ more) = tt

        by : (b : Bool) → All IsFilled (cut_from calls grouping first (part ++ i ∷ []) (max end (end_of calls i)) later) → All IsFilled (cut_from calls grouping i (i ∷ []) (end_of calls i) later)
            → All IsFilled (cond b (cut_from calls grouping first (part ++ i ∷ []) (max end (end_of calls i)) later) (part ∷ cut_from calls grouping i (i ∷ []) (end_of calls i) later))
        by true on off = on
        by false on off = All-cons IsFilled part (cut_from calls grouping i (i ∷ []) (end_of calls i) later) one off

    pub parts_filled : (below : List ℕ) → All IsFilled (parts_of calls grouping below)
    parts_filled [] = All-nil IsFilled
    parts_filled (i ∷ later) = cut_filled i (i ∷ []) (end_of calls i) later tt

    -- what holds of each call holds of the first and the last ones of parts
    module _ (P : ℕ → Type 0) where
      ends_in : (parts : List (List ℕ)) → All (All P) parts → All IsFilled parts → All (λ (p : Part). P p.first × P p.last) (map (part_of calls) parts)
      ends_in [] h filled = All-nil (λ (p : Part). P p.first × P p.last)
      ends_in ([] ∷ parts) h filled = absurd (All-head IsFilled [] parts filled)
      ends_in ((i ∷ more) ∷ parts) h filled =
          let one : All P (i ∷ more) = All-head (All P) (i ∷ more) parts h in
          All-cons (λ (p : Part). P p.first × P p.last) (part_of calls (i ∷ more)) (map (part_of calls) parts) (All-head P i more one, last_within P i more (All-head P i more one) (All-tail P i more one))
          (ends_in parts (All-tail (All P) (i ∷ more) parts h) (All-tail IsFilled (i ∷ more) parts filled))

      pub ends_within : (below : List ℕ) (parts : List Part) → parts ≡ map (part_of calls) (parts_of calls grouping below) → All P below → All (λ (p : Part). P p.first × P p.last) parts
      ends_within below parts is h = All-same (λ (p : Part). P p.first × P p.last) parts (map (part_of calls) (parts_of calls grouping below)) is (ends_in (parts_of calls grouping below) (parts_within P below h) (parts_filled below))

      pub firsts_within : (below : List ℕ) (parts : List Part) → parts ≡ map (part_of calls) (parts_of calls grouping below) → All P below → All (λ (p : Part). P p.first) parts
      firsts_within below parts is h = All-weaker (λ (p : Part). P p.first × P p.last) (λ (p : Part). P p.first) (λ p both. both.0) parts (ends_within below parts is h)

pub one_of : {X : Type 0} (P : X → Type 0) (b : Bool) (x y : X) → P x → P y → P (cond b x y)
one_of P true x y hx hy = hx
one_of P false x y hx hy = hy
