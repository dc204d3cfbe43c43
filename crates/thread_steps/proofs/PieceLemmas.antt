-- The pieces behind the joins of one caller differ.
use Rattle.std.proofs.Common.{◌≡◌, ◌⊎◌, inl, inr, ℕ, ◌+◌, ◌<◌, ◌≤◌, List, [], ◌∷◌, ◌++◌, ◌&&◌, ◌||◌, All, Bool, true, false, cond, eqb, Option, Some, None, get_or, nat_eq, refl, sym, ap, ◌∙◌, arith, eq-eqb}
use Rattle.std.specs.List.{count_by, list_any}
use Rattle.std.specs.Option.{option_eq}
use Rattle.std.proofs.lemmas.Bool.{and_parts, cases_Bool, eqb-true, false≢true}
use Rattle.std.proofs.lemmas.List.Elements.{All-head, All-tail}
use Rattle.std.proofs.lemmas.List.Sums.{sum_by-append, sum_by_push}
use Rattle.span_calls.specs.declared.call.Call.{Call}
use Rattle.span_names.specs.declared.piece.Piece.{Piece}
use Rattle.context_forks.specs.Partners.{last_after}
use Rattle.thread_steps.specs.Parts.{Grouping, forks, group_of, is_part_with}
use Rattle.thread_steps.specs.Steps.{part_steps, piece_after, steps_over}
use Rattle.thread_steps.specs.declared.step.Step.{Step}
use Rattle.thread_steps.specs.declared.step.Step.TheVariants.{Starts, Ends, Forks, Joins}
use Rattle.thread_steps.proofs.CountLemmas.{some_inj}
use Rattle.thread_steps.proofs.GapLemmas.{count-cons}

abbrev pub piece_eq : Piece → Piece → Bool
piece_eq p q = eqb p.number q.number && option_eq nat_eq p.gap q.gap

-- the step joins, and the thread goes on in this piece
abbrev pub is_join : Piece → Step → Bool
is_join p (Starts j) = false
is_join p (Ends j) = false
is_join p (Forks j) = false
is_join p (Joins j q) = piece_eq p q

option_same : (a b : Option ℕ) → option_eq nat_eq a b ≡ true → a ≡ b
option_same None None h = refl
option_same None (Some m) h = absurd (false≢true h)
option_same (Some n) None h = absurd (false≢true h)
option_same (Some n) (Some m) h = ap (λ k. Some k) (eqb-true n m h)

pub option_reflexive : (a : Option ℕ) → option_eq nat_eq a a ≡ true
option_reflexive None = refl
option_reflexive (Some n) = eq-eqb n n refl

pub numbers_same : (p q : Piece) → piece_eq p q ≡ true → p.number ≡ q.number
numbers_same p q h = eqb-true p.number q.number (and_parts (eqb p.number q.number) (option_eq nat_eq p.gap q.gap) h).0

pub gaps_same : (p q : Piece) → piece_eq p q ≡ true → p.gap ≡ q.gap
gaps_same p q h = option_same p.gap q.gap (and_parts (eqb p.number q.number) (option_eq nat_eq p.gap q.gap) h).1

pub piece_reflexive : (p : Piece) → piece_eq p p ≡ true
piece_reflexive p = ap (λ b. b && option_eq nat_eq p.gap p.gap) (eq-eqb p.number p.number refl) ∙ option_reflexive p.gap

module _ (calls : List Call) (grouping : Grouping) (group_numbers : List ℕ) (p : Piece) where
  -- how often the piece is joined over parts
  abbrev pub joined : (before parts : List (List ℕ)) → ℕ
  joined before parts = count_by (is_join p) (steps_over calls grouping group_numbers before parts)

  -- the number of the group of a call
  abbrev pub number_of : ℕ → ℕ
  number_of i = get_or group_numbers (group_of grouping i) 0

  -- a part joins into the piece, if its calls are forked and the piece is the one behind it
  abbrev matches : (before later : List (List ℕ)) → ℕ → Bool
  matches before later i = forks grouping i && piece_eq p (piece_after calls grouping group_numbers before later i)

  over_part : (before later : List (List ℕ)) (i : ℕ) (more : List ℕ) → joined before ((i ∷ more) ∷ later) ≡ cond (matches before later i) 1 0 + joined (before ++ (i ∷ more) ∷ []) later
  over_part before later i more =
      sum_by-append (λ s. cond (is_join p s) 1 0) (part_steps calls grouping group_numbers before later (i ∷ more)) (steps_over calls grouping group_numbers (before ++ (i ∷ more) ∷ []) later)
      ∙ ap (λ n. n + joined (before ++ (i ∷ more) ∷ []) later) (by (forks grouping i))
    where
      by : (b : Bool) → count_by (is_join p) (cond b (Forks i ∷ Joins (last_after calls i more) (piece_after calls grouping group_numbers before later i) ∷ []) (Starts i ∷ [])) ≡ cond (b && piece_eq p (piece_after calls grouping group_numbers before later i)) 1 0
      by true = omega (arith, count-cons (is_join p) (Forks i) (Joins (last_after calls i more) (piece_after calls grouping group_numbers before later i) ∷ []), count-cons (is_join p) (Joins (last_after calls i more) (piece_after calls grouping group_numbers before later i)) [])
      by false = refl

  -- a part of one group is one of the other, where the groups are one
  group_same : (i k : ℕ) → forks grouping i ≡ true → forks grouping k ≡ true → group_of grouping i ≡ group_of grouping k → (part : List ℕ) → is_part_with grouping i part ≡ is_part_with grouping k part
  group_same i k one other same [] = refl
  group_same i k one other same (j ∷ more) =
      ap (λ b. b && (forks grouping j && eqb (group_of grouping i) (group_of grouping j))) (one ∙ sym other)
      ∙ ap (λ g. forks grouping k && (forks grouping j && eqb g (group_of grouping j))) same

  own_part : (i : ℕ) (more : List ℕ) → forks grouping i ≡ true → is_part_with grouping i (i ∷ more) ≡ true
  own_part i more one = ap (λ b. b && (b && eqb (group_of grouping i) (group_of grouping i))) one ∙ eq-eqb (group_of grouping i) (group_of grouping i) refl

  counts_same : (i k : ℕ) → ((part : List ℕ) → is_part_with grouping i part ≡ is_part_with grouping k part) → (parts : List (List ℕ)) → count_by (is_part_with grouping i) parts ≡ count_by (is_part_with grouping k) parts
  counts_same i k same [] = refl
  counts_same i k same (part ∷ parts) = omega (arith, count-cons (is_part_with grouping i) part parts, count-cons (is_part_with grouping k) part parts, ap (λ b. cond {A = ℕ} b 1 0) (same part), counts_same i k same parts)

  module _ (P : ℕ → Type 0) where
    module _ (k : ℕ) (forked : forks grouping k ≡ true) (one : (j : ℕ) → P j → forks grouping j ≡ true → number_of j ≡ p.number → group_of grouping j ≡ group_of grouping k) where
      matched : (before later : List (List ℕ)) (i : ℕ) → P i → matches before later i ≡ true → (part : List ℕ) → is_part_with grouping i part ≡ is_part_with grouping k part
      matched before later i h fits =
          let both = and_parts (forks grouping i) (piece_eq p (piece_after calls grouping group_numbers before later i)) fits in
          group_same i k both.0 forked (one i h both.0 (sym (numbers_same p (piece_after calls grouping group_numbers before later i) both.1)))

      -- behind as many parts of its group as the gap says, none is joined into the piece
      none_after : (g : ℕ) → p.gap ≡ Some g → (before parts : List (List ℕ)) → All (All P) parts → g ≤ count_by (is_part_with grouping k) before → joined before parts ≡ 0
      none_after g gap before [] h some = refl
      none_after g gap before ([] ∷ later) h some = none_after g gap (before ++ [] ∷ []) later (All-tail (All P) [] later h) (omega (arith, some, sum_by_push (λ q. cond (is_part_with grouping k q) 1 0) before []))
      none_after g gap before ((i ∷ more) ∷ later) h some =
          let rest = none_after g gap (before ++ (i ∷ more) ∷ []) later (All-tail (All P) (i ∷ more) later h) (omega (arith, some, sum_by_push (λ q. cond (is_part_with grouping k q) 1 0) before (i ∷ more))) in
          omega (arith, over_part before later i more, rest, by (cases_Bool (matches before later i)))
        where
          child : P i
          child = All-head P i more (All-head (All P) (i ∷ more) later h)

          gap_of_part : (b : Bool) → list_any (is_part_with grouping i) later ≡ b → (piece_after calls grouping group_numbers before later i).gap ≡ cond b (Some (1 + count_by (is_part_with grouping i) before)) None
          gap_of_part b e = ap (λ b. cond b (Some (1 + count_by (is_part_with grouping i) before)) None) e

          clash : matches before later i ≡ true → (b : Bool) → list_any (is_part_with grouping i) later ≡ b → ⊥
          clash fits true e =
              let both = and_parts (forks grouping i) (piece_eq p (piece_after calls grouping group_numbers before later i)) fits in
              let same : g ≡ 1 + count_by (is_part_with grouping i) before = some_inj g (1 + count_by (is_part_with grouping i) before) (sym gap ∙ gaps_same p (piece_after calls grouping group_numbers before later i) both.1 ∙ gap_of_part true e) in
              omega (arith, same, some, counts_same i k (matched before later i child fits) before)
          clash fits false e =
              let both = and_parts (forks grouping i) (piece_eq p (piece_after calls grouping group_numbers before later i)) fits in
              some_none g (sym gap ∙ gaps_same p (piece_after calls grouping group_numbers before later i) both.1 ∙ gap_of_part false e)
            where
              some_none : (n : ℕ) → Some n ≡ None → ⊥
              some_none n e = cc

          by : (matches before later i ≡ true) ⊎ (matches before later i ≡ false) → cond {A = ℕ} (matches before later i) 1 0 ≡ 0
          by (inl fits) = absurd (clash fits (list_any (is_part_with grouping i) later) refl)
          by (inr other) = ap (λ b. cond {A = ℕ} b 1 0) other

      -- where no part is of its group, none is joined into the piece
      none_later : (before parts : List (List ℕ)) → All (All P) parts → list_any (is_part_with grouping k) parts ≡ false → joined before parts ≡ 0
      none_later before [] h none = refl
      none_later before ([] ∷ later) h none = none_later (before ++ [] ∷ []) later (All-tail (All P) [] later h) none
      none_later before ((i ∷ more) ∷ later) h none =
          omega (arith, over_part before later i more, none_later (before ++ (i ∷ more) ∷ []) later (All-tail (All P) (i ∷ more) later h) (right (is_part_with grouping k (i ∷ more)) none), by (cases_Bool (matches before later i)))
        where
          right : (b : Bool) → (b || list_any (is_part_with grouping k) later) ≡ false → list_any (is_part_with grouping k) later ≡ false
          right true h = absurd (false≢true (sym h))
          right false h = h

          left : (b : Bool) → (b || list_any (is_part_with grouping k) later) ≡ false → b ≡ false
          left true h = h
          left false h = refl

          by : (matches before later i ≡ true) ⊎ (matches before later i ≡ false) → cond {A = ℕ} (matches before later i) 1 0 ≡ 0
          by (inl fits) =
              let forked = (and_parts (forks grouping i) (piece_eq p (piece_after calls grouping group_numbers before later i)) fits).0 in
              absurd (false≢true (sym (left (is_part_with grouping k (i ∷ more)) none) ∙ sym (matched before later i (All-head P i more (All-head (All P) (i ∷ more) later h)) fits (i ∷ more)) ∙ own_part i more forked))
          by (inr other) = ap (λ b. cond {A = ℕ} b 1 0) other

    -- over parts of one caller a piece is joined once at most
    pub joined_once : ((i j : ℕ) → P i → P j → forks grouping i ≡ true → forks grouping j ≡ true → number_of i ≡ number_of j → group_of grouping i ≡ group_of grouping j) → (before parts : List (List ℕ)) → All (All P) parts → joined before parts ≤ 1
    joined_once one before [] h = omega arith
    joined_once one before ([] ∷ later) h = joined_once one (before ++ [] ∷ []) later (All-tail (All P) [] later h)
    joined_once one before ((i ∷ more) ∷ later) h = by (cases_Bool (matches before later i)) (joined_once one (before ++ (i ∷ more) ∷ []) later (All-tail (All P) (i ∷ more) later h))
      where
        child : P i
        child = All-head P i more (All-head (All P) (i ∷ more) later h)

        rest_none : matches before later i ≡ true → (b : Bool) → list_any (is_part_with grouping i) later ≡ b → joined (before ++ (i ∷ more) ∷ []) later ≡ 0
        rest_none fits true e =
            let both = and_parts (forks grouping i) (piece_eq p (piece_after calls grouping group_numbers before later i)) fits in
            none_after i both.0 (λ j hj fj same. one j i hj child fj both.0 (same ∙ numbers_same p (piece_after calls grouping group_numbers before later i) both.1))
            (1 + count_by (is_part_with grouping i) before)
            (gaps_same p (piece_after calls grouping group_numbers before later i) both.1 ∙ ap (λ b. cond b (Some (1 + count_by (is_part_with grouping i) before)) None) e)
            (before ++ (i ∷ more) ∷ []) later (All-tail (All P) (i ∷ more) later h)
            (omega (arith, sum_by_push (λ q. cond (is_part_with grouping i q) 1 0) before (i ∷ more), ap (λ b. cond {A = ℕ} b 1 0) (own_part i more both.0)))
        rest_none fits false e =
            let both = and_parts (forks grouping i) (piece_eq p (piece_after calls grouping group_numbers before later i)) fits in
            none_later i both.0 (λ j hj fj same. one j i hj child fj both.0 (same ∙ numbers_same p (piece_after calls grouping group_numbers before later i) both.1))
            (before ++ (i ∷ more) ∷ []) later (All-tail (All P) (i ∷ more) later h) e

        by : (matches before later i ≡ true) ⊎ (matches before later i ≡ false) → joined (before ++ (i ∷ more) ∷ []) later ≤ 1 → joined before ((i ∷ more) ∷ later) ≤ 1
        by (inl fits) rest = omega (arith, over_part before later i more, ap (λ b. cond {A = ℕ} b 1 0) fits, rest_none fits (list_any (is_part_with grouping i) later) refl)
        by (inr other) rest = omega (arith, over_part before later i more, ap (λ b. cond {A = ℕ} b 1 0) other, rest)

    -- where a piece is joined, a call is forked whose group has its number
    pub joined_by : (before parts : List (List ℕ)) → All (All P) parts → 0 < joined before parts → (i : ℕ) × P i × (forks grouping i ≡ true) × (number_of i ≡ p.number)
    joined_by before [] h some = absurd (let e : ⊥ = omega (arith, some) in e)
    joined_by before ([] ∷ later) h some = joined_by (before ++ [] ∷ []) later (All-tail (All P) [] later h) some
    joined_by before ((i ∷ more) ∷ later) h some = by (cases_Bool (matches before later i)) (joined_by (before ++ (i ∷ more) ∷ []) later (All-tail (All P) (i ∷ more) later h))
      where
        by : (matches before later i ≡ true) ⊎ (matches before later i ≡ false) → (0 < joined (before ++ (i ∷ more) ∷ []) later → (j : ℕ) × P j × (forks grouping j ≡ true) × (number_of j ≡ p.number))
            → (j : ℕ) × P j × (forks grouping j ≡ true) × (number_of j ≡ p.number)
        by (inl fits) rest =
            let both = and_parts (forks grouping i) (piece_eq p (piece_after calls grouping group_numbers before later i)) fits in
            (i, All-head P i more (All-head (All P) (i ∷ more) later h), both.0, sym (numbers_same p (piece_after calls grouping group_numbers before later i) both.1))
        by (inr other) rest = rest (omega (arith, some, over_part before later i more, ap (λ b. cond {A = ℕ} b 1 0) other))
