-- The numbers of pieces are those of contexts and calls at most.
use Rattle.std.proofs.Common.{◌≡◌, ◌⊎◌, inl, inr, ⊎_elim, ℕ, zero, suc, ◌+◌, ◌^◌, ◌<◌, ◌≤◌, ◌&&◌, List, [], ◌∷◌, ◌++◌, Bool, true, false, cond, max, nat_lt, length, count_by, flat_map, Option, Some, None, IfSome, get_or, refl, ap, subst, arith}
use Rattle.std.specs.Prelude.{⊤}
use Rattle.std.specs.List.{All, list_any, range_with_len}
use Rattle.std.proofs.lemmas.List.{get_or_past, length-append, length-map}
use Rattle.std.proofs.lemmas.List.FromFn.{length-range_with_len}
use Rattle.std.proofs.lemmas.List.Sums.{count_by-le-length, length-filter}
use Rattle.span_calls.specs.declared.call.Call.{Call}
use Rattle.call_trees.proofs.GroupLemmas.{group_at, groups_length}
use Rattle.call_trees.specs.Below.{is_number}
use Rattle.context_forks.specs.Forks.{callers_of, calls_below}
use Rattle.context_forks.specs.Partners.{end_of, last_after, start_of}
use Rattle.span_names.specs.NameLaws.{HasSize}
use Rattle.span_names.specs.declared.piece.Piece.{Piece}
use Rattle.thread_steps.specs.Parts.{Grouping, cut_from, fork_together, forks, group_of, is_part_with, parts_of}
use Rattle.thread_steps.specs.Steps.{gone_into, own_steps, part_steps, piece_after, steps_over, steps_within}
use Rattle.thread_steps.specs.ThreadLaws.{thread_steps}
use Rattle.thread_steps.specs.declared.step.Step.{Step}
use Rattle.thread_steps.specs.declared.step.Step.TheVariants.{Starts, Ends, Forks, Joins}
use Rattle.span_laws.proofs.ApartLemmas.{In}
use Rattle.span_laws.proofs.StampLemmas.{Stamp, stamped}

-- Q holds of each piece that begins in these steps
abbrev pub Begin : (Piece → Type 0) → List Step → Type 0
Begin Q [] = ⊤
Begin Q (Starts i ∷ later) = Begin Q later
Begin Q (Ends i ∷ later) = Begin Q later
Begin Q (Forks i ∷ later) = Begin Q later
Begin Q (Joins i piece ∷ later) = Q piece × Begin Q later

begin_append : (Q : Piece → Type 0) (xs ys : List Step) → Begin Q xs → Begin Q ys → Begin Q (xs ++ ys)
begin_append Q [] ys s t = t
begin_append Q (Starts i ∷ xs) ys s t = begin_append Q xs ys s t
begin_append Q (Ends i ∷ xs) ys s t = begin_append Q xs ys s t
begin_append Q (Forks i ∷ xs) ys s t = begin_append Q xs ys s t
begin_append Q (Joins i r ∷ xs) ys s t = (s.0, begin_append Q xs ys s.1 t)

at_most : (xs : List ℕ) (n k : ℕ) → All (λ x. x ≤ n) xs → get_or xs k 0 ≤ n
at_most [] n k h = omega arith
at_most (x ∷ xs) n zero h = h 0 0 (omega arith)
at_most (x ∷ xs) n (suc k) h = at_most xs n k (λ i d l. h (suc i) d (omega (arith, l)))

-- a piece of so small numbers
pub record IsSmall (numbers gaps : ℕ) (piece : Piece) : Type 0 where
  pub number : piece.number ≤ numbers
  pub gap : IfSome piece.gap (λ g. g ≤ gaps)

module _ (n g : ℕ) (calls : List Call) (grouping : Grouping) (group_numbers : List ℕ) (few : All (λ x. x ≤ n) group_numbers) where
  piece_small : (before later : List (List ℕ)) (i : ℕ) → suc (length before) ≤ g → IsSmall n g (piece_after calls grouping group_numbers before later i)
  piece_small before later i l = record {
    number = at_most group_numbers n (group_of grouping i) few;
    gap = by (list_any (is_part_with grouping i) later);
  }
    where
      by : (b : Bool) → IfSome (cond b (Some (1 + count_by (is_part_with grouping i) before)) None) (λ x. x ≤ g)
      by true = let c = count_by-le-length (is_part_with grouping i) before in omega (arith, c, l)
      by false = tt

  part_small : (before later : List (List ℕ)) (part : List ℕ) → suc (length before) ≤ g → Begin (IsSmall n g) (part_steps calls grouping group_numbers before later part)
  part_small before later [] l = tt
  part_small before later (i ∷ more) l = by (forks grouping i)
    where
      by : (b : Bool) → Begin (IsSmall n g) (cond b (Forks i ∷ Joins (last_after calls i more) (piece_after calls grouping group_numbers before later i) ∷ []) (Starts i ∷ []))
      by true = (piece_small before later i l, tt)
      by false = tt

  over_small : (before parts : List (List ℕ)) → length before + length parts ≤ g → Begin (IsSmall n g) (steps_over calls grouping group_numbers before parts)
  over_small before [] l = tt
  over_small before (part ∷ later) l =
      let a = length-append before (part ∷ []) in
      begin_append (IsSmall n g) (part_steps calls grouping group_numbers before later part) (steps_over calls grouping group_numbers (before ++ part ∷ []) later)
      (part_small before later part (omega (arith, l))) (over_small (before ++ part ∷ []) later (omega (arith, l, a)))

  cut_few : (first : ℕ) (part : List ℕ) (end : ℕ) (later : List ℕ) → length (cut_from calls grouping first part end later) ≤ suc (length later)
  cut_few first part end [] = omega arith
  cut_few first part end (i ∷ later) = by (fork_together grouping first i && nat_lt (start_of calls i) end)
      (cut_few first (part ++ i ∷ []) (max end (end_of calls i)) later) (cut_few i (i ∷ []) (end_of calls i) later)
    where
      by : (b : Bool) → length (cut_from calls grouping first (part ++ i ∷ []) (max end (end_of calls i)) later) ≤ suc (length later)
          → length (cut_from calls grouping i (i ∷ []) (end_of calls i) later) ≤ suc (length later)
          → length (cond b (cut_from calls grouping first (part ++ i ∷ []) (max end (end_of calls i)) later) (part ∷ cut_from calls grouping i (i ∷ []) (end_of calls i) later)) ≤ suc (suc (length later))
      by true s t = omega (arith, s)
      by false s t = omega (arith, t)

  parts_few : (list : List ℕ) → length (parts_of calls grouping list) ≤ length list
  parts_few [] = omega arith
  parts_few (i ∷ later) = cut_few i (i ∷ []) (end_of calls i) later

  own_small : (list : List ℕ) → length list ≤ g → Begin (IsSmall n g) (own_steps calls grouping group_numbers list)
  own_small list l = let f = parts_few list in over_small [] (parts_of calls grouping list) (omega (arith, l, f))

  into_small : (within : ℕ → List Step) → ((i : ℕ) → Begin (IsSmall n g) (within i)) → (steps : List Step) → Begin (IsSmall n g) steps → Begin (IsSmall n g) (flat_map (gone_into within) steps)
  into_small within f [] h = tt
  into_small within f (Starts i ∷ steps) h = begin_append (IsSmall n g) (within i) (flat_map (gone_into within) steps) (f i) (into_small within f steps h)
  into_small within f (Ends i ∷ steps) h = into_small within f steps h
  into_small within f (Forks i ∷ steps) h = into_small within f steps h
  into_small within f (Joins i r ∷ steps) h = (h.0, into_small within f steps h.1)

  within_small : (below : List (List ℕ)) → ((i : ℕ) → length (get_or below i []) ≤ g) → (k i : ℕ) → Begin (IsSmall n g) (steps_within calls below grouping group_numbers k i)
  within_small below f zero i = tt
  within_small below f (suc k) i = begin_append (IsSmall n g) (flat_map (gone_into (steps_within calls below grouping group_numbers k)) (own_steps calls grouping group_numbers (get_or below i []))) (Ends i ∷ [])
      (into_small (steps_within calls below grouping group_numbers k) (within_small below f k) (own_steps calls grouping group_numbers (get_or below i [])) (own_small (get_or below i []) (f i))) tt

below_few : (calls : List Call) (i : ℕ) → length (get_or (calls_below calls) i []) ≤ length calls
below_few calls i = by (nat_lt i (length calls)) refl
  where
    size : length (callers_of calls) ≡ length calls
    size = length-map calls (λ (c : Call). c.caller)

    by : (b : Bool) → nat_lt i (length calls) ≡ b → length (get_or (calls_below calls) i []) ≤ length calls
    by b e = ⊎_elim
        (λ l. let q = ap length (group_at (callers_of calls) (range_with_len 0 (length calls)) i [] (omega (arith, l, size))) in
        let f = length-filter (λ j. is_number i (get_or (callers_of calls) j None)) (range_with_len 0 (length calls)) in
        let c = count_by-le-length (λ j. is_number i (get_or (callers_of calls) j None)) (range_with_len 0 (length calls)) in
        let n = length-range_with_len 0 (length calls) in
        omega (arith, q, f, c, n))
        (λ l. let q = ap length (get_or_past (calls_below calls) i [] (let n = groups_length (callers_of calls) (range_with_len 0 (length calls)) in omega (arith, l, size, n))) in omega (arith, q))
        (order i (length calls))
      where
        order : (a c : ℕ) → (a < c) ⊎ (c ≤ a)
        order a zero = inr (omega arith)
        order zero (suc c) = inl (omega arith)
        order (suc a) (suc c) = ⊎_elim (λ h. inl (omega (arith, h))) (λ h. inr (omega (arith, h))) (order a c)

pub thread_small : (n : ℕ) (calls : List Call) (grouping : Grouping) (group_numbers : List ℕ) → All (λ x. x ≤ n) group_numbers → (h : ℕ) → Begin (IsSmall n (length calls)) (thread_steps calls grouping group_numbers h)
thread_small n calls grouping group_numbers few h = within_small n (length calls) calls grouping group_numbers few (calls_below calls) (below_few calls) (length calls) h

-- ---- stamps

sized : (n g : ℕ) (piece : Piece) → n < 2 ^ 64 → g < 2 ^ 64 → IsSmall n g piece → HasSize (Some piece)
sized n g piece a b s = (let q = s.number in omega (arith, q, a), by piece.gap s.gap)
  where
    by : (o : Option ℕ) → IfSome o (λ x. x ≤ g) → IfSome o (λ x. x < 2 ^ 64)
    by None q = tt
    by (Some x) q = omega (arith, q, b)

-- what stands in the steps of small pieces has the size of names
pub stamps_sized : (n g : ℕ) → n < 2 ^ 64 → g < 2 ^ 64 → (piece : Option Piece) (steps : List Step) → HasSize piece → Begin (IsSmall n g) steps → (a : Stamp) → In (stamped piece steps) a → HasSize a.0
stamps_sized n g x y piece [] s b a h = absurd h
stamps_sized n g x y piece (Starts i ∷ later) s b a (inl e) = subst (λ (z : Stamp). HasSize z.0) e s
stamps_sized n g x y piece (Starts i ∷ later) s b a (inr h) = stamps_sized n g x y piece later s b a h
stamps_sized n g x y piece (Ends i ∷ later) s b a (inl e) = subst (λ (z : Stamp). HasSize z.0) e s
stamps_sized n g x y piece (Ends i ∷ later) s b a (inr h) = stamps_sized n g x y piece later s b a h
stamps_sized n g x y piece (Forks i ∷ later) s b a (inl e) = subst (λ (z : Stamp). HasSize z.0) e s
stamps_sized n g x y piece (Forks i ∷ later) s b a (inr h) = stamps_sized n g x y piece later s b a h
stamps_sized n g x y piece (Joins i q ∷ later) s b a (inl e) = subst (λ (z : Stamp). HasSize z.0) e (sized n g q x y b.0)
stamps_sized n g x y piece (Joins i q ∷ later) s b a (inr h) = stamps_sized n g x y (Some q) later (sized n g q x y b.0) b.1 a h
