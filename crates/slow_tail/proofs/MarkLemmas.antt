-- Marks of names, and lists of what is marked.
use Rattle.std.proofs.Common.{◌≡◌, ◌↔◌, ◌⊎◌, ℕ, ◌+◌, ◌<◌, ◌≤◌, Bool, true, false, cond, List, [], ◌∷◌, ◌++◌, map, length, get_or, set, take, drop, slice_get, Some, All, Contains, arith, refl, sym, ap, ◌∙◌, subst, ⊎_elim, inl, inr}
use Rattle.std.specs.Prelude.{filter, replicate, sum_by}
use Rattle.std.specs.List.{zip}
use Rattle.std.proofs.lemmas.Bool.{cases_eq, cases_lt, false≢true}
use Rattle.std.proofs.lemmas.List.{append-nil, drop_all, take_all, take_more, get_or-replicate, get_or-set_other, get_or-set_same, length-replicate, length-set, length-take-le, map-append}
use Rattle.std.proofs.lemmas.List.Elements.{All-nil, All-cons, All-head, All-tail, Contains-append_cases, Contains-append_left, Contains-append_right, Contains-push, Contains-push_cases}
use Rattle.std.proofs.lemmas.List.Sums.{sum_by-cons}
use Rattle.std.proofs.lemmas.Option.{get_or_from_slice_get, slice_get-get_or, slice_get_past, slice_get_within}
use Rattle.trace_types.specs.declared.named_segment.NamedSegment.{NamedSegment}
use Rattle.trace_types.specs.NamedSegments.{number_of_name}
use Rattle.slow_tail.specs.inner.Marks.{AreMarksOf}
use Rattle.trace_rules.specs.SlowTraces.{marked, unmarked}

-- one more mark
pub mark_one : (marks : List Bool) (k n : ℕ) → k < length marks → (slice_get (set marks k true) n ≡ Some true) ↔ ((slice_get marks n ≡ Some true) ⊎ (k ≡ n))
mark_one marks k n lt = ⊎_elim
    (λ (same : k ≡ n). (
      (λ mark. inr same),
      (λ either. slice_get-get_or (set marks k true) n false (omega (arith, length-set marks k true)) ∙ ap Some (subst (λ (j : ℕ). get_or (set marks k true) j false ≡ true) same (get_or-set_same marks k true false lt))),
    ))
    (λ (differ : k ≡ n → ⊥). (
      (λ mark. inl (sym (other differ) ∙ mark)),
      (λ either. ⊎_elim (λ (mark : slice_get marks n ≡ Some true). other differ ∙ mark) (λ (same : k ≡ n). absurd (differ same)) either),
    ))
    (cases_eq k n)
  where
    other : (k ≡ n → ⊥) → slice_get (set marks k true) n ≡ slice_get marks n
    other differ = ⊎_elim
        (λ (within : n < length marks). slice_get-get_or (set marks k true) n false (omega (arith, length-set marks k true))
        ∙ (ap Some (get_or-set_other marks k n true false (λ e. differ (sym e))) ∙ sym (slice_get-get_or marks n false within)))
        (λ (past : length marks ≤ n). slice_get_past (set marks k true) n (omega (arith, length-set marks k true)) ∙ sym (slice_get_past marks n past))
        (cases_lt n (length marks))

-- without segments nothing is marked
pub no_marks : (names : ℕ) → AreMarksOf names [] (replicate names false)
no_marks names = record {
  count = length-replicate names false;
  exactly = λ n. (
    (λ mark.
        let within : n < length (replicate names false) = slice_get_within (replicate names false) n true mark in
        let told : get_or (replicate names false) n false ≡ true = get_or_from_slice_get (replicate names false) n true false mark in
        absurd (false≢true (sym (get_or-replicate names n false false (omega (arith, length-replicate names false))) ∙ told))),
    (λ (k, lt, e). absurd (omega arith)),
  );
}

-- more segments
pub marks_more : (names : ℕ) (before segments : List NamedSegment) (old new : List Bool) → AreMarksOf names before old → length new ≡ length old
    → ((n : ℕ) → (slice_get new n ≡ Some true) ↔ ((slice_get old n ≡ Some true) ⊎ Contains (map number_of_name segments) n)) → AreMarksOf names (before ++ segments) new
marks_more names before segments old new so_far size told = record {
  count = size ∙ so_far.count;
  exactly = λ n. (
    (λ mark. both n (⊎_elim
        (λ (earlier : slice_get old n ≡ Some true). Contains-append_left (map number_of_name before) (map number_of_name segments) n ((so_far.exactly n).0 earlier))
        (λ (here : Contains (map number_of_name segments) n). Contains-append_right (map number_of_name before) (map number_of_name segments) n here)
        ((told n).0 mark))),
    (λ has. (told n).1 (⊎_elim
        (λ (earlier : Contains (map number_of_name before) n). inl ((so_far.exactly n).1 earlier))
        (λ (here : Contains (map number_of_name segments) n). inr here)
        (Contains-append_cases (map number_of_name before) (map number_of_name segments) n (subst (λ (l : List ℕ). Contains l n) (map-append number_of_name before segments) has)))),
  );
}
  where
    both : (n : ℕ) → Contains (map number_of_name before ++ map number_of_name segments) n → Contains (map number_of_name (before ++ segments)) n
    both n has = subst (λ (l : List ℕ). Contains l n) (sym (map-append number_of_name before segments)) has

-- one more segment in a loop
pub marked_more : (old : List Bool) (before : List ℕ) (marks : List Bool) (k n : ℕ) → k < length marks → ((slice_get marks n ≡ Some true) ↔ ((slice_get old n ≡ Some true) ⊎ Contains before n))
    → (slice_get (set marks k true) n ≡ Some true) ↔ ((slice_get old n ≡ Some true) ⊎ Contains (before ++ k ∷ []) n)
marked_more old before marks k n lt told = (
  (λ mark. ⊎_elim
      (λ (earlier : slice_get marks n ≡ Some true). ⊎_elim
      (λ (first : slice_get old n ≡ Some true). inl first)
      (λ (has : Contains before n). inr (Contains-append_left before (k ∷ []) n has))
      (told.0 earlier))
      (λ (same : k ≡ n). inr (subst (Contains (before ++ k ∷ [])) same (Contains-push before k)))
      ((mark_one marks k n lt).0 mark)),
  (λ either. (mark_one marks k n lt).1 (⊎_elim
      (λ (first : slice_get old n ≡ Some true). inl (told.1 (inl first)))
      (λ (has : Contains (before ++ k ∷ []) n). ⊎_elim
      (λ (earlier : Contains before n). inl (told.1 (inr earlier)))
      (λ (same : k ≡ n). inr same)
      (Contains-push_cases before k n has))
      either)),
)

-- the elements of which the mark passes a test
abbrev pub kept : {X : Type 0} → (Bool → Bool) → List Bool → List X → List X
kept q ms xs = map (λ x. x.1) (filter (λ x. q x.0) (zip ms xs))

-- one more element with its mark
pub kept_push : {X : Type 0} (q : Bool → Bool) (ms : List Bool) (xs : List X) (m : Bool) (x : X) → length ms ≡ length xs → kept q (ms ++ m ∷ []) (xs ++ x ∷ []) ≡ kept q ms xs ++ cond (q m) (x ∷ []) []
kept_push {X} q [] [] m x same = one (q m)
  where
    one : (b : Bool) → map (λ (z : Bool × X). z.1) (cond b ((m, x) ∷ []) []) ≡ cond b (x ∷ []) []
    one true = refl
    one false = refl
kept_push q [] (y ∷ ys) m x same = absurd (omega arith)
kept_push q (n ∷ ns) [] m x same = absurd (omega arith)
kept_push {X} q (n ∷ ns) (y ∷ ys) m x same = go (kept_push q ns ys m x (omega arith)) (q n)
  where
    go : kept q (ns ++ m ∷ []) (ys ++ x ∷ []) ≡ kept q ns ys ++ cond (q m) (x ∷ []) [] → (b : Bool)
        → map (λ (z : Bool × X). z.1) (cond b ((n, y) ∷ filter (λ (z : Bool × X). q z.0) (zip (ns ++ m ∷ []) (ys ++ x ∷ []))) (filter (λ (z : Bool × X). q z.0) (zip (ns ++ m ∷ []) (ys ++ x ∷ []))))
        ≡ map (λ (z : Bool × X). z.1) (cond b ((n, y) ∷ filter (λ (z : Bool × X). q z.0) (zip ns ys)) (filter (λ (z : Bool × X). q z.0) (zip ns ys))) ++ cond (q m) (x ∷ []) []
    go rest true = ap (λ l. y ∷ l) rest
    go rest false = rest

-- one more in a loop
pub kept_more : {X : Type 0} (q : Bool → Bool) (ms : List Bool) (xs : List X) (i : ℕ) (x : X) (b : Bool) → i < length ms → i < length xs → q (get_or ms i false) ≡ b → x ≡ get_or xs i x
    → kept q (take (i + 1) ms) (take (i + 1) xs) ≡ kept q (take i ms) (take i xs) ++ cond b (x ∷ []) []
kept_more {X} q ms xs i x b marked_lt within is at =
    let same : length (take i ms) ≡ length (take i xs) = length-take-le i ms (omega arith) ∙ sym (length-take-le i xs (omega arith)) in
    ap (λ (l : List Bool). kept q l (take (i + 1) xs)) (take_more ms i false marked_lt) ∙ (ap (λ (l : List X). kept q (take i ms ++ get_or ms i false ∷ []) l) (take_more xs i x within)
    ∙ (kept_push q (take i ms) (take i xs) (get_or ms i false) (get_or xs i x) same
    ∙ (ap (λ (t : Bool). kept q (take i ms) (take i xs) ++ cond t (get_or xs i x ∷ []) []) is ∙ ap (λ (y : X). kept q (take i ms) (take i xs) ++ cond b (y ∷ []) []) (sym at))))

-- what holds of all elements holds of the kept ones
pub All-kept : {X : Type 0} (P : X → Type 0) (q : Bool → Bool) (ms : List Bool) (xs : List X) → All P xs → All P (kept q ms xs)
All-kept P q [] xs all = All-nil P
All-kept P q (m ∷ ms) [] all = All-nil P
All-kept {X} P q (m ∷ ms) (x ∷ xs) all = go (All-kept P q ms xs (All-tail P x xs all)) (q m)
  where
    go : All P (kept q ms xs) → (b : Bool) → All P (map (λ (z : Bool × X). z.1) (cond b ((m, x) ∷ filter (λ (z : Bool × X). q z.0) (zip ms xs)) (filter (λ (z : Bool × X). q z.0) (zip ms xs))))
    go rest true = All-cons P x (kept q ms xs) (All-head P x xs all) rest
    go rest false = rest

-- they are no more than all
pub length-kept : {X : Type 0} (q : Bool → Bool) (ms : List Bool) (xs : List X) → length (kept q ms xs) ≤ length xs
length-kept q [] xs = omega arith
length-kept q (m ∷ ms) [] = omega arith
length-kept {X} q (m ∷ ms) (x ∷ xs) = go (length-kept q ms xs) (q m)
  where
    go : length (kept q ms xs) ≤ length xs → (b : Bool) → length (map (λ (z : Bool × X). z.1) (cond b ((m, x) ∷ filter (λ (z : Bool × X). q z.0) (zip ms xs)) (filter (λ (z : Bool × X). q z.0) (zip ms xs)))) ≤ length (x ∷ xs)
    go rest true = omega arith
    go rest false = omega arith

-- a sum over the marked and one over the rest add up
pub sums_add_up : {X : Type 0} (f : X → ℕ) (ms : List Bool) (xs : List X) → length ms ≡ length xs → sum_by f (marked ms xs) + sum_by f (unmarked ms xs) ≡ sum_by f xs
sums_add_up f [] [] same = refl
sums_add_up f [] (x ∷ xs) same = absurd (omega arith)
sums_add_up f (m ∷ ms) [] same = absurd (omega arith)
sums_add_up f (true ∷ ms) (x ∷ xs) same =
    let rest = sums_add_up f ms xs (omega arith) in
    let one = sum_by-cons f x (marked ms xs) in
    let all = sum_by-cons f x xs in
    let e : sum_by f (x ∷ marked ms xs) + sum_by f (unmarked ms xs) ≡ sum_by f (x ∷ xs) = omega arith in
    e
sums_add_up f (false ∷ ms) (x ∷ xs) same =
    let rest = sums_add_up f ms xs (omega arith) in
    let one = sum_by-cons f x (unmarked ms xs) in
    let all = sum_by-cons f x xs in
    let e : sum_by f (marked ms xs) + sum_by f (x ∷ unmarked ms xs) ≡ sum_by f (x ∷ xs) = omega arith in
    e

-- what a loan of a whole vector as a slice writes back
pub written_back : {X : Type 0} (n : ℕ) (old new : List X) → n ≡ length old → length new ≡ length old → take n (new ++ drop (length new) old) ≡ new
written_back {X} n old new size same =
    ap (λ (l : List X). take n (new ++ l)) (drop_all (length new) old (omega arith)) ∙ (ap (take n) (append-nil new) ∙ take_all n new (omega arith))
