-- Spans by number.
use Rattle.std.proofs.Common.{◌≡◌, ℕ, ◌+◌, ◌<◌, ◌≤◌, ◌⊎◌, inl, inr, List, [], ◌∷◌, ◌++◌, Bool, true, false, eqb, eq-eqb, length, get_or, take, slice_get, Some, refl, sym, ap, ◌∙◌, subst, true≢false, arith}
use Rattle.std.specs.Prelude.{◌&&◌, if◌then◌else◌, find}
use Rattle.std.specs.List.{list_any, position_or_len}
use Rattle.std.specs.Str.{bytes_eq}
use Rattle.std.proofs.lemmas.Bool.{cases_order, ne_eqb}
use Rattle.std.proofs.lemmas.List.{get_or_append_left, get_or_push, length-append, map-append, length-take-le, take_more}
use Rattle.std.proofs.lemmas.Option.{slice_get-get_or, slice_get_within}
use Rattle.std.proofs.lemmas.Slice.Eq.{bytes_eq-Decides}
use Rattle.span_types.specs.declared.span.Span.{Span}
use Rattle.span_requests.specs.SpansOnce.{first_with_id, have_one_id, spans_once}
use Rattle.span_requests.specs.inner.Ids.{IdPair, pair_eq, pair_of, pairs_of}
use Rattle.span_requests.specs.inner.Numbering.{AreNumbered}
use Rattle.span_requests.proofs.FirstLemmas.{firsts-push}
use Rattle.span_requests.proofs.ListLemmas.{any-map, any_from_find, find_left, find_right, found_at, place-map, place_full, place_short, place_within, slice_get_left, slice_get_push, some_inj}

-- ---- ids

and_left : (b c : Bool) → (b && c) ≡ true → b ≡ true
and_left true c h = refl
and_left false c h = h

and_right : (b c : Bool) → (b && c) ≡ true → c ≡ true
and_right true c h = h
and_right false c h = absurd (true≢false (sym h))

pub pair_means : (p q : IdPair) → pair_eq p q ≡ true → p ≡ q
pair_means p q h = let a : p.0 ≡ q.0 = (bytes_eq-Decides p.0 q.0).0 (and_left (bytes_eq p.0 q.0) (bytes_eq p.1 q.1) h) in
    let b : p.1 ≡ q.1 = (bytes_eq-Decides p.1 q.1).0 (and_right (bytes_eq p.0 q.0) (bytes_eq p.1 q.1) h) in
    ap (λ (x : List ℕ). (x, p.1)) a ∙ ap (λ (x : List ℕ). (q.0, x)) b

pub pair_own : (p : IdPair) → pair_eq p p ≡ true
pair_own p = rw ((bytes_eq-Decides p.0 p.0).1 refl, (bytes_eq-Decides p.1 p.1).1 refl) refl

-- the spans once, with one more at the end of the input
pub once_push : (xs : List Span) (s : Span) → spans_once (xs ++ s ∷ []) ≡ (if list_any (have_one_id s) (spans_once xs) then spans_once xs else spans_once xs ++ s ∷ [])
once_push xs s = firsts-push pair_of pair_eq pair_means pair_own xs s

-- ---- one more span

-- the list with one more, unless one with its id is there
abbrev with_span : List Span → Span → List Span
with_span xs s = if list_any (have_one_id s) xs then xs else xs ++ s ∷ []

with_span_there : (xs : List Span) (s : Span) → list_any (have_one_id s) xs ≡ true → with_span xs s ≡ xs
with_span_there xs s h = rw h refl

with_span_new : (xs : List Span) (s : Span) → list_any (have_one_id s) xs ≡ false → with_span xs s ≡ xs ++ s ∷ []
with_span_new xs s h = rw h refl

-- the list after a span with its number is appended where the number is new
pub pushed : (xs : List Span) (s : Span) → (if eqb (position_or_len (have_one_id s) xs) (length xs) then xs ++ s ∷ [] else xs) ≡ with_span xs s
pushed xs s = by (list_any (have_one_id s) xs) refl
  where
    by : (b : Bool) → list_any (have_one_id s) xs ≡ b → (if eqb (position_or_len (have_one_id s) xs) (length xs) then xs ++ s ∷ [] else xs) ≡ with_span xs s
    by true e = let ne : eqb (position_or_len (have_one_id s) xs) (length xs) ≡ false = ne_eqb (position_or_len (have_one_id s) xs) (length xs) (λ q. omega (arith, q, place_short (have_one_id s) xs e)) in rw (ne, e) refl
    by false e = let eq : eqb (position_or_len (have_one_id s) xs) (length xs) ≡ true = eq-eqb (position_or_len (have_one_id s) xs) (length xs) (place_full (have_one_id s) xs e) in rw (eq, e) refl

pub longer : (xs : List Span) (s : Span) → length xs ≤ length (with_span xs s)
longer xs s = by (list_any (have_one_id s) xs)
  where
    by : (b : Bool) → length xs ≤ length (if b then xs else xs ++ s ∷ [])
    by true = omega arith
    by false = omega (arith, length-append xs (s ∷ []))

pub shorter : (xs : List Span) (s : Span) → length (with_span xs s) ≤ length xs + 1
shorter xs s = by (list_any (have_one_id s) xs)
  where
    by : (b : Bool) → length (if b then xs else xs ++ s ∷ []) ≤ length xs + 1
    by true = omega arith
    by false = omega (arith, length-append xs (s ∷ []))

-- the number of a span among the spans with it
number_in : (xs : List Span) (s : Span) → (position_or_len (have_one_id s) xs < length (with_span xs s)) × (first_with_id (with_span xs s) s ≡ slice_get (with_span xs s) (position_or_len (have_one_id s) xs))
number_in xs s = by (list_any (have_one_id s) xs) refl
  where
    n : ℕ
    n = position_or_len (have_one_id s) xs

    Holds : List Span → Type 0
    Holds ys = (position_or_len (have_one_id s) xs < length ys) × (first_with_id ys s ≡ slice_get ys (position_or_len (have_one_id s) xs))

    by : (b : Bool) → list_any (have_one_id s) xs ≡ b → Holds (with_span xs s)
    by true e = subst Holds (sym (with_span_there xs s e)) (place_short (have_one_id s) xs e, found_at (have_one_id s) xs)
    by false e =
        let full = place_full (have_one_id s) xs e in
        let there : find (have_one_id s) (xs ++ s ∷ []) ≡ Some s = find_right (have_one_id s) xs (s ∷ []) e ∙ own s in
        let last : slice_get (xs ++ s ∷ []) (position_or_len (have_one_id s) xs) ≡ Some s = ap (slice_get (xs ++ s ∷ [])) full ∙ slice_get_push xs s in
        subst Holds (sym (with_span_new xs s e)) (omega (arith, full, length-append xs (s ∷ [])), there ∙ sym last)
      where
        own : (t : Span) → find (have_one_id t) (t ∷ []) ≡ Some t
        own t = rw (pair_own (pair_of t)) refl

-- what is found in the spans is found there still with one more
kept : (xs : List Span) (s t : Span) (n : ℕ) → n < length xs → first_with_id xs t ≡ slice_get xs n → (n < length (with_span xs s)) × (first_with_id (with_span xs s) t ≡ slice_get (with_span xs s) n)
kept xs s t n lt h = by (list_any (have_one_id s) xs) refl
  where
    Holds : List Span → Type 0
    Holds ys = (n < length ys) × (first_with_id ys t ≡ slice_get ys n)

    by : (b : Bool) → list_any (have_one_id s) xs ≡ b → Holds (with_span xs s)
    by true e = subst Holds (sym (with_span_there xs s e)) (lt, h)
    by false e =
        let found : find (have_one_id t) xs ≡ Some (get_or xs n s) = h ∙ slice_get-get_or xs n s lt in
        let left = find_left (have_one_id t) xs (s ∷ []) (any_from_find (have_one_id t) xs (get_or xs n s) found) in
        let same : slice_get (xs ++ s ∷ []) n ≡ slice_get xs n = slice_get-get_or (xs ++ s ∷ []) n s (omega (arith, lt, length-append xs (s ∷ []))) ∙ ap (λ (y : Span). Some y) (get_or_append_left xs (s ∷ []) s n lt) ∙ sym (slice_get-get_or xs n s lt) in
        subst Holds (sym (with_span_new xs s e)) (omega (arith, lt, length-append xs (s ∷ [])), left ∙ h ∙ sym same)

module _ (input : List Span) (i : ℕ) (s : Span) (lt : i < length input) (is : s ≡ get_or input i s) where
  next : take (i + 1) input ≡ take i input ++ s ∷ []
  next = take_more input i s lt ∙ ap (λ (x : Span). take i input ++ x ∷ []) (sym is)

  pub next_once : spans_once (take (i + 1) input) ≡ with_span (spans_once (take i input)) s
  next_once = ap spans_once next ∙ once_push (take i input) s

  pub numbered_more : (numbers : List ℕ) → AreNumbered (take i input) (spans_once (take i input)) numbers
      → AreNumbered (take (i + 1) input) (spans_once (take (i + 1) input)) (numbers ++ position_or_len (have_one_id s) (spans_once (take i input)) ∷ [])
  numbered_more numbers h = subst (λ (xs : List Span). AreNumbered (take (i + 1) input) xs (numbers ++ number ∷ [])) (sym next_once) record {
    size = omega (arith, size, long, length-append numbers (number ∷ []));
    within = λ j low. within j (cases_order j i) (omega (arith, low, size, length-append numbers (number ∷ [])));
    first = λ j t there. first j t there (cases_order j i) (omega (arith, slice_get_within (take (i + 1) input) j t there, long));
  }
    where
      once : List Span
      once = spans_once (take i input)

      number : ℕ
      number = position_or_len (have_one_id s) (spans_once (take i input))

      long : length (take (i + 1) input) ≡ i + 1
      long = length-take-le (i + 1) input (omega (arith, lt))

      size : length numbers ≡ i
      size = h.size ∙ length-take-le i input (omega (arith, lt))

      at_last : (j : ℕ) → j ≡ i → get_or (numbers ++ number ∷ []) j 0 ≡ number
      at_last j same = get_or_push numbers number 0 j (omega (arith, same, size))

      at_left : (j : ℕ) → j < i → get_or (numbers ++ number ∷ []) j 0 ≡ get_or numbers j 0
      at_left j low = get_or_append_left numbers (number ∷ []) 0 j (omega (arith, low, size))

      within : (j : ℕ) → (j ≡ i) ⊎ ((j < i) ⊎ (i < j)) → j < i + 1 → get_or (numbers ++ number ∷ []) j 0 < length (with_span once s)
      within j (inl same) low = omega (arith, at_last j same, (number_in once s).0)
      within j (inr (inl less)) low = let k = h.within j (omega (arith, less, size)) in omega (arith, at_left j less, k, longer once s)
      within j (inr (inr more)) low = absurd (omega (arith, more, low))

      first : (j : ℕ) (t : Span) → slice_get (take (i + 1) input) j ≡ Some t → (j ≡ i) ⊎ ((j < i) ⊎ (i < j)) → j < i + 1
          → first_with_id (with_span once s) t ≡ slice_get (with_span once s) (get_or (numbers ++ number ∷ []) j 0)
      first j t there (inl same) low =
          let t_is : t ≡ s = some_inj (sym there ∙ ap (slice_get (take (i + 1) input)) same ∙ ap (λ (xs : List Span). slice_get xs i) next ∙ ap (slice_get (take i input ++ s ∷ [])) (sym (length-take-le i input (omega (arith, lt)))) ∙ slice_get_push (take i input) s) in
          ap (first_with_id (with_span once s)) t_is ∙ (number_in once s).1 ∙ ap (slice_get (with_span once s)) (sym (at_last j same))
      first j t there (inr (inl less)) low =
          let before : slice_get (take i input) j ≡ Some t = sym (slice_get_left (take i input) s j (omega (arith, less, length-take-le i input (omega (arith, lt))))) ∙ ap (λ (xs : List Span). slice_get xs j) (sym next) ∙ there in
          let old = kept once s t (get_or numbers j 0) (h.within j (omega (arith, less, size))) (h.first j t before) in
          old.1 ∙ ap (slice_get (with_span once s)) (sym (at_left j less))
      first j t there (inr (inr more)) low = absurd (omega (arith, more, low))

-- ---- a step of the loop

-- the number that the ids give
pub number_is : (once : List Span) (pairs : List IdPair) (p : IdPair) (s : Span) (n : ℕ) → pairs ≡ pairs_of once → p ≡ pair_of s → n ≡ position_or_len (pair_eq p) pairs → n ≡ position_or_len (have_one_id s) once
number_is once pairs p s n ids own h = h ∙ ap (λ (q : IdPair). position_or_len (pair_eq q) pairs) own ∙ ap (position_or_len (pair_eq (pair_of s))) ids ∙ place-map pair_of (pair_eq (pair_of s)) once

pub number_few : (once : List Span) (s : Span) (n : ℕ) → n ≡ position_or_len (have_one_id s) once → n ≤ length once
number_few once s n h = omega (arith, h, place_within (have_one_id s) once)

-- the ids after one more
pub ids_pushed : (once : List Span) (pairs new : List IdPair) (p : IdPair) (s : Span) → pairs ≡ pairs_of once → p ≡ pair_of s → new ≡ (if list_any (pair_eq p) pairs then pairs else pairs ++ p ∷ []) → new ≡ pairs_of (with_span once s)
ids_pushed once pairs new p s ids own h =
    h ∙ ap (λ (q : IdPair). if list_any (pair_eq q) pairs then pairs else pairs ++ q ∷ []) own
    ∙ ap (λ (ps : List IdPair). if list_any (pair_eq (pair_of s)) ps then ps else ps ++ pair_of s ∷ []) ids
    ∙ ap (λ b. if b then pairs_of once else pairs_of once ++ pair_of s ∷ []) (any-map pair_of (pair_eq (pair_of s)) once)
    ∙ by (list_any (have_one_id s) once)
  where
    by : (b : Bool) → (if b then pairs_of once else pairs_of once ++ pair_of s ∷ []) ≡ pairs_of (if b then once else once ++ s ∷ [])
    by true = refl
    by false = sym (map-append pair_of once (s ∷ []))

-- the spans after one more
pub spans_pushed : (once lent new : List Span) (s : Span) (n size : ℕ) → lent ≡ once → size ≡ length lent → n ≡ position_or_len (have_one_id s) once → new ≡ (if eqb n size then lent ++ s ∷ [] else lent) → new ≡ with_span once s
spans_pushed once lent new s n size is long number h =
    h ∙ ap (λ k. if eqb k size then lent ++ s ∷ [] else lent) number ∙ ap (λ k. if eqb (position_or_len (have_one_id s) once) k then lent ++ s ∷ [] else lent) long
    ∙ ap (λ (xs : List Span). if eqb (position_or_len (have_one_id s) once) (length xs) then xs ++ s ∷ [] else xs) is ∙ pushed once s
