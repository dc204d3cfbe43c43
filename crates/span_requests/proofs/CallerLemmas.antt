-- Callers by number, and spans that repeat an id.
use Rattle.std.proofs.Common.{◌≡◌, ℕ, ◌+◌, ◌<◌, ◌≤◌, ◌⊎◌, inl, inr, List, [], ◌∷◌, ◌++◌, Bool, true, false, length, get_or, map, take, slice_get, Option, Some, None, Bor, refl, sym, ap, ◌∙◌, subst, true≢false, ltb, arith}
use Rattle.std.specs.Prelude.{◌&&◌, ◌||◌, not, if◌then◌else◌, find, filter, is_some, is_none, position}
use Rattle.std.specs.List.{list_any, position_or_len}
use Rattle.std.specs.Str.{bytes_eq}
use Rattle.std.proofs.lemmas.Bool.{cases_order, lt-ltb, le-ltb}
use Rattle.std.proofs.lemmas.List.{get_or-map, length-map, map_more}
use Rattle.std.proofs.lemmas.List.Folds.{list_any_none}
use Rattle.std.proofs.lemmas.List.Sums.{position_or_len_is}
use Rattle.std.proofs.Math.Seq.{take-length}
use Rattle.std.proofs.lemmas.Option.{get_or_from_slice_get, slice_get-get_or}
use Rattle.span_types.specs.declared.span.Span.{Span}
use Rattle.span_requests.specs.Callers.{is_consumer, is_parent, is_parent_id, misses_parent}
use Rattle.span_requests.specs.SpansOnce.{first_with_id, have_one_content, have_one_id, repeats_id, spans_once}
use Rattle.span_requests.specs.inner.Ids.{IdPair, lent_spans, pair_eq, pair_of, pairs_of}
use Rattle.span_requests.specs.inner.Numbering.{AreNumbered, caller_number, parent_number, parent_place}
use Rattle.span_requests.proofs.FirstLemmas.{flips}
use Rattle.span_requests.proofs.ListLemmas.{place_full, place_short, position-map}
use Rattle.span_requests.proofs.NumberingLemmas.{pair_means, pair_own}

pub map_lent : {Y : Type 0} (f : Span → Y) (xs : List (Bor Span)) → map (λ (s : Bor Span). f s.now) xs ≡ map f (lent_spans xs)
map_lent f [] = refl
map_lent f (x ∷ xs) = ap (λ ys. f x.now ∷ ys) (map_lent f xs)

pub lent_size : (xs : List (Bor Span)) → length (lent_spans xs) ≡ length xs
lent_size xs = length-map xs (λ (s : Bor Span). s.now)

module _ {X : Type 0} (p : X → Bool) where
  pub is_none-position : (xs : List X) → is_none (position p xs) ≡ not (list_any p xs)
  is_none-position xs = by (list_any p xs) refl
    where
      by : (b : Bool) → list_any p xs ≡ b → is_none (position p xs) ≡ not (list_any p xs)
      by true e = let t : ltb (position_or_len p xs) (length xs) ≡ true = lt-ltb (position_or_len p xs) (length xs) (place_short p xs e) in rw (t, e) refl
      by false e = let t : ltb (position_or_len p xs) (length xs) ≡ false = le-ltb (position_or_len p xs) (length xs) (omega (arith, place_full p xs e)) in rw (t, e) refl

-- ---- parents

never : {X : Type 0} (q : X → Bool) (xs : List X) → list_any (λ x. q x && false) xs ≡ false
never q [] = refl
never q (x ∷ xs) = by (q x) (never q xs)
  where
    by : (b : Bool) → list_any (λ x. q x && false) xs ≡ false → ((b && false) || list_any (λ x. q x && false) xs) ≡ false
    by true h = h
    by false h = h

pub no_parent : (spans : List Span) (trace : List ℕ) → position (λ (p : Span). bytes_eq trace p.trace && false) spans ≡ None
no_parent spans trace = let t : ltb (position_or_len (λ (p : Span). bytes_eq trace p.trace && false) spans) (length spans) ≡ false = le-ltb _ _ (omega (arith, place_full (λ (p : Span). bytes_eq trace p.trace && false) spans (never (λ (p : Span). bytes_eq trace p.trace) spans))) in rw t refl

pub parent_place_is : (spans : List Span) (s : Span) → parent_place (pairs_of spans) s.trace s.parent ≡ parent_number spans s
parent_place_is spans s = by s.parent
  where
    by : (o : Option (List ℕ)) → parent_place (pairs_of spans) s.trace o ≡ position (λ (p : Span). bytes_eq s.trace p.trace && is_parent_id o p.id) spans
    by None = sym (no_parent spans s.trace)
    by (Some q) = position-map pair_of (pair_eq (s.trace, q)) spans

pub caller_is : (spans : List Span) (s : Span) → caller_number spans s ≡ (if is_consumer s.kind then None else parent_number spans s)
caller_is spans s = by (is_consumer s.kind)
  where
    none : (xs : List Span) → list_any (λ (p : Span). not true && is_parent p s) xs ≡ false
    none [] = refl
    none (x ∷ xs) = none xs

    by : (b : Bool) → position (λ (p : Span). not b && is_parent p s) spans ≡ (if b then None else parent_number spans s)
    by true = let t : ltb (position_or_len (λ (p : Span). not true && is_parent p s) spans) (length spans) ≡ false = le-ltb _ _ (omega (arith, place_full (λ (p : Span). not true && is_parent p s) spans (none spans))) in rw t refl
    by false = refl

pub missing_is : (spans : List Span) (s : Span) → misses_parent spans s ≡ (is_some s.parent && is_none (parent_number spans s))
missing_is spans s = ap (λ b. is_some s.parent && b) (sym (is_none-position (λ (p : Span). is_parent p s) spans))

pub pairs_few : (xs : List (Bor Span)) (pairs : List IdPair) → pairs ≡ pairs_of (lent_spans xs) → length pairs ≡ length xs
pairs_few xs pairs h = ap length h ∙ length-map (lent_spans xs) pair_of ∙ lent_size xs

-- the number of the parent by the ids is its number
pub parent_by : (xs : List (Bor Span)) (pairs : List IdPair) (s : Span) (r : Option ℕ) → pairs ≡ pairs_of (lent_spans xs) → r ≡ parent_place pairs s.trace s.parent → r ≡ parent_number (lent_spans xs) s
parent_by xs pairs s r ids h = h ∙ ap (λ (ps : List IdPair). parent_place ps s.trace s.parent) ids ∙ parent_place_is (lent_spans xs) s

-- ---- steps of the loops

pub found_more : {Y : Type 0} (f : Span → Y) (xs : List (Bor Span)) (i : ℕ) (s : Bor Span) (y : Y) (ys new : List Y) → i < length xs → s ≡ get_or xs i s → ys ≡ map (λ (s : Bor Span). f s.now) (take i xs) → y ≡ f s.now → new ≡ ys ++ y ∷ [] → new ≡ map (λ (s : Bor Span). f s.now) (take (i + 1) xs)
found_more f xs i s y ys new lt is h own step =
    step ∙ ap (λ zs. zs ++ y ∷ []) h ∙ ap (λ z. map (λ (s : Bor Span). f s.now) (take i xs) ++ z ∷ []) (own ∙ ap (λ (t : Bor Span). f t.now) is)
    ∙ sym (map_more (λ (s : Bor Span). f s.now) xs i s lt)

pub found_all : {Y : Type 0} (f : Span → Y) (xs : List (Bor Span)) (i : ℕ) (ys : List Y) → length xs ≤ i → i ≤ length xs → ys ≡ map (λ (s : Bor Span). f s.now) (take i xs) → ys ≡ map f (lent_spans xs)
found_all f xs i ys low high h =
    let e : i ≡ length xs = omega arith in
    h ∙ ap (λ k. map (λ (s : Bor Span). f s.now) (take k xs)) e ∙ ap (map (λ (s : Bor Span). f s.now)) (take-length xs) ∙ map_lent f xs

-- the number of the parent of the span at a place
pub number_at : {Y : Type 0} (f : Span → Y) (xs : List (Bor Span)) (i : ℕ) (s : Bor Span) (ys : List Y) (d : Y) → i < length xs → s ≡ get_or xs i s → ys ≡ map f (lent_spans xs) → get_or ys i d ≡ f s.now
number_at f xs i s ys d lt is h =
    ap (λ zs. get_or zs i d) (h ∙ sym (map_lent f xs)) ∙ get_or-map (λ (s : Bor Span). f s.now) xs i s d lt ∙ ap (λ (t : Bor Span). f t.now) (sym is)

-- ---- spans that repeat an id

module _ (s : Span) where
  find_filter : (q : Span → Bool) → ((z : Span) → have_one_id s z ≡ true → q z ≡ true) → (xs : List Span) → find (have_one_id s) (filter q xs) ≡ find (have_one_id s) xs
  find_filter q keeps [] = refl
  find_filter q keeps (x ∷ xs) = by (q x) (have_one_id s x) refl refl (find_filter q keeps xs)
    where
      by : (b c : Bool) → q x ≡ b → have_one_id s x ≡ c → find (have_one_id s) (filter q xs) ≡ find (have_one_id s) xs → find (have_one_id s) (filter q (x ∷ xs)) ≡ find (have_one_id s) (x ∷ xs)
      by true true e f r = rw (e, f) refl
      by true false e f r = rw (e, f, r) refl
      by false true e f r = absurd (true≢false (sym (keeps x f) ∙ e))
      by false false e f r = rw (e, f, r) refl

  -- the first span with an id stands among the spans once
  pub find_once : (xs : List Span) → find (have_one_id s) (spans_once xs) ≡ find (have_one_id s) xs
  find_once [] = refl
  find_once (x ∷ xs) = by (have_one_id s x) refl (find_once xs)
    where
      keeps : have_one_id s x ≡ false → (z : Span) → have_one_id s z ≡ true → not (have_one_id x z) ≡ true
      keeps e z h =
          let f : have_one_id x s ≡ false = flips pair_of pair_eq pair_means pair_own s x e in
          let g : have_one_id x z ≡ false = subst (λ (k : IdPair). pair_eq (pair_of x) k ≡ false) (pair_means (pair_of s) (pair_of z) h) f in rw g refl

      by : (b : Bool) → have_one_id s x ≡ b → find (have_one_id s) (spans_once xs) ≡ find (have_one_id s) xs → find (have_one_id s) (spans_once (x ∷ xs)) ≡ find (have_one_id s) (x ∷ xs)
      by true e r = rw e refl
      by false e r = let k = find_filter (λ (z : Span). not (have_one_id x z)) (keeps e) (spans_once xs) in rw (e, k, r) refl

-- whether the span at an index repeats an id
pub repeat_is : (input : List Span) (lent : List (Bor Span)) (numbers : List ℕ) (i : ℕ) (s : Span) (f : Bor Span) → lent_spans lent ≡ spans_once input → AreNumbered input (spans_once input) numbers
    → i < length input → s ≡ get_or input i s → f ≡ get_or lent (get_or numbers i 0) f → repeats_id input s ≡ not (have_one_content f.now s)
repeat_is input lent numbers i s f once h lt is at = rw first refl
  where
    there : slice_get input i ≡ Some s
    there = slice_get-get_or input i s lt ∙ ap (λ (t : Span). Some t) (sym is)

    low : get_or numbers i 0 < length lent
    low = omega (arith, h.within i (omega (arith, lt, h.size)), lent_size lent, ap length once)

    found : slice_get (lent_spans lent) (get_or numbers i 0) ≡ Some f.now
    found = slice_get-get_or (lent_spans lent) (get_or numbers i 0) f.now (omega (arith, low, lent_size lent)) ∙ ap (λ (t : Span). Some t) (get_or-map (λ (t : Bor Span). t.now) lent (get_or numbers i 0) f f.now low ∙ ap (λ (t : Bor Span). t.now) (sym at))

    first : first_with_id input s ≡ Some f.now
    first = sym (find_once s input) ∙ h.first i s there ∙ ap (λ (xs : List Span). slice_get xs (get_or numbers i 0)) (sym once) ∙ found

-- ---- the first that passes

module _ {X : Type 0} (p : X → Bool) (xs : List X) where
  pub position_at : (i : ℕ) (x : X) → i < length xs → x ≡ get_or xs i x → p x ≡ true → ((k : ℕ) (d : X) → k < i → p (get_or xs k d) ≡ false) → position p xs ≡ Some i
  position_at i x lt is own before =
      let place = position_or_len_is p xs i x (omega (arith, lt)) (λ k low. before k x low) (λ _. ap p (sym is) ∙ own) in
      let t : ltb (position_or_len p xs) (length xs) ≡ true = lt-ltb (position_or_len p xs) (length xs) (omega (arith, place, lt)) in
      rw (t, place) refl

  pub position_nowhere : (i : ℕ) → length xs ≤ i → ((k : ℕ) (d : X) → k < i → p (get_or xs k d) ≡ false) → position p xs ≡ None
  position_nowhere i past before =
      let none = list_any_none p xs (λ k d low. before k d (omega (arith, low, past))) in
      let t : ltb (position_or_len p xs) (length xs) ≡ false = le-ltb (position_or_len p xs) (length xs) (omega (arith, place_full p xs none)) in
      rw t refl

  pub none_more : (i : ℕ) (x : X) → i < length xs → x ≡ get_or xs i x → p x ≡ false → ((k : ℕ) (d : X) → k < i → p (get_or xs k d) ≡ false) → (k : ℕ) (d : X) → k < i + 1 → p (get_or xs k d) ≡ false
  none_more i x lt is own before k d low = by (cases_order k i)
    where
      same : (e : X) → get_or xs i e ≡ x
      same e = get_or_from_slice_get xs i x e (slice_get-get_or xs i x lt ∙ ap (λ y. Some y) (sym is))

      by : (k ≡ i) ⊎ ((k < i) ⊎ (i < k)) → p (get_or xs k d) ≡ false
      by (inl e) = ap (λ m. p (get_or xs m d)) e ∙ ap p (same d) ∙ own
      by (inr (inl less)) = before k d less
      by (inr (inr more)) = absurd (omega (arith, more, low))
