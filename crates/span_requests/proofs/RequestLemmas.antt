-- Circles among the spans of an input.
use Rattle.std.proofs.Common.{◌≡◌, ℕ, zero, suc, ◌||◌, ◌+◌, ◌<◌, List, [], ◌∷◌, All, Bool, true, false, cond, eqb, ltb, length, get_or, map, slice_get, Option, Some, None, refl, sym, ap, ◌∙◌, subst, true≢false, arith}
use Rattle.std.specs.Prelude.{◌&&◌, not, filter, find, is_some, position}
use Rattle.std.specs.List.{list_any, position_or_len}
use Rattle.std.specs.Option.{option_and_then}
use Rattle.std.specs.Str.{bytes_eq}
use Rattle.std.proofs.lemmas.Bool.{and_parts, eqb-true, le-ltb, lt-ltb}
use Rattle.std.proofs.lemmas.List.{get_or-map, length-map}
use Rattle.std.proofs.lemmas.List.Elements.{All-from_get_or}
use Rattle.std.proofs.lemmas.Option.{get_or_from_slice_get, slice_get_within}
use Rattle.std.proofs.lemmas.Slice.Eq.{bytes_eq-Decides}
use Rattle.span_types.specs.declared.span.Span.{Span}
use Rattle.span_types.specs.declared.span_kind.SpanKind.{SpanKind}
use Rattle.span_types.specs.declared.span_kind.SpanKind.TheVariants.{Unspecified, Internal, Server, Client, Producer, Consumer}
use Rattle.span_requests.specs.Callers.{caller_above, caller_number, caller_numbers, caller_of, is_caller, is_consumer, is_endless, is_parent_id}
use Rattle.span_requests.specs.SpansOnce.{first_with_id, have_one_content, have_one_id, have_one_parent, kind_number, repeats_id, says_otherwise, spans_once}
use Rattle.span_requests.specs.CallerNumbers.{HaveLastCallers}
use Rattle.span_requests.specs.inner.Circles.{AreCallers, leads_to_circle, number_above}
use Rattle.span_requests.specs.inner.Numbering.{AreNumbered}
use Rattle.span_requests.proofs.CallerLemmas.{find_once}
use Rattle.span_requests.proofs.ListLemmas.{found_at, place_full, place_short, some_inj}

-- ---- positions

module _ {X : Type 0} (p : X → Bool) (xs : List X) where
  pub position_some : list_any p xs ≡ true → position p xs ≡ Some (position_or_len p xs)
  position_some e = let t : ltb (position_or_len p xs) (length xs) ≡ true = lt-ltb (position_or_len p xs) (length xs) (place_short p xs e) in rw t refl

  pub position_none : list_any p xs ≡ false → position p xs ≡ None
  position_none e = let t : ltb (position_or_len p xs) (length xs) ≡ false = le-ltb (position_or_len p xs) (length xs) (omega (arith, place_full p xs e)) in rw t refl

  none_passes : position p xs ≡ None → list_any p xs ≡ false
  none_passes h = by (list_any p xs) refl
    where
      absurd_some : {n : ℕ} → Some n ≡ None → ⊥
      absurd_some e = cc

      by : (b : Bool) → list_any p xs ≡ b → list_any p xs ≡ false
      by true e = absurd (absurd_some (sym (position_some e) ∙ h))
      by false e = e

any_false_at : {X : Type 0} (p : X → Bool) (xs : List X) (i : ℕ) (x : X) → list_any p xs ≡ false → slice_get xs i ≡ Some x → p x ≡ false
any_false_at p [] i x h there = cc
any_false_at p (y ∷ xs) zero x h there = by (p y) refl h
  where
    is : y ≡ x
    is = cc

    by : (b : Bool) → p y ≡ b → (p y || list_any p xs) ≡ false → p x ≡ false
    by true e g = absurd (true≢false (sym (ap (λ c. c || list_any p xs) e) ∙ g))
    by false e g = ap p (sym is) ∙ e
any_false_at p (y ∷ xs) (suc i) x h there = by (p y) refl h (λ g. any_false_at p xs i x g there)
  where
    by : (b : Bool) → p y ≡ b → (p y || list_any p xs) ≡ false → (list_any p xs ≡ false → p x ≡ false) → p x ≡ false
    by true e g r = absurd (true≢false (sym (ap (λ c. c || list_any p xs) e) ∙ g))
    by false e g r = r (sym (ap (λ c. c || list_any p xs) e) ∙ g)

place_alike : {X Y : Type 0} (p : X → Bool) (q : Y → Bool) (xs : List X) (ys : List Y) → length xs ≡ length ys → ((i : ℕ) (x : X) (y : Y) → slice_get xs i ≡ Some x → slice_get ys i ≡ Some y → p x ≡ q y) → position_or_len p xs ≡ position_or_len q ys
place_alike p q [] [] size h = refl
place_alike p q [] (y ∷ ys) size h = absurd (omega (arith, size))
place_alike p q (x ∷ xs) [] size h = absurd (omega (arith, size))
place_alike p q (x ∷ xs) (y ∷ ys) size h =
    ap (λ b. cond (not b) (1 + position_or_len p xs) 0) (h 0 x y refl refl) ∙ ap (λ n. cond (not (q y)) (1 + n) 0) (place_alike p q xs ys (omega (arith, size)) (λ i. h (suc i)))

pub position_alike : {X Y : Type 0} (p : X → Bool) (q : Y → Bool) (xs : List X) (ys : List Y) → length xs ≡ length ys → ((i : ℕ) (x : X) (y : Y) → slice_get xs i ≡ Some x → slice_get ys i ≡ Some y → p x ≡ q y) → position p xs ≡ position q ys
position_alike p q xs ys size h = let a = place_alike p q xs ys size h in rw (a, size) refl

-- ---- callers by number

pub within_callers : (spans : List Span) (callers : List (Option ℕ)) → callers ≡ caller_numbers spans → AreCallers callers
within_callers spans callers is k c h = subst (λ n. c < n) (sym (ap length is ∙ length-map spans (caller_number spans))) (at spans k (ap (λ (cs : List (Option ℕ)). get_or cs k None) (sym is) ∙ h))
  where
    one : (s : Span) → caller_number spans s ≡ Some c → c < length spans
    one s e = by (list_any (λ p. is_caller p s) spans) refl
      where
        same : {m n : ℕ} → Some m ≡ Some n → m ≡ n
        same g = cc

        gone : None ≡ Some c → ⊥
        gone g = cc

        by : (b : Bool) → list_any (λ p. is_caller p s) spans ≡ b → c < length spans
        by true f = omega (arith, same (sym (position_some (λ p. is_caller p s) spans f) ∙ e), place_short (λ p. is_caller p s) spans f)
        by false f = absurd (gone (sym (position_none (λ p. is_caller p s) spans f) ∙ e))

    at : (xs : List Span) (k : ℕ) → get_or (map (caller_number spans) xs) k None ≡ Some c → c < length spans
    at [] k e = absurd (none e)
      where
        none : None ≡ Some c → ⊥
        none g = cc
    at (x ∷ xs) zero e = one x e
    at (x ∷ xs) (suc k) e = at xs k e

none_get : (spans : List Span) (c : ℕ) → c < length spans → slice_get spans c ≡ None → ⊥
none_get [] c lt g = omega (arith, lt)
none_get (s ∷ spans) zero lt g = cc
none_get (s ∷ spans) (suc c) lt g = none_get spans c (omega (arith, lt)) g

none_found : {X : Type 0} (p : X → Bool) (xs : List X) → list_any p xs ≡ false → find p xs ≡ None
none_found p [] h = refl
none_found p (y ∷ xs) h = by (p y) refl h (none_found p xs)
  where
    by : (b : Bool) → p y ≡ b → (p y || list_any p xs) ≡ false → (list_any p xs ≡ false → find p xs ≡ None) → find p (y ∷ xs) ≡ None
    by true e g r = absurd (true≢false (sym (ap (λ c. c || list_any p xs) e) ∙ g))
    by false e g r = let s = r (sym (ap (λ c. c || list_any p xs) e) ∙ g) in rw (e, s) refl

found_passes : {X : Type 0} (p : X → Bool) (xs : List X) (x : X) → find p xs ≡ Some x → p x ≡ true
found_passes p [] x h = cc
found_passes p (y ∷ xs) x h = by (p y) refl h (found_passes p xs x)
  where
    by : (b : Bool) → p y ≡ b → find p (y ∷ xs) ≡ Some x → (find p xs ≡ Some x → p x ≡ true) → p x ≡ true
    by true e g r = let same : y ≡ x = some_inj (sym (ap (λ c. cond c (Some y) (find p xs)) e) ∙ g) in ap p (sym same) ∙ e
    by false e g r = r (sym (ap (λ c. cond c (Some y) (find p xs)) e) ∙ g)

not_false : (b : Bool) → not b ≡ false → b ≡ true
not_false true h = refl
not_false false h = sym h

same_parent : (p q : Option (List ℕ)) → have_one_parent q p ≡ true → p ≡ q
same_parent None None h = refl
same_parent None (Some q) h = absurd (true≢false (sym h))
same_parent (Some p) None h = absurd (true≢false (sym h))
same_parent (Some p) (Some q) h = ap (λ (x : List ℕ). Some x) (sym ((bytes_eq-Decides q p).0 h))

consumer_is : (k : SpanKind) → is_consumer k ≡ eqb (kind_number k) 5
consumer_is Unspecified = refl
consumer_is Internal = refl
consumer_is Server = refl
consumer_is Client = refl
consumer_is Producer = refl
consumer_is Consumer = refl

same_kind : (a b : Span) → have_one_content a b ≡ true → is_consumer b.kind ≡ is_consumer a.kind
same_kind a b h =
    let p1 = and_parts (have_one_parent a.parent b.parent) _ h in
    let p2 = and_parts (bytes_eq a.service b.service) _ p1.1 in
    let p3 = and_parts (bytes_eq a.machine b.machine) _ p2.1 in
    let p4 = and_parts (bytes_eq a.name b.name) _ p3.1 in
    let p5 = and_parts (eqb (kind_number a.kind) (kind_number b.kind)) _ p4.1 in
    consumer_is b.kind ∙ ap (λ n. eqb n 5) (sym (eqb-true (kind_number a.kind) (kind_number b.kind) p5.0)) ∙ sym (consumer_is a.kind)

-- the way from a span to its callers is that of its number
module _ (spans : List Span) where
  step_alike : (n : ℕ) (p : Span → Bool) → ((c : ℕ) (t : Span) → slice_get spans c ≡ Some t → is_some (caller_above spans n t) ≡ is_some (number_above (caller_numbers spans) n c))
      → is_some (option_and_then (caller_above spans n) (find p spans)) ≡ is_some (option_and_then (number_above (caller_numbers spans) n) (position p spans))
  step_alike n p rest = by (list_any p spans) refl
    where
      by : (b : Bool) → list_any p spans ≡ b → is_some (option_and_then (caller_above spans n) (find p spans)) ≡ is_some (option_and_then (number_above (caller_numbers spans) n) (position p spans))
      by true e =
          let c = position_or_len p spans in
          also (slice_get spans (position_or_len p spans)) refl
        where
          also : (o : Option Span) → slice_get spans (position_or_len p spans) ≡ o → is_some (option_and_then (caller_above spans n) (find p spans)) ≡ is_some (option_and_then (number_above (caller_numbers spans) n) (position p spans))
          also (Some t) f = ap (λ (o : Option Span). is_some (option_and_then (caller_above spans n) o)) (found_at p spans ∙ f) ∙ rest (position_or_len p spans) t f ∙ ap (λ (o : Option ℕ). is_some (option_and_then (number_above (caller_numbers spans) n) o)) (sym (position_some p spans e))
          also None f = absurd (gone (position_or_len p spans) (place_short p spans e) f)
            where
              gone : (c : ℕ) → c < length spans → slice_get spans c ≡ None → ⊥
              gone c lt g = none_get spans c lt g
      by false e = ap (λ (o : Option Span). is_some (option_and_then (caller_above spans n) o)) (none_found p spans e) ∙ ap (λ (o : Option ℕ). is_some (option_and_then (number_above (caller_numbers spans) n) o)) (sym (position_none p spans e))

  above_alike : (n k : ℕ) (s : Span) → slice_get spans k ≡ Some s → is_some (caller_above spans n s) ≡ is_some (number_above (caller_numbers spans) n k)
  above_alike zero k s there = refl
  above_alike (suc n) k s there =
      step_alike n (λ p. is_caller p s) (above_alike n)
      ∙ ap (λ (o : Option ℕ). is_some (option_and_then (number_above (caller_numbers spans) n) o)) (sym (get_or-map (caller_number spans) spans k s None (slice_get_within spans k s there) ∙ ap (caller_number spans) (get_or_from_slice_get spans k s s there)))

  -- spans with one caller lead alike
  ends_alike : (n : ℕ) (s t : Span) → caller_of spans s ≡ caller_of spans t → is_some (caller_above spans n s) ≡ is_some (caller_above spans n t)
  ends_alike zero s t e = refl
  ends_alike (suc n) s t e = ap (λ (o : Option Span). is_some (option_and_then (caller_above spans n) o)) e

  -- spans with one id and one content have one caller
  one_caller : (s t : Span) → have_one_id s t ≡ true → have_one_content t s ≡ true → caller_of spans s ≡ caller_of spans t
  one_caller s t id content =
      ap (λ b. find (λ (p : Span). not b && (bytes_eq s.trace p.trace && is_parent_id s.parent p.id)) spans) consumer
      ∙ ap (λ (x : List ℕ). find (λ (p : Span). not (is_consumer t.kind) && (bytes_eq x p.trace && is_parent_id s.parent p.id)) spans) trace
      ∙ ap (λ (q : Option (List ℕ)). find (λ (p : Span). not (is_consumer t.kind) && (bytes_eq t.trace p.trace && is_parent_id q p.id)) spans) parent
    where
      trace : s.trace ≡ t.trace
      trace = (bytes_eq-Decides s.trace t.trace).0 (and_parts (bytes_eq s.trace t.trace) (bytes_eq s.id t.id) id).0

      parent : s.parent ≡ t.parent
      parent = same_parent s.parent t.parent (and_parts (have_one_parent t.parent s.parent) _ content).0

      consumer : is_consumer s.kind ≡ is_consumer t.kind
      consumer = same_kind t s content

-- whether callers of a span of the input lead into a circle is told by its number
pub circle_alike : (input : List Span) (numbers : List ℕ) → AreNumbered input (spans_once input) numbers → position (repeats_id input) input ≡ None
    → position (leads_to_circle (caller_numbers (spans_once input))) numbers ≡ position (is_endless (spans_once input)) input
circle_alike input numbers h own = position_alike (leads_to_circle (caller_numbers (spans_once input))) (is_endless (spans_once input)) numbers input h.size at
  where
    spans : List Span
    spans = spans_once input

    at : (i n : ℕ) (s : Span) → slice_get numbers i ≡ Some n → slice_get input i ≡ Some s → leads_to_circle (caller_numbers (spans_once input)) n ≡ is_endless (spans_once input) s
    at i n s number there = by (first_with_id (spans_once input) s) refl
      where
        n_is : get_or numbers i 0 ≡ n
        n_is = get_or_from_slice_get numbers i n 0 number

        found : first_with_id (spans_once input) s ≡ slice_get (spans_once input) n
        found = h.first i s there ∙ ap (slice_get (spans_once input)) n_is

        quiet : says_otherwise (first_with_id input s) s ≡ false
        quiet = any_false_at (repeats_id input) input i s (none_passes (repeats_id input) input own) there

        size : length (caller_numbers (spans_once input)) ≡ length (spans_once input)
        size = length-map (spans_once input) (caller_number (spans_once input))

        by : (o : Option Span) → first_with_id (spans_once input) s ≡ o → leads_to_circle (caller_numbers (spans_once input)) n ≡ is_endless (spans_once input) s
        by None e = absurd (none_get (spans_once input) n (subst (λ m. m < length (spans_once input)) n_is (h.within i (slice_get_within numbers i n number))) (sym found ∙ e))
        by (Some f) e =
            let id : have_one_id s f ≡ true = found_passes (have_one_id s) (spans_once input) f e in
            let content : have_one_content f s ≡ true = not_false (have_one_content f s) (ap (λ (o : Option Span). says_otherwise o s) (sym (sym (find_once s input) ∙ e)) ∙ quiet) in
            ap (λ m. is_some (number_above (caller_numbers (spans_once input)) m n)) size
            ∙ sym (above_alike (spans_once input) (length (spans_once input)) n f (sym found ∙ e))
            ∙ sym (ends_alike (spans_once input) (length (spans_once input)) s f (one_caller (spans_once input) s f id content))

pub numbers_within : (spans input : List Span) (numbers : List ℕ) (size : ℕ) → AreNumbered input spans numbers → size ≡ length spans → All (λ n. n < size) numbers
numbers_within spans input numbers size h is = All-from_get_or (λ n. n < size) numbers 0 (λ i lt. omega (arith, is, h.within i lt))

-- ---- callers come to an end

any_filter_false : {X : Type 0} (p q : X → Bool) (xs : List X) → list_any p xs ≡ false → list_any p (filter q xs) ≡ false
any_filter_false p q [] h = refl
any_filter_false p q (x ∷ xs) h = by (p x) (q x) refl refl (any_filter_false p q xs)
  where
    by : (b c : Bool) → p x ≡ b → q x ≡ c → (list_any p xs ≡ false → list_any p (filter q xs) ≡ false) → list_any p (filter q (x ∷ xs)) ≡ false
    by true c e f r = absurd (true≢false (sym (ap (λ t. t || list_any p xs) e) ∙ h))
    by false true e f r = let s = r (sym (ap (λ t. t || list_any p xs) e) ∙ h) in rw (f, e, s) refl
    by false false e f r = let s = r (sym (ap (λ t. t || list_any p xs) e) ∙ h) in rw (f, s) refl

any_once_false : (p : Span → Bool) (xs : List Span) → list_any p xs ≡ false → list_any p (spans_once xs) ≡ false
any_once_false p [] h = refl
any_once_false p (x ∷ xs) h = by (p x) refl (any_once_false p xs)
  where
    by : (b : Bool) → p x ≡ b → (list_any p xs ≡ false → list_any p (spans_once xs) ≡ false) → list_any p (spans_once (x ∷ xs)) ≡ false
    by true e r = absurd (true≢false (sym (ap (λ t. t || list_any p xs) e) ∙ h))
    by false e r = let s = any_filter_false p (λ y. not (have_one_id x y)) (spans_once xs) (r (sym (ap (λ t. t || list_any p xs) e) ∙ h)) in rw (e, s) refl

not_some : {X : Type 0} (o : Option X) → is_some o ≡ false → o ≡ None
not_some None h = refl
not_some (Some x) h = absurd (true≢false h)

-- callers come to an end where no span of the input leads into a circle
pub have_last_callers : (input : List Span) → position (is_endless (spans_once input)) input ≡ None → HaveLastCallers (caller_numbers (spans_once input))
have_last_callers input h k lt = by (slice_get (spans_once input) k) refl
  where
    size : length (caller_numbers (spans_once input)) ≡ length (spans_once input)
    size = length-map (spans_once input) (caller_number (spans_once input))

    quiet : list_any (is_endless (spans_once input)) (spans_once input) ≡ false
    quiet = any_once_false (is_endless (spans_once input)) input (none_passes (is_endless (spans_once input)) input h)

    by : (o : Option Span) → slice_get (spans_once input) k ≡ o → number_above (caller_numbers (spans_once input)) (length (caller_numbers (spans_once input))) k ≡ None
    by None e = absurd (none_get (spans_once input) k (omega (arith, lt, size)) e)
    by (Some s) e = not_some (number_above (caller_numbers (spans_once input)) (length (caller_numbers (spans_once input))) k)
        (ap (λ n. is_some (number_above (caller_numbers (spans_once input)) n k)) size ∙ sym (above_alike (spans_once input) (length (spans_once input)) k s e)
        ∙ any_false_at (is_endless (spans_once input)) (spans_once input) k s quiet e)
