-- The calls of a request: a range of indexes, which has of each of its calls the caller and all that it
-- calls.
use Rattle.std.proofs.Common.{◌≡◌, ⊎_elim, ℕ, zero, suc, ◌+◌, ◌-◌, ◌<◌, ◌≤◌, List, [], ◌∷◌, true, false, not, length, drop, Option, Some, None, IsSome, is_none, get_or, slice_get, refl, sym, ap, subst, ◌∙◌, arith, eq-or-lt_of_le, lt_of_not-le}
use Rattle.std.specs.List.{position_or_len}
use Rattle.std.specs.Option.{option_and_then}
use Rattle.std.proofs.lemmas.List.{get_or-drop, get_or-map, length-drop, length-map}
use Rattle.std.proofs.lemmas.List.Sums.{fails_before_first, passes_at_first, prefix_len-le-length}
use Rattle.std.proofs.lemmas.Option.{slice_get-get_or}
use Rattle.span_requests.specs.CallerNumbers.{number_above}
use Rattle.span_calls.specs.Calls.{AreBefore}
use Rattle.span_calls.specs.declared.call.Call.{Call}
use Rattle.context_forks.specs.Forks.{callers_of}
use Rattle.thread_steps.proofs.TableLemmas.{caller_before}
use Rattle.thread_steps.specs.ThreadLaws.{AreClosed}
use Rattle.span_lines.specs.Requests.{request_size}

none_is : (o : Option ℕ) → is_none o ≡ true → o ≡ None
none_is None e = refl
none_is (Some x) e = let w : false ≡ true = e in cc

there : (o : Option ℕ) → is_none o ≡ false → (c : ℕ) × (o ≡ Some c)
there None e = let w : true ≡ false = e in cc
there (Some c) e = (c, refl)

not_some : (o : Option ℕ) → IsSome o → o ≡ None → ⊥
not_some o h e = let w : false ≡ true = subst (λ (x : Option ℕ). IsSome x) e h in cc

some_none : (o : Option ℕ) (c : ℕ) → o ≡ Some c → o ≡ None → ⊥
some_none o c e f = let w : ◌≡◌ {A = Option ℕ} (Some c) None = sym e ∙ f in cc

past : (xs : List (Option ℕ)) (i : ℕ) → length xs ≤ i → get_or xs i None ≡ None
past [] i l = refl
past (x ∷ xs) zero l = absurd (omega (arith, l))
past (x ∷ xs) (suc i) l = past xs i (omega (arith, l))

pub call_within : (calls : List Call) (i c : ℕ) → get_or (callers_of calls) i None ≡ Some c → i < length calls
call_within calls i c e = lt_of_not-le (λ l. some_none (get_or (callers_of calls) i None) c e (past (callers_of calls) i (omega (arith, l, length-map calls (λ (x : Call). x.caller)))))

module _ (calls : List Call) (before : AreBefore calls) (d : Call)
    (together : (i c j : ℕ) (a b : Call) → slice_get calls i ≡ Some a → a.caller ≡ Some c → slice_get calls j ≡ Some b → c < j → j < i → IsSome b.caller)
    (r : ℕ) (lt : r < length calls) (first : get_or (callers_of calls) r None ≡ None) where
  abbrev callers : List (Option ℕ)
  callers = callers_of calls

  abbrev rest : List (Option ℕ)
  rest = drop (r + 1) callers

  abbrev pos : ℕ
  pos = position_or_len (λ (o : Option ℕ). is_none o) rest

  size_callers : length callers ≡ length calls
  size_callers = length-map calls (λ (c : Call). c.caller)

  size_rest : length rest ≡ length callers - (r + 1)
  size_rest = length-drop (r + 1) callers

  pos_most : pos ≤ length rest
  pos_most = prefix_len-le-length (λ (o : Option ℕ). not (is_none o)) rest

  bound : r + request_size calls r ≤ length calls
  bound = omega (arith, pos_most, size_rest, size_callers, lt)

  caller_at : (i : ℕ) → i < length calls → get_or callers i None ≡ (get_or calls i d).caller
  caller_at i l = get_or-map (λ (c : Call). c.caller) calls i d None l

  at_rest : (i : ℕ) → r + 1 ≤ i → get_or rest (i - (r + 1)) None ≡ get_or callers i None
  at_rest i l = let e : r + 1 + (i - (r + 1)) ≡ i = omega (arith, l) in get_or-drop (r + 1) callers (i - (r + 1)) None ∙ ap (λ k. get_or callers k None) e

  pub has_caller : (i : ℕ) → r < i → i < r + request_size calls r → (c : ℕ) × (get_or callers i None ≡ Some c)
  has_caller i low high = there (get_or callers i None) (sym (ap (λ (o : Option ℕ). is_none o) (at_rest i (omega (arith, low)))) ∙ fails_before_first (λ (o : Option ℕ). is_none o) rest (i - (r + 1)) None (omega (arith, low, high)))

  beyond : r + request_size calls r < length calls → get_or callers (r + request_size calls r) None ≡ None
  beyond l =
      let e : r + request_size calls r - (r + 1) ≡ pos = omega arith in
      none_is (get_or callers (r + request_size calls r) None) (sym (ap (λ (o : Option ℕ). is_none o) (at_rest (r + request_size calls r) (omega arith))) ∙ ap (λ k. is_none (get_or rest k None)) e ∙ passes_at_first (λ (o : Option ℕ). is_none o) rest None (omega (arith, l, size_rest, size_callers)))

  -- no call without a caller stands between a call and its caller
  between : (i c j : ℕ) → get_or callers i None ≡ Some c → c < j → j < i → get_or callers j None ≡ None → ⊥
  between i c j e low high none =
      let within = call_within calls i c e in
      let less : j < length calls = omega (arith, within, high) in
      not_some (get_or calls j d).caller (together i c j (get_or calls i d) (get_or calls j d) (slice_get-get_or calls i d within) (sym (caller_at i within) ∙ e) (slice_get-get_or calls j d less) low high) (sym (caller_at j less) ∙ none)

  callers_in : (i c : ℕ) → r ≤ i → i < r + request_size calls r → get_or callers i None ≡ Some c → r ≤ c
  callers_in i c low high e = let h : r < suc c = lt_of_not-le (λ l. below (omega (arith, l))) in omega (arith, h)
    where
      below : c < r → ⊥
      below l = ⊎_elim (λ s. some_none (get_or callers i None) c e (ap (λ k. get_or callers k None) (sym s) ∙ first)) (λ m. between i c r e l m first) (eq-or-lt_of_le low)

  called_in : (i c : ℕ) → get_or callers i None ≡ Some c → r ≤ c → c < r + request_size calls r → i < r + request_size calls r
  called_in i c e low high = lt_of_not-le outside
    where
      outside : r + request_size calls r ≤ i → ⊥
      outside l =
          let within = call_within calls i c e in
          let end = beyond (omega (arith, l, within)) in
          ⊎_elim (λ s. some_none (get_or callers i None) c e (ap (λ k. get_or callers k None) (sym s) ∙ end)) (λ m. between i c (r + request_size calls r) e high m end) (eq-or-lt_of_le l)

  pub closed : AreClosed calls r (request_size calls r)
  closed = record { bound = bound; callers = callers_in; called = called_in }

  above_by_fuel : (n i : ℕ) → i < n → r ≤ i → i < r + request_size calls r → (k : ℕ) × (number_above callers k i ≡ Some r)
  above_by_fuel zero i l low high = absurd (omega (arith, l))
  above_by_fuel (suc n) i l low high = ⊎_elim
      (λ s. (0, ap (λ z. Some z) (sym s)))
      (λ m. let p = has_caller i m high in
      let c_before = caller_before calls before p.0 i p.1 in
      let q = above_by_fuel n p.0 (omega (arith, c_before, l)) (callers_in i p.0 low high p.1) (omega (arith, c_before, high)) in
      (suc q.0, ap (option_and_then (number_above callers q.0)) p.1 ∙ q.1))
      (eq-or-lt_of_le low)

  -- each call of the request is so many calls below the first one
  pub above : (i : ℕ) → r ≤ i → i < r + request_size calls r → (k : ℕ) × (number_above callers k i ≡ Some r)
  above i low high = above_by_fuel (suc i) i (omega arith) low high
