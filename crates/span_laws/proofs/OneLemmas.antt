-- Each span of the requests that are asked for starts and ends on one line, in the request of its entry.
use Rattle.std.proofs.Common.{◌≡◌, ◌≢◌, ⊎_elim, ℕ, zero, suc, ◌+◌, ◌<◌, ◌≤◌, List, [], ◌∷◌, true, length, map, filter, flat_map, Option, Some, None, IsSome, is_none, get_or, slice_get, refl, sym, ap, subst, ◌∙◌, arith}
use Rattle.std.specs.List.{All, AllPairs, Contains, range_with_len}
use Rattle.std.specs.Option.{option_and_then}
use Rattle.std.proofs.lemmas.List.{get_or-map, length-map}
use Rattle.std.proofs.lemmas.List.Folds.{flat_map-map}
use Rattle.std.proofs.lemmas.Option.{slice_get-get_or}
use Rattle.trace_types.specs.declared.event.Event.{Event}
use Rattle.span_types.specs.declared.span.Span.{Span}
use Rattle.span_requests.specs.CallerNumbers.{number_above}
use Rattle.span_requests.specs.Callers.{caller_numbers}
use Rattle.span_requests.specs.Faults.{HaveEntries}
use Rattle.span_requests.specs.SpansOnce.{spans_once}
use Rattle.span_calls.proofs.CallLemmas.{before_from}
use Rattle.span_calls.specs.Calls.{AreBefore, is_asked}
use Rattle.span_calls.specs.Seen.{span_at}
use Rattle.span_calls.specs.declared.call.Call.{Call}
use Rattle.call_laws.specs.CallLaws.{AreAskedFor, AreCallsOf, EntriesAreCalledByNone, IsAskedFor}
use Rattle.context_forks.specs.Forks.{callers_of}
use Rattle.thread_steps.proofs.TableLemmas.{caller_before}
use Rattle.thread_steps.specs.ThreadLaws.{AreClosed}
use Rattle.thread_steps.specs.declared.step.Step.{Step}
use Rattle.span_lines.specs.Lines.{thread_lines}
use Rattle.span_lines.specs.Mappings.{Mapping, begins_thread, context_of}
use Rattle.span_lines.specs.Messages.{call_span}
use Rattle.span_lines.specs.Requests.{begins_request, name_of_request, request_calls, request_lines, request_size, request_starts}
use Rattle.span_lines.specs.SpanLines.{AreRequestLines, mapping_of}
use Rattle.span_laws.specs.LineLaws.{AreToldOnce, BeginWithEntry, Place, SpansAreToldOnce, end_place, is_end_line, is_start_line, place_of, start_place}
use Rattle.span_laws.specs.RequestLaws.{AreAskedEntries, AreInRequest, IsAskedEntry, IsInRequest, RequestsTellTheirSpans, TellRequest, TellRequests}
use Rattle.span_laws.proofs.ApartLemmas.{In, Once, every_from_in, in_filter, in_flat, in_map, in_range, in_to_filter, in_to_flat, in_to_map, in_to_range, once_range, pairs_filter, pairs_flat, pairs_map, pairs_weaker, at_in, in_contains}
use Rattle.span_laws.proofs.EntryLemmas.{first_line, requests_of}
use Rattle.span_laws.proofs.FewLemmas.{AreFew, few_of}
use Rattle.span_laws.proofs.HeadLemmas.{filter_agree_in, flat_agree_in, same_or}
use Rattle.span_laws.proofs.ListLemmas.{all_in, lower, map_agree_in, one_top, pairs_at, some_is, some_none}
use Rattle.span_laws.proofs.NamedLemmas.{map_flat, map_map}
use Rattle.span_laws.proofs.RangeLemmas.{above, closed, has_caller}
use Rattle.span_laws.proofs.RequestLemmas as request
use Rattle.span_laws.proofs.SoundLemmas.{AllLaws, a_call, none_is}
use Rattle.span_laws.proofs.StampLemmas.{ends_of, starts_of}
use Rattle.span_laws.proofs.ToldLemmas.{ends_flat, filtered_flat, starts_flat, thread_ends, thread_starts}
use Rattle.span_laws.proofs.TraceLemmas as trace
use Rattle.span_laws.proofs.WalkLemmas.{filter_map_is, firsts_are, is_first, map_at}

module _ (laws : AllLaws) (input : List Span) (grace : ℕ) (asked : Option (List ℕ)) (requests : List (List Event)) (entries_there : HaveEntries input)
    (a : AreRequestLines (spans_once input) grace asked requests) (few : AreFew (spans_once input) grace asked requests a) where
  abbrev spans : List Span
  spans = spans_once input

  h : AreCallsOf spans (caller_numbers spans) asked a.entries a.calls
  h = laws.calls input asked a.entries a.calls entries_there a.within a.begin a.called

  once : AreAskedFor spans (caller_numbers spans) asked h.are.numbers
  once = laws.once spans (caller_numbers spans) asked a.entries a.calls h

  before : AreBefore a.calls
  before = before_from (caller_numbers spans) a.called.numbers (length a.called.numbers) a.calls a.called.are.called

  together : (i c j : ℕ) (x y : Call) → slice_get a.calls i ≡ Some x → x.caller ≡ Some c → slice_get a.calls j ≡ Some y → c < j → j < i → IsSome y.caller
  together = laws.together spans (caller_numbers spans) asked a.entries a.calls h

  abbrev m : Mapping
  m = mapping_of a.calls a.placing a.threading a.machines

  abbrev name : ℕ → List ℕ
  name i = name_of_request (map (span_at spans) a.entries) (call_span m.calls i)

  abbrev starts : List ℕ
  starts = request_starts a.calls

  abbrev steps_of : ℕ → List Step
  steps_of g = get_or m.steps g []

  -- the steps of the threads of the request that begins with this call
  abbrev steps_in : ℕ → List Step
  steps_in r = flat_map steps_of (filter (begins_thread m) (request_calls a.calls r))

  start_is : (r : ℕ) → In starts r → (r < length a.calls) × (get_or (callers_of a.calls) r None ≡ None)
  start_is r i =
      let q = in_filter (begins_request a.calls) (range_with_len 0 (length a.calls)) r i in
      let w = (in_range 0 (length a.calls) r q.0).1 in
      (omega (arith, w), none_is (get_or (callers_of a.calls) r None) q.1)

  range : (r : ℕ) → In starts r → AreClosed a.calls r (request_size a.calls r)
  range r i = let s = start_is r i in closed a.calls before (a_call a.calls r s.0) together r s.0 s.1

  start_in : (r : ℕ) (s : In starts r) (i : ℕ) → In (starts_of (steps_in r)) i → (r ≤ i) × (i < r + request_size a.calls r)
  start_in r s i k = let w = start_is r s in request.start_in laws.request grace a.calls before (a_call a.calls r w.0) a.placing a.placed a.ordered few.contexts a.threading a.threaded a.machines together r w.0 w.1 i k

  end_in : (r : ℕ) (s : In starts r) (i : ℕ) → In (ends_of (steps_in r)) i → (r ≤ i) × (i < r + request_size a.calls r)
  end_in r s i k = let w = start_is r s in request.end_in laws.request grace a.calls before (a_call a.calls r w.0) a.placing a.placed a.ordered few.contexts a.threading a.threaded a.machines together r w.0 w.1 i k

  starts_there : (r : ℕ) (s : In starts r) (i : ℕ) → r ≤ i → i < r + request_size a.calls r → In (starts_of (steps_in r)) i
  starts_there r s i low high = let w = start_is r s in request.starts laws.request grace a.calls before (a_call a.calls r w.0) a.placing a.placed a.ordered few.contexts a.threading a.threaded a.machines together r w.0 w.1 i low high

  ends_there : (r : ℕ) (s : In starts r) (i : ℕ) → r ≤ i → i < r + request_size a.calls r → In (ends_of (steps_in r)) i
  ends_there r s i low high = let w = start_is r s in request.ends laws.request grace a.calls before (a_call a.calls r w.0) a.placing a.placed a.ordered few.contexts a.threading a.threaded a.machines together r w.0 w.1 i low high

  -- no call is in two requests
  beyond : (r s i : ℕ) → In starts r → In starts s → r < s → i < r + request_size a.calls r → s ≤ i → ⊥
  beyond r s i x y l high low =
      let u = start_is r x in
      let v = start_is s y in
      let c = has_caller a.calls before (a_call a.calls r u.0) together r u.0 u.1 s l (omega (arith, high, low)) in
      some_none (get_or (callers_of a.calls) s None) c.0 c.1 v.1

  alone : (r s i : ℕ) → In starts r → In starts s → (r ≡ s → ⊥) → (r ≤ i) × (i < r + request_size a.calls r) → (s ≤ i) × (i < s + request_size a.calls s) → ⊥
  alone r s i x y apart p q = ⊎_elim (λ l. beyond r s i x y l p.1 q.0) (λ l. beyond s r i y x l q.1 p.0) (lower r s apart)

  -- each call is in one
  owner_by : (n i : ℕ) → i < n → i < length a.calls → (r : ℕ) × In starts r × (r ≤ i) × (i < r + request_size a.calls r)
  owner_by zero i l lt = absurd (omega (arith, l))
  owner_by (suc n) i l lt = by (get_or (callers_of a.calls) i None) refl (owner_by n)
    where
      by : (o : Option ℕ) → get_or (callers_of a.calls) i None ≡ o → ((c : ℕ) → c < n → c < length a.calls → (r : ℕ) × In starts r × (r ≤ c) × (c < r + request_size a.calls r)) → (r : ℕ) × In starts r × (r ≤ i) × (i < r + request_size a.calls r)
      by None e more = (i, in_to_filter (begins_request a.calls) (range_with_len 0 (length a.calls)) i (in_to_range 0 (length a.calls) i (omega arith) (omega (arith, lt))) (ap (λ (o : Option ℕ). is_none o) e), omega arith, omega arith)
      by (Some c) e more =
          let low = caller_before a.calls before c i e in
          let p = more c (omega (arith, low, l)) (omega (arith, low, lt)) in
          let b = p.2 in
          (p.0, p.1, omega (arith, low, b), (range p.0 p.1).called i c e p.2 p.3)

  owner : (i : ℕ) → i < length a.calls → (r : ℕ) × In starts r × (r ≤ i) × (i < r + request_size a.calls r)
  owner i lt = owner_by (suc i) i (omega arith) lt

  start_order : List ℕ
  start_order = flat_map (λ r. starts_of (steps_in r)) starts

  end_order : List ℕ
  end_order = flat_map (λ r. ends_of (steps_in r)) starts

  starts_once_each : Once starts
  starts_once_each = pairs_filter (λ i j. i ≡ j → ⊥) (begins_request a.calls) (range_with_len 0 (length a.calls)) (once_range 0 (length a.calls))

  start_order_once : Once start_order
  unfolding start_order
  start_order_once = pairs_flat (λ x y. x ≡ y → ⊥) (λ r. starts_of (steps_in r)) starts
      (pairs_weaker (λ r s. r ≡ s → ⊥) (λ r s. (x y : ℕ) → In (starts_of (steps_in r)) x → In (starts_of (steps_in s)) y → x ≡ y → ⊥) starts
      (λ r s i j apart x y u v e. alone r s x i j apart (start_in r i x u) (subst (λ (z : ℕ). (s ≤ z) × (z < s + request_size a.calls s)) (sym e) (start_in s j y v))) starts_once_each)
      (every_from_in (λ r. Once (starts_of (steps_in r))) starts (λ r i. let w = start_is r i in request.all_starts_once laws.request grace a.calls before (a_call a.calls r w.0) a.placing a.placed a.ordered few.contexts a.threading a.threaded a.machines together r w.0 w.1))

  end_order_once : Once end_order
  unfolding end_order
  end_order_once = pairs_flat (λ x y. x ≡ y → ⊥) (λ r. ends_of (steps_in r)) starts
      (pairs_weaker (λ r s. r ≡ s → ⊥) (λ r s. (x y : ℕ) → In (ends_of (steps_in r)) x → In (ends_of (steps_in s)) y → x ≡ y → ⊥) starts
      (λ r s i j apart x y u v e. alone r s x i j apart (end_in r i x u) (subst (λ (z : ℕ). (s ≤ z) × (z < s + request_size a.calls s)) (sym e) (end_in s j y v))) starts_once_each)
      (every_from_in (λ r. Once (ends_of (steps_in r))) starts (λ r i. let w = start_is r i in request.all_ends_once laws.request grace a.calls before (a_call a.calls r w.0) a.placing a.placed a.ordered few.contexts a.threading a.threaded a.machines together r w.0 w.1))

  start_within : (i : ℕ) → In start_order i → i < length a.calls
  unfolding start_order
  start_within i k = let p = in_flat (λ r. starts_of (steps_in r)) starts i k in let w = (start_in p.0 p.1 i p.2).1 in let b = (range p.0 p.1).bound in omega (arith, w, b)

  end_within : (i : ℕ) → In end_order i → i < length a.calls
  unfolding end_order
  end_within i k = let p = in_flat (λ r. ends_of (steps_in r)) starts i k in let w = (end_in p.0 p.1 i p.2).1 in let b = (range p.0 p.1).bound in omega (arith, w, b)

  start_all : (i : ℕ) → i < length a.calls → In start_order i
  unfolding start_order
  start_all i lt = let p = owner i lt in in_to_flat (λ r. starts_of (steps_in r)) starts p.0 i p.1 (starts_there p.0 p.1 i p.2 p.3)

  end_all : (i : ℕ) → i < length a.calls → In end_order i
  unfolding end_order
  end_all i lt = let p = owner i lt in in_to_flat (λ r. ends_of (steps_in r)) starts p.0 i p.1 (ends_there p.0 p.1 i p.2 p.3)

  -- ---- numbers of spans

  abbrev number : ℕ → ℕ
  number i = get_or h.are.numbers i 0

  size : length h.are.numbers ≡ length a.calls
  size = trace.size input asked a.entries a.calls h once

  number_apart : (i j : ℕ) → i < length a.calls → j < length a.calls → number i ≡ number j → i ≡ j
  number_apart i j x y e = ⊎_elim (λ q. q) (λ f. absurd (⊎_elim (λ l. once.apart i j 0 l (omega (arith, y, size)) e) (λ l. once.apart j i 0 l (omega (arith, x, size)) (sym e)) (lower i j f))) (same_or i j)

  abbrev AreCalls : List ℕ → Type 0
  AreCalls order = (i : ℕ) → In order i → i < length a.calls

  numbers_apart : (order : List ℕ) → Once order → AreCalls order → AllPairs (λ m n. m ≢ n) (map number order)
  numbers_apart order o within = λ i j d l w. pairs_at (λ x y. x ≡ y → ⊥) (map number order)
      (pairs_map (λ x y. x ≡ y → ⊥) number order (pairs_weaker (λ i j. i ≡ j → ⊥) (λ i j. number i ≡ number j → ⊥) order (λ i j x y apart e. apart (number_apart i j (within i x) (within j y) e)) o)) i j d l w

  -- what holds of the number of each call holds of all these
  all_numbers : (P : ℕ → Type 0) (order : List ℕ) → ((i : ℕ) → In order i → P (number i)) → All P (map number order)
  all_numbers P order f = λ k d l. let p = in_map number order (get_or (map number order) k d) (at_in (map number order) k d l) in subst P p.2 (f p.0 p.1)

  -- a span that is asked for is the span of a call
  call_of : (n : ℕ) → n < length spans → IsAskedFor spans (caller_numbers spans) asked n → (i : ℕ) × (i < length a.calls) × (number i ≡ n)
  call_of n l q =
      let c = once.all n l q in
      let w = c.1 in
      (c.0, omega (arith, w, size), get_or_any h.are.numbers c.0 0 n w ∙ c.2)
    where
      get_or_any : (xs : List ℕ) (i d e : ℕ) → i < length xs → get_or xs i d ≡ get_or xs i e
      get_or_any [] i d e l = absurd (omega (arith, l))
      get_or_any (x ∷ xs) zero d e l = refl
      get_or_any (x ∷ xs) (suc i) d e l = get_or_any xs i d e (omega (arith, l))

  number_in : (order : List ℕ) (i n : ℕ) → number i ≡ n → In order i → Contains (map number order) n
  number_in order i n e there = in_contains (map number order) n (subst (In (map number order)) e (in_to_map number order i there))

  asked_for : (order : List ℕ) → Once order → AreCalls order → ((i : ℕ) → i < length a.calls → In order i) → AreAskedFor spans (caller_numbers spans) asked (map number order)
  asked_for order o within all = record {
    apart = numbers_apart order o within;
    within = all_numbers (λ n. n < length spans) order (λ i k. trace.number_within input asked a.entries a.calls h once i (within i k));
    each = all_numbers (IsAskedFor spans (caller_numbers spans) asked) order (λ i k. once.each i 0 (let w = within i k in omega (arith, w, size)));
    all = λ n l q. let c = call_of n l q in number_in order c.0 n c.2 (all c.0 c.1);
  }

  -- ---- lines

  flat_is : flat_map (λ (ls : List Event). ls) requests ≡ flat_map (λ i. request_lines m (name i) i) starts
  flat_is = ap (flat_map (λ (ls : List Event). ls)) a.lines ∙ flat_map-map (λ (ls : List Event). ls) (λ i. request_lines m (name i) i) starts

  request_starts_at : (r : ℕ) → map place_of (filter is_start_line (request_lines m (name r) r)) ≡ map (λ i. start_place a.machines (call_span a.calls i)) (starts_of (steps_in r))
  request_starts_at r =
      filtered_flat place_of is_start_line (thread_lines m (name r)) (filter (begins_thread m) (request_calls a.calls r))
      ∙ flat_agree_in (λ g. map place_of (filter is_start_line (thread_lines m (name r) g))) (λ g. map (λ i. start_place a.machines (call_span a.calls i)) (starts_of (steps_of g))) (filter (begins_thread m) (request_calls a.calls r)) (λ g i. thread_starts m (name r) (context_of m g) None (steps_of g))
      ∙ sym (ap (map (λ i. start_place a.machines (call_span a.calls i))) (starts_flat steps_of (filter (begins_thread m) (request_calls a.calls r))) ∙ map_flat (λ i. start_place a.machines (call_span a.calls i)) (λ g. starts_of (steps_of g)) (filter (begins_thread m) (request_calls a.calls r)))

  request_ends_at : (r : ℕ) → map place_of (filter is_end_line (request_lines m (name r) r)) ≡ map (λ i. end_place a.machines (call_span a.calls i)) (ends_of (steps_in r))
  request_ends_at r =
      filtered_flat place_of is_end_line (thread_lines m (name r)) (filter (begins_thread m) (request_calls a.calls r))
      ∙ flat_agree_in (λ g. map place_of (filter is_end_line (thread_lines m (name r) g))) (λ g. map (λ i. end_place a.machines (call_span a.calls i)) (ends_of (steps_of g))) (filter (begins_thread m) (request_calls a.calls r)) (λ g i. thread_ends m (name r) (context_of m g) None (steps_of g))
      ∙ sym (ap (map (λ i. end_place a.machines (call_span a.calls i))) (ends_flat steps_of (filter (begins_thread m) (request_calls a.calls r))) ∙ map_flat (λ i. end_place a.machines (call_span a.calls i)) (λ g. ends_of (steps_of g)) (filter (begins_thread m) (request_calls a.calls r)))

  starts_told : AreToldOnce spans (AreAskedFor spans (caller_numbers spans) asked) is_start_line (start_place a.machines) (flat_map (λ (ls : List Event). ls) requests)
  unfolding start_order
  starts_told = record {
    numbers = map number start_order;
    such = asked_for start_order start_order_once start_within start_all;
    told = ap (λ (ls : List Event). map place_of (filter is_start_line ls)) flat_is
        ∙ filtered_flat place_of is_start_line (λ i. request_lines m (name i) i) starts
        ∙ flat_agree_in (λ r. map place_of (filter is_start_line (request_lines m (name r) r))) (λ r. map (λ i. start_place a.machines (call_span a.calls i)) (starts_of (steps_in r))) starts (λ r i. request_starts_at r)
        ∙ sym (map_flat (λ i. start_place a.machines (call_span a.calls i)) (λ r. starts_of (steps_in r)) starts)
        ∙ map_agree_in (λ i. start_place a.machines (call_span a.calls i)) (λ i. start_place a.machines (span_at spans (number i))) start_order (λ i k. ap (start_place a.machines) (trace.span_is input asked a.entries a.calls h once i (start_within i k)))
        ∙ sym (map_map (λ n. start_place a.machines (span_at spans n)) number start_order);
  }

  ends_told : AreToldOnce spans (AreAskedFor spans (caller_numbers spans) asked) is_end_line (end_place a.machines) (flat_map (λ (ls : List Event). ls) requests)
  unfolding end_order
  ends_told = record {
    numbers = map number end_order;
    such = asked_for end_order end_order_once end_within end_all;
    told = ap (λ (ls : List Event). map place_of (filter is_end_line ls)) flat_is
        ∙ filtered_flat place_of is_end_line (λ i. request_lines m (name i) i) starts
        ∙ flat_agree_in (λ r. map place_of (filter is_end_line (request_lines m (name r) r))) (λ r. map (λ i. end_place a.machines (call_span a.calls i)) (ends_of (steps_in r))) starts (λ r i. request_ends_at r)
        ∙ sym (map_flat (λ i. end_place a.machines (call_span a.calls i)) (λ r. ends_of (steps_in r)) starts)
        ∙ map_agree_in (λ i. end_place a.machines (call_span a.calls i)) (λ i. end_place a.machines (span_at spans (number i))) end_order (λ i k. ap (end_place a.machines) (trace.span_is input asked a.entries a.calls h once i (end_within i k)))
        ∙ sym (map_map (λ n. end_place a.machines (span_at spans n)) number end_order);
  }

  -- ---- each request

  above_span : (k i r : ℕ) → i < length a.calls → number_above (callers_of a.calls) k i ≡ Some r → number_above (caller_numbers spans) k (number i) ≡ Some (number r)
  above_span zero i r lt e = ap (λ j. Some (number j)) (some_is i r e)
  above_span (suc k) i r lt e = by (get_or (callers_of a.calls) i None) refl (λ c. above_span k c r)
    where
      by : (o : Option ℕ) → get_or (callers_of a.calls) i None ≡ o → ((c : ℕ) → c < length a.calls → number_above (callers_of a.calls) k c ≡ Some r → number_above (caller_numbers spans) k (number c) ≡ Some (number r))
          → number_above (caller_numbers spans) (suc k) (number i) ≡ Some (number r)
      by None q more = let w : ◌≡◌ {A = Option ℕ} None (Some r) = ap (option_and_then (number_above (callers_of a.calls) k)) (sym q) ∙ e in cc
      by (Some c) q more =
          let low = caller_before a.calls before c i q in
          ap (option_and_then (number_above (caller_numbers spans) k)) (trace.caller_is input asked a.entries a.calls h once i c lt low q)
          ∙ more c (omega (arith, low, lt)) (ap (option_and_then (number_above (callers_of a.calls) k)) (sym q) ∙ e)

  -- a call of a request is below its entry
  below : (r : ℕ) → In starts r → (i : ℕ) → r ≤ i → i < r + request_size a.calls r → IsInRequest spans (number r) (number i)
  below r s i low high =
      let w = start_is r s in
      let u = above a.calls before (a_call a.calls r w.0) together r w.0 w.1 i low high in
      let b = (range r s).bound in
      record { calls = u.0; above = above_span u.0 i r (omega (arith, high, b)) u.1 }

  module _ (none_law : EntriesAreCalledByNone) where
    no_caller_of : (i : ℕ) → i < length a.calls → get_or (callers_of a.calls) i None ≡ None → get_or (caller_numbers spans) (number i) None ≡ None
    no_caller_of i lt e =
        let d = a_call a.calls i lt in
        none_law spans (caller_numbers spans) asked a.entries a.calls h i (get_or a.calls i d) (slice_get-get_or a.calls i d lt)
        (sym (get_or-map (λ (c : Call). c.caller) a.calls i d None lt) ∙ e)

    first_of : (r : ℕ) → In starts r → get_or (caller_numbers spans) (number r) None ≡ None
    first_of r s = let w = start_is r s in no_caller_of r w.0 w.1

    wanted_of : (r : ℕ) → In starts r → is_asked asked (span_at spans (number r)) ≡ true
    wanted_of r s =
        let w = (start_is r s).0 in
        let q = once.each r 0 (omega (arith, w, size)) in
        let e : number r ≡ q.entry = one_top (caller_numbers spans) 0 q.calls (number r) (number r) q.entry refl (first_of r s) q.above q.first in
        ap (λ n. is_asked asked (span_at spans n)) e ∙ q.wanted

    in_request : (r : ℕ) → In starts r → (order : List ℕ) → Once order → ((i : ℕ) → In order i → (r ≤ i) × (i < r + request_size a.calls r)) → ((i : ℕ) → r ≤ i → i < r + request_size a.calls r → In order i) → AreInRequest spans (number r) (map number order)
    in_request r s order o within all = record {
      apart = numbers_apart order o calls;
      within = all_numbers (λ n. n < length spans) order (λ i k. trace.number_within input asked a.entries a.calls h once i (calls i k));
      each = all_numbers (IsInRequest spans (number r)) order (λ i k. let w = within i k in below r s i w.0 w.1);
      all = λ n l q.
          let c = call_of n l (record { calls = q.calls; entry = number r; above = q.above; first = first_of r s; wanted = wanted_of r s }) in
          let p = owner c.0 c.1 in
          let u = below p.0 p.1 c.0 p.2 p.3 in
          let top = one_top (caller_numbers spans) q.calls u.calls n (number r) (number p.0) q.above (first_of r s) (ap (number_above (caller_numbers spans) u.calls) (sym c.2) ∙ u.above) (first_of p.0 p.1) in
          let e = number_apart r p.0 (start_is r s).0 (start_is p.0 p.1).0 top in
          let w = subst (λ (z : ℕ). (z ≤ c.0) × (c.0 < z + request_size a.calls z)) (sym e) (p.2, p.3) in
          number_in order c.0 n c.2 (all c.0 w.0 w.1);
    }
      where
        calls : AreCalls order
        calls i k = let w = (within i k).1 in let b = (range r s).bound in omega (arith, w, b)

    tells : (r : ℕ) → In starts r → BeginWithEntry spans (map (span_at spans) a.entries) a.machines (number r) (request_lines m (name r) r)
        → TellRequest spans (map (span_at spans) a.entries) a.machines (number r) (request_lines m (name r) r)
    tells r s begin = record {
      begin = begin;
      starts = record {
        numbers = map number (starts_of (steps_in r));
        such = in_request r s (starts_of (steps_in r)) (request.all_starts_once laws.request grace a.calls before (a_call a.calls r w.0) a.placing a.placed a.ordered few.contexts a.threading a.threaded a.machines together r w.0 w.1) (start_in r s) (starts_there r s);
        told = request_starts_at r ∙ places (start_place a.machines) (starts_of (steps_in r)) (start_in r s);
      };
      ends = record {
        numbers = map number (ends_of (steps_in r));
        such = in_request r s (ends_of (steps_in r)) (request.all_ends_once laws.request grace a.calls before (a_call a.calls r w.0) a.placing a.placed a.ordered few.contexts a.threading a.threaded a.machines together r w.0 w.1) (end_in r s) (ends_there r s);
        told = request_ends_at r ∙ places (end_place a.machines) (ends_of (steps_in r)) (end_in r s);
      };
      named = λ k d l. requests_of m (name r) r (get_or (request_lines m (name r) r) k d) (at_in (request_lines m (name r) r) k d l)
          ∙ ap (name_of_request (map (span_at spans) a.entries)) (trace.span_is input asked a.entries a.calls h once r w.0);
    }
      where
        w : (r < length a.calls) × (get_or (callers_of a.calls) r None ≡ None)
        w = start_is r s

        places : (place : Span → Place) (order : List ℕ) → ((i : ℕ) → In order i → (r ≤ i) × (i < r + request_size a.calls r)) → map (λ i. place (call_span a.calls i)) order ≡ map (λ n. place (span_at spans n)) (map number order)
        places place order within =
            map_agree_in (λ i. place (call_span a.calls i)) (λ i. place (span_at spans (number i))) order
            (λ i k. ap place (trace.span_is input asked a.entries a.calls h once i (let u = (within i k).1 in let b = (range r s).bound in omega (arith, u, b))))
            ∙ sym (map_map (λ n. place (span_at spans n)) number order)

    entries_asked : AreAskedEntries spans asked (map number starts)
    entries_asked = record {
      apart = numbers_apart starts starts_once_each (λ r s. (start_is r s).0);
      each = all_numbers (IsAskedEntry spans asked) starts (λ r s. record { there = trace.number_within input asked a.entries a.calls h once r (start_is r s).0; first = first_of r s; wanted = wanted_of r s });
      all = λ n q.
          let c = call_of n q.there (record { calls = 0; entry = n; above = refl; first = q.first; wanted = q.wanted }) in
          let e = trace.no_caller input asked a.entries a.calls h once c.0 c.1 (ap (λ k. get_or (caller_numbers spans) k None) c.2 ∙ q.first) in
          let lt = c.1 in
          number_in starts c.0 n c.2 (in_to_filter (begins_request a.calls) (range_with_len 0 (length a.calls)) c.0 (in_to_range 0 (length a.calls) c.0 (omega arith) (omega (arith, lt))) (ap (λ (o : Option ℕ). is_none o) e));
    }

    -- a call begins a request where nothing called its span
    begins_is : (i : ℕ) → i < length a.calls → begins_request a.calls i ≡ is_first (caller_numbers spans) [] (number i)
    begins_is i lt = by (get_or (callers_of a.calls) i None) refl
      where
        by : (o : Option ℕ) → get_or (callers_of a.calls) i None ≡ o → begins_request a.calls i ≡ is_first (caller_numbers spans) [] (number i)
        by None e = ap (λ (o : Option ℕ). is_none o) (e ∙ sym (no_caller_of i lt e))
        by (Some c) e = ap (λ (o : Option ℕ). is_none o) e ∙ sym (ap (λ (o : Option ℕ). is_none o) (trace.caller_is input asked a.entries a.calls h once i c lt (caller_before a.calls before c i e) e))

    abbrev wanted : List ℕ
    wanted = filter (λ e. is_asked asked (span_at spans e)) a.entries

    entry_of : (e : ℕ) → In wanted e → In a.entries e
    entry_of e i = (in_filter (λ n. is_asked asked (span_at spans n)) a.entries e i).0

    in_order : map number starts ≡ wanted
    in_order =
        let all : List ℕ = range_with_len 0 (length a.calls) in
        let order = h.are.listed.order in
        let first = is_first (caller_numbers spans) order in
        ap (map number) (filter_agree_in (begins_request a.calls) (λ i. first (number i)) all (λ i k. let w = (in_range 0 (length a.calls) i k).1 in begins_is i (omega (arith, w))))
        ∙ sym (filter_map_is first number all)
        ∙ ap (λ n. filter first (map number (range_with_len 0 n))) (sym size)
        ∙ ap (filter first) (map_at h.are.numbers 0 ∙ h.are.listed.listed)
        ∙ firsts_are (caller_numbers spans) order wanted
        (λ e i. ap (λ (o : Option ℕ). is_none o) (all_in (λ n. get_or (caller_numbers spans) n None ≡ None) a.entries h.roots.first e (entry_of e i)))
        (λ e i. let l = all_in (λ n. n < length spans) a.entries a.within e (entry_of e i) in let same = h.same in omega (arith, l, same))

    requests_size : length requests ≡ length starts
    requests_size = ap length a.lines ∙ length-map starts (λ i. request_lines m (name i) i)

    all_told : TellRequests spans a.entries a.machines asked requests
    all_told = record {
      numbers = map number starts;
      in_order = in_order;
      asked_for = entries_asked;
      size = requests_size ∙ sym (length-map starts number);
      each = λ k l.
          let w : k < length starts = omega (arith, l, requests_size) in
          let n = get_or-map number starts k 0 0 w in
          let q = ap (λ (xs : List (List Event)). get_or xs k []) a.lines ∙ get_or-map (λ i. request_lines m (name i) i) starts k 0 [] w in
          let r = get_or starts k 0 in
          let s = at_in starts k 0 w in
          let span = trace.span_is input asked a.entries a.calls h once r (start_is r s).0 in
          let f = first_line laws.calls laws.once input grace asked requests entries_there a k l in
          subst (λ z. TellRequest spans (map (span_at spans) a.entries) a.machines z (get_or requests k [])) (sym n)
          (subst (λ (ls : List Event). TellRequest spans (map (span_at spans) a.entries) a.machines (number r) ls) (sym q) (tells r s (
            f.0,
            f.1,
            sym q ∙ f.2,
            record {
              there = trace.number_within input asked a.entries a.calls h once r (start_is r s).0;
              first = first_of r s;
              starts = f.3.0;
              place = f.3.1 ∙ ap (start_place a.machines) span;
              request = f.3.2 ∙ ap (name_of_request (map (span_at spans) a.entries)) span;
            },
          )));
    }

pub told_once : AllLaws → SpansAreToldOnce
told_once laws = λ input grace asked requests there small a.
    let few = few_of laws.calls laws.once input grace asked requests there a small in
    (starts_told laws input grace asked requests there a few, ends_told laws input grace asked requests there a few)

pub tell_spans : AllLaws → EntriesAreCalledByNone → RequestsTellTheirSpans
tell_spans laws none_law = λ input grace asked requests there small a. all_told laws input grace asked requests there a (few_of laws.calls laws.once input grace asked requests there a small) none_law
