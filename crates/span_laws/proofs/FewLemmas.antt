-- There are no more contexts than calls, no more calls than spans, and no more machines than spans.
use Rattle.std.proofs.Common.{◌≡◌, ◌≢◌, inl, inr, ⊎_elim, ℕ, zero, suc, ◌^◌, ◌<◌, ◌≤◌, List, [], ◌∷◌, length, map, Option, Some, None, get_or, slice_get, refl, sym, ap, subst, ◌∙◌, arith}
use Rattle.std.specs.List.{All, AllPairs, Contains, range_with_len}
use Rattle.std.specs.Str.{IsUtf8, bytes_eq}
use Rattle.std.proofs.lemmas.List.{get_or-map, length-map}
use Rattle.std.proofs.lemmas.List.FromFn.{length-range_with_len}
use Rattle.std.proofs.lemmas.Option.{slice_get-get_or}
use Rattle.trace_types.proofs.ShortLemmas.{firsts-short}
use Rattle.span_types.specs.declared.span.Span.{Span}
use Rattle.span_requests.specs.Callers.{caller_numbers}
use Rattle.span_requests.specs.SpansOnce.{spans_once}
use Rattle.span_calls.specs.Seen.{no_span}
use Rattle.span_calls.specs.declared.call.Call.{Call}
use Rattle.call_laws.specs.CallLaws.{AreAskedFor, AreCallsOf, InputsHaveCalls, SpansAreCalledOnce}
use Rattle.span_requests.specs.Faults.{HaveEntries}
use Rattle.trace_types.specs.declared.event.Event.{Event}
use Rattle.span_lines.specs.SpanLines.{AreRequestLines}
use Rattle.call_contexts.specs.Contexts.{AreContexts, Frame, frame_at, ordinals_among}
use Rattle.context_names.specs.Machines.{machines_of}
use Rattle.name_laws.specs.GoodNames.{HaveTexts}
use Rattle.span_lines.specs.Messages.{call_span}
use Rattle.span_laws.specs.GoodLines.{IsGiven}
use Rattle.span_laws.proofs.ApartLemmas.{Every, In, Once, every_in, in_range, in_to_range, once_range, contains_in}
use Rattle.span_laws.proofs.TraceLemmas as trace

-- ---- lists of which one has all that the other has

without : {X : Type 0} (xs : List X) (y : X) → In xs y → (zs : List X) × (length xs ≡ suc (length zs)) × ((z : X) → In xs z → (z ≡ y → ⊥) → In zs z)
without [] y h = absurd h
without (x ∷ xs) y (inl e) = (xs, refl, λ z i apart. ⊎_elim (λ q. absurd (apart (sym q ∙ e))) (λ q. q) i)
without (x ∷ xs) y (inr h) =
    let p = without xs y h in
    let n = p.1 in
    (x ∷ p.0, omega (arith, n), λ z i apart. ⊎_elim (λ q. inl q) (λ q. inr (p.2 z q apart)) i)

once_short : {X : Type 0} (ys xs : List X) → Once ys → ((y : X) → In ys y → In xs y) → length ys ≤ length xs
once_short [] xs o f = omega arith
once_short (y ∷ ys) xs o f =
    let p = without xs y (f y (inl refl)) in
    let n = p.1 in
    let r = once_short ys p.0 o.1 (λ z i. p.2 z (f z (inr i)) (λ e. every_in (λ w. y ≡ w → ⊥) ys o.0 z i (sym e))) in
    omega (arith, n, r)

once_from : (xs : List ℕ) → AllPairs (λ x y. x ≢ y) xs → Once xs
once_from [] h = tt
once_from (x ∷ xs) h = (every_by xs (λ k d l. h 0 (suc k) d (omega arith) (omega (arith, l))), once_from xs (λ i j d l w. h (suc i) (suc j) d (omega (arith, l)) (omega (arith, w))))
  where
    every_by : (ys : List ℕ) → ((k d : ℕ) → k < length ys → x ≢ get_or ys k d) → Every (λ y. x ≡ y → ⊥) ys
    every_by [] f = tt
    every_by (y ∷ ys) f = (f 0 0 (omega arith), every_by ys (λ k d l. f (suc k) d (omega (arith, l))))

get_or_any : (xs : List ℕ) (i d e : ℕ) → i < length xs → get_or xs i d ≡ get_or xs i e
get_or_any [] i d e l = absurd (omega (arith, l))
get_or_any (x ∷ xs) zero d e l = refl
get_or_any (x ∷ xs) (suc i) d e l = get_or_any xs i d e (omega (arith, l))

-- ---- counts

pub contexts_few : (calls : List Call) (numbers : List ℕ) (contexts : List Frame) → AreContexts calls numbers contexts → length contexts ≤ length calls
contexts_few calls numbers contexts placed =
    let s = once_short (range_with_len 0 (length contexts)) numbers (once_range 0 (length contexts)) (λ x i. contains_in numbers x (placed.used x (let w = (in_range 0 (length contexts) x i).1 in omega (arith, w)))) in
    let n = length-range_with_len 0 (length contexts) in
    let m = placed.size in
    omega (arith, s, n, m)

pub machines_few : (spans : List Span) → length (machines_of spans) ≤ length spans
machines_few spans =
    let s = firsts-short bytes_eq (map (λ (x : Span). x.machine) spans) in
    let n = length-map spans (λ (x : Span). x.machine) in
    omega (arith, s, n)

module _ (input : List Span) (asked : Option (List ℕ)) (entries : List ℕ) (calls : List Call)
    (h : AreCallsOf (spans_once input) (caller_numbers (spans_once input)) asked entries calls)
    (once : AreAskedFor (spans_once input) (caller_numbers (spans_once input)) asked h.are.numbers) where
  abbrev spans : List Span
  spans = spans_once input

  pub calls_few : length calls ≤ length spans
  calls_few =
      let s = once_short h.are.numbers (range_with_len 0 (length spans)) (once_from h.are.numbers once.apart) (λ n i. in_to_range 0 (length spans) n (omega arith) (let w = within h.are.numbers once.within n i in omega (arith, w))) in
      let n = length-range_with_len 0 (length spans) in
      let m = trace.size input asked entries calls h once in
      omega (arith, s, n, m)
    where
      within : (xs : List ℕ) → All (λ n. n < length spans) xs → (n : ℕ) → In xs n → n < length spans
      within [] f n i = absurd i
      within (x ∷ xs) f n (inl e) = let l = f 0 0 (omega arith) in omega (arith, e, l)
      within (x ∷ xs) f n (inr i) = within xs (λ k d l. f (suc k) d (omega (arith, l))) n i

  given_call : All IsGiven spans → (i : ℕ) → i < length calls → IsGiven (call_span calls i)
  given_call given i lt = subst IsGiven (sym (trace.span_is input asked entries calls h once i lt)) (given (get_or h.are.numbers i 0) no_span (trace.number_within input asked entries calls h once i lt))

  -- the texts of contexts are those of spans
  pub have_texts : All IsGiven spans → (d : Call) (numbers : List ℕ) (contexts : List Frame) → AreContexts calls numbers contexts → HaveTexts contexts
  have_texts given d numbers contexts placed = λ x z l. texts x z l (placed.used x l)
    where
      some_is : (f g : Frame) → ◌≡◌ {A = Option Frame} (Some f) (Some g) → f ≡ g
      some_is f g e = ap value e
        where
          value : Option Frame → Frame
          value (Some y) = y
          value None = f

      texts : (x : ℕ) (z : Frame) → x < length contexts → Contains numbers x → IsUtf8 (get_or contexts x z).service × IsUtf8 (get_or contexts x z).name
      texts x z l (k, w, e) =
          let n = placed.size in
          let lt : k < length calls = omega (arith, w, n) in
          let at : get_or numbers k 0 ≡ x = get_or_any numbers k 0 x w ∙ e in
          let f = frame_at numbers (get_or (ordinals_among calls) k 0) (get_or calls k d) in
          let same : get_or contexts x z ≡ f = some_is (get_or contexts x z) f (sym (slice_get-get_or contexts x z l) ∙ ap (slice_get contexts) (sym at) ∙ placed.own k (get_or calls k d) (slice_get-get_or calls k d lt)) in
          let span : call_span calls k ≡ (get_or calls k d).span.now = get_or-map (λ (c : Call). c.span.now) calls k d no_span lt in
          let g = subst IsGiven span (given_call given k lt) in
          subst (λ (y : Frame). IsUtf8 y.service × IsUtf8 y.name) (sym same) (g.service, g.name)

-- ---- requests

-- calls, contexts and machines are numbered with 64 bits
pub record AreFew (spans : List Span) (grace : ℕ) (asked : Option (List ℕ)) (requests : List (List Event)) (r : AreRequestLines spans grace asked requests) : Type 0 where
  pub calls : length r.calls < 2 ^ 64
  pub contexts : length r.placing.contexts < 2 ^ 64
  pub machines : length r.machines.machines < 2 ^ 64

-- they have numbers of seven digits, and contexts have texts of UTF-8
pub record AreShort (spans : List Span) (grace : ℕ) (asked : Option (List ℕ)) (requests : List (List Event)) (r : AreRequestLines spans grace asked requests) : Type 0 where
  pub calls : length r.calls < 10 ^ 7
  pub contexts : length r.placing.contexts < 10 ^ 7
  pub machines : length r.machines.machines < 10 ^ 7
  pub texts : HaveTexts r.placing.contexts

module _ (calls_law : InputsHaveCalls) (once_law : SpansAreCalledOnce) (input : List Span) (grace : ℕ) (asked : Option (List ℕ)) (requests : List (List Event)) (there : HaveEntries input) where
  of_request : (a : AreRequestLines (spans_once input) grace asked requests) → AreCallsOf (spans_once input) (caller_numbers (spans_once input)) asked a.entries a.calls
  of_request a = calls_law input asked a.entries a.calls there a.within a.begin a.called

  bounds : (a : AreRequestLines (spans_once input) grace asked requests) → (length a.calls ≤ length (spans_once input)) × (length a.placing.contexts ≤ length a.calls) × (length a.machines.machines ≤ length (spans_once input))
  bounds a =
      let h = of_request a in (
        calls_few input asked a.entries a.calls h (once_law (spans_once input) (caller_numbers (spans_once input)) asked a.entries a.calls h),
        contexts_few a.calls a.placing.numbers a.placing.contexts a.placed,
        subst (λ (ms : List (List ℕ)). length ms ≤ length (spans_once input)) (sym a.known) (machines_few (spans_once input)),
      )

  pub few_of : (a : AreRequestLines (spans_once input) grace asked requests) → length (spans_once input) < 2 ^ 64 → AreFew (spans_once input) grace asked requests a
  few_of a small = let b = bounds a in let x = b.0 in let y = b.1 in let z = b.2 in record { calls = omega (arith, x, small); contexts = omega (arith, x, y, small); machines = omega (arith, z, small) }

  pub short_of : All IsGiven (spans_once input) → (a : AreRequestLines (spans_once input) grace asked requests) → length (spans_once input) < 10 ^ 7 → AreShort (spans_once input) grace asked requests a
  short_of given a small =
      let b = bounds a in
      let x = b.0 in
      let y = b.1 in
      let z = b.2 in
      record {
        calls = omega (arith, x, small);
        contexts = omega (arith, x, y, small);
        machines = omega (arith, z, small);
        texts = texts_of a.calls refl;
      }
    where
      texts_of : (cs : List Call) → a.calls ≡ cs → HaveTexts a.placing.contexts
      texts_of [] e = λ k d l. let c = contexts_few a.calls a.placing.numbers a.placing.contexts a.placed in let n = ap length e in absurd (omega (arith, l, c, n))
      texts_of (d ∷ cs) e =
          let h = of_request a in
          have_texts input asked a.entries a.calls h (once_law (spans_once input) (caller_numbers (spans_once input)) asked a.entries a.calls h) given d a.placing.numbers a.placing.contexts a.placed
