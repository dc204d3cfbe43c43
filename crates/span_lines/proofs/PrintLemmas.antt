-- Requests that are printed call by call.
use Rattle.std.proofs.Common.{◌≡◌, ◌∙◌, ◌⊎◌, inl, inr, ℕ, ◌+◌, ◌-◌, ◌<◌, ◌≤◌, List, [], ◌∷◌, ◌++◌, Bool, cond, length, map, filter, min, ap, sym, append_assoc, arith}
use Rattle.std.specs.Prelude.{nat_lt}
use Rattle.std.specs.List.{count_by, flat_map, range_with_len}
use Rattle.std.proofs.lemmas.Bool.{cases_lt, lt-ltb}
use Rattle.std.proofs.lemmas.Grind.{flat_map-append}
use Rattle.std.proofs.lemmas.List.Sums.{sum_by-append}
use Rattle.std.proofs.lemmas.List.{length-append, map-append}
use Rattle.std.proofs.lemmas.List.Elements.{filter-append}
use Rattle.trace_types.specs.declared.event.Event.{Event}
use Rattle.event_text.specs.LineTexts.{event_text}
use Rattle.span_types.specs.declared.span.Span.{Span}
use Rattle.call_trees.proofs.OrderLemmas.{range_more}
use Rattle.span_lines.specs.Lines.{thread_lines}
use Rattle.span_lines.specs.Mappings.{Mapping, begins_thread}
use Rattle.span_lines.specs.Messages.{call_span}
use Rattle.span_lines.specs.Requests.{begins_request, name_of_request, request_lines}
use Rattle.span_lines.specs.SpanTexts.{is_long, requests_text}
use Rattle.span_lines.specs.inner.Printed.{lines_among, requests_among, text_of}
use Rattle.span_lines.proofs.StepLemmas.{text_both}

range_next : (first i : ℕ) → first ≤ i → range_with_len first (i + 1 - first) ≡ range_with_len first (i - first) ++ i ∷ []
range_next first i le =
    ap (range_with_len first) (let e : i + 1 - first ≡ i - first + 1 = omega (arith, le) in e) ∙ range_more first (i - first)
    ∙ ap (λ k. range_with_len first (i - first) ++ k ∷ []) (let e : first + (i - first) ≡ i = omega (arith, le) in e)

module _ (m : Mapping) (request : List ℕ) (first i : ℕ) (le : first ≤ i) where
  done : List Event
  done = lines_among m request (range_with_len first (i - first))

  among_next : lines_among m request (range_with_len first (i + 1 - first)) ≡ lines_among m request (range_with_len first (i - first)) ++ lines_among m request (i ∷ [])
  among_next = ap (lines_among m request) (range_next first i le) ∙ ap (flat_map (thread_lines m request)) (filter-append (begins_thread m) (range_with_len first (i - first)) (i ∷ []))
      ∙ flat_map-append (thread_lines m request) (filter (begins_thread m) (range_with_len first (i - first))) (filter (begins_thread m) (i ∷ []))

  pub calls_text : (old text new : List ℕ) → text ≡ old ++ text_of (lines_among m request (range_with_len first (i - first))) → new ≡ text ++ text_of (lines_among m request (i ∷ []))
      → new ≡ old ++ text_of (lines_among m request (range_with_len first (i + 1 - first)))
  calls_text old text new h step =
      step ∙ ap (λ (xs : List ℕ). xs ++ text_of (lines_among m request (i ∷ []))) h
      ∙ append_assoc old (text_of (lines_among m request (range_with_len first (i - first)))) (text_of (lines_among m request (i ∷ [])))
      ∙ ap (λ (xs : List ℕ). old ++ xs) (sym (ap text_of among_next ∙ text_both (lines_among m request (range_with_len first (i - first))) (lines_among m request (i ∷ []))))

  pub calls_count : (count more new : ℕ) → count ≡ min 18446744073709551615 (length (lines_among m request (range_with_len first (i - first)))) → more ≡ length (lines_among m request (i ∷ []))
      → new ≡ min (count + more) 18446744073709551615 → new ≡ min 18446744073709551615 (length (lines_among m request (range_with_len first (i + 1 - first))))
  calls_count count more new h g step =
      let both = ap length among_next ∙ length-append (lines_among m request (range_with_len first (i - first))) (lines_among m request (i ∷ [])) in
      omega (arith, h, g, step, both)

-- ---- requests

count_both : {X : Type 0} (p : X → Bool) (xs ys : List X) → count_by p (xs ++ ys) ≡ count_by p xs + count_by p ys
count_both p xs ys = sum_by-append (λ x. cond (p x) 1 0) xs ys

pub request_is : (m : Mapping) (request own : List ℕ) (call end size : ℕ) → request ≡ own → end ≡ call + size → lines_among m request (range_with_len call (end - call)) ≡ lines_among m own (range_with_len call size)
request_is m request own call end size h e = let n : end - call ≡ size = omega (arith, e) in λ k. lines_among m (h k) (range_with_len call (n k))

pub long_is : (lines : List Event) (count : ℕ) → count ≡ min 18446744073709551615 (length lines) → nat_lt 4096 count ≡ is_long lines
long_is lines count h = by (cases_lt 18446744073709551615 (length lines))
  where
    by : (18446744073709551615 < length lines) ⊎ (length lines ≤ 18446744073709551615) → nat_lt 4096 count ≡ is_long lines
    by (inl more) = lt-ltb 4096 count (omega (arith, h, more)) ∙ sym (lt-ltb 4096 (length lines) (omega (arith, more)))
    by (inr le) = ap (nat_lt 4096) (let e : count ≡ length lines = omega (arith, h, le) in e)

module _ (m : Mapping) (entries : List Span) (i : ℕ) where
  requests_next : requests_among m entries (range_with_len 0 (i + 1)) ≡ requests_among m entries (range_with_len 0 i) ++ requests_among m entries (i ∷ [])
  requests_next =
      let f : ℕ → List Event = λ k. request_lines m (name_of_request entries (call_span m.calls k)) k in
      ap (requests_among m entries) (range_more 0 i ∙ ap (λ k. range_with_len 0 i ++ k ∷ []) (let e : 0 + i ≡ i = omega arith in e))
      ∙ ap (map f) (filter-append (begins_request m.calls) (range_with_len 0 i) (i ∷ []))
      ∙ map-append f (filter (begins_request m.calls) (range_with_len 0 i)) (filter (begins_request m.calls) (i ∷ []))

  pub requests_text_next : (old text new : List ℕ) → text ≡ old ++ requests_text (requests_among m entries (range_with_len 0 i)) → new ≡ text ++ requests_text (requests_among m entries (i ∷ []))
      → new ≡ old ++ requests_text (requests_among m entries (range_with_len 0 (i + 1)))
  requests_text_next old text new h step =
      step ∙ ap (λ (xs : List ℕ). xs ++ requests_text (requests_among m entries (i ∷ []))) h
      ∙ append_assoc old (requests_text (requests_among m entries (range_with_len 0 i))) (requests_text (requests_among m entries (i ∷ [])))
      ∙ ap (λ (xs : List ℕ). old ++ xs) (sym (ap requests_text requests_next ∙ flat_map-append (flat_map event_text) (requests_among m entries (range_with_len 0 i)) (requests_among m entries (i ∷ []))))

  pub requests_count_next : (long more : ℕ) → long ≡ count_by is_long (requests_among m entries (range_with_len 0 i)) → more ≡ count_by is_long (requests_among m entries (i ∷ []))
      → long + more ≡ count_by is_long (requests_among m entries (range_with_len 0 (i + 1)))
  requests_count_next long more h g =
      let both = ap (count_by is_long) requests_next ∙ count_both is_long (requests_among m entries (range_with_len 0 i)) (requests_among m entries (i ∷ [])) in
      omega (arith, h, g, both)
