-- What each trace of a batch keeps.
use Rattle.std.proofs.Common.{◌≡◌, ℕ, ◌+◌, ◌<◌, ◌≤◌, List, [], ◌∷◌, length, get_or, map, filter, Bool, true, false, not, refl, sym, arith}
use Rattle.std.specs.Prelude.{All}
use Rattle.std.specs.List.{AllPairs}
use Rattle.std.proofs.lemmas.List.{get_or-map, length-map}
use Rattle.std.proofs.lemmas.List.Elements.{All-map, All-cons, All-filter, filter_passes}
use Rattle.std.proofs.lemmas.List.Sums.{count_by-le-length, length-filter}
use Rattle.std.proofs.lemmas.List.Kept.{AllPairs-filter, AllPairs-from_increasing}
use Rattle.trace_types.specs.declared.event.Event.{Event}
use Rattle.trace_types.specs.EventLines.{AreOfRequest, LinesRise}
use Rattle.trace_types.specs.Times.{AreTimely, latest_time}
use Rattle.trace_types.specs.Batch.{PlainTrace, is_of_request, events_of, requests_of, trace_of, traces_of}
use Rattle.trace_types.proofs.ComparingLemmas.{text_laws, text_means}

abbrev IsBefore : Event → Event → Type 0
IsBefore a b = a.line < b.line

pairs_from_rising : (events : List Event) → LinesRise events → AllPairs IsBefore events
pairs_from_rising events rising i j d lt within =
    let h = AllPairs-from_increasing (map (λ (e : Event). e.line) events) rising i j 0 lt (rw length-map within) in
    let a = get_or-map (λ (e : Event). e.line) events i d 0 (omega arith) in
    let b = get_or-map (λ (e : Event). e.line) events j d 0 within in
    rw (sym a, sym b) h

rising_from_pairs : (d : Event) (events : List Event) → AllPairs IsBefore events → LinesRise events
rising_from_pairs d events pairs k within =
    let w : k + 1 < length events = rw length-map at within in
    let a = get_or-map (λ (e : Event). e.line) events k d 0 (omega arith) in
    let b = get_or-map (λ (e : Event). e.line) events (k + 1) d 0 w in
    rw (a, b) (pairs k (k + 1) d (omega arith) w)

rising-events_of : (request : List ℕ) (batch : List Event) → LinesRise batch → LinesRise (events_of request batch)
rising-events_of request [] rising = rising
rising-events_of request (first ∷ batch) rising = rising_from_pairs first (events_of request (first ∷ batch)) (AllPairs-filter IsBefore (is_of_request request) (first ∷ batch) (pairs_from_rising (first ∷ batch) rising))

of_request-events_of : (request : List ℕ) (batch : List Event) → AreOfRequest request (events_of request batch)
of_request-events_of request batch k d within = text_means _ request (filter_passes (is_of_request request) batch k d within)

-- a request of later events has them in the whole batch too
events_of_more : (request : List ℕ) (first : Event) (batch : List Event) → 0 < length (events_of request batch) → 0 < length (events_of request (first ∷ batch))
events_of_more request first batch there = by (is_of_request request first) refl
  where
    by : (b : Bool) → is_of_request request first ≡ b → 0 < length (events_of request (first ∷ batch))
    by true e = rw e (omega arith)
    by false e = rw e there

events_of_first : (first : Event) (batch : List Event) → 0 < length (events_of first.request (first ∷ batch))
events_of_first first batch = let own : is_of_request first.request first ≡ true = text_laws.refl first.request in rw own (omega arith)

events_of_there : (batch : List Event) → All (λ request. 0 < length (events_of request batch)) (requests_of batch)
events_of_there [] k d within = absurd (omega arith)
events_of_there (first ∷ batch) k d within =
    All-cons (λ request. 0 < length (events_of request (first ∷ batch))) first.request (filter (λ request. not (is_of_request request first)) (requests_of batch)) (events_of_first first batch)
    (All-filter (λ request. not (is_of_request request first)) (λ request. 0 < length (events_of request (first ∷ batch))) (requests_of batch)
    (λ j e lt. events_of_more (get_or (requests_of batch) j e) first batch (events_of_there batch j e lt))) k d within

pub traces_not_empty : (batch : List Event) → All (λ (t : PlainTrace). 0 < length t.events) (traces_of batch)
traces_not_empty batch = All-map (λ (t : PlainTrace). 0 < length t.events) (trace_of batch) (requests_of batch) (events_of_there batch)

pub traces_of_request : (batch : List Event) → All (λ (t : PlainTrace). AreOfRequest t.request t.events) (traces_of batch)
traces_of_request batch = All-map (λ (t : PlainTrace). AreOfRequest t.request t.events) (trace_of batch) (requests_of batch) (λ k d within. of_request-events_of (get_or (requests_of batch) k d) batch)

pub traces_rising : (batch : List Event) → LinesRise batch → All (λ (t : PlainTrace). LinesRise t.events) (traces_of batch)
traces_rising batch rising = All-map (λ (t : PlainTrace). LinesRise t.events) (trace_of batch) (requests_of batch) (λ k d within. rising-events_of (get_or (requests_of batch) k d) batch rising)

pub traces_timely : (batch : List Event) → AreTimely batch → All (λ (t : PlainTrace). AreTimely t.events) (traces_of batch)
traces_timely batch timely = All-map (λ (t : PlainTrace). AreTimely t.events) (trace_of batch) (requests_of batch)
    (λ k d within. All-filter (is_of_request (get_or (requests_of batch) k d)) (λ (e : Event). e.time ≤ latest_time) batch timely)

events_of_few : (request : List ℕ) (batch : List Event) → length (events_of request batch) ≤ length batch
events_of_few request batch = rw (length-filter (is_of_request request) batch) (count_by-le-length (is_of_request request) batch)

pub traces_few : (batch : List Event) (count : ℕ) → length batch < count → All (λ (t : PlainTrace). length t.events < count) (traces_of batch)
traces_few batch count few = All-map (λ (t : PlainTrace). length t.events < count) (trace_of batch) (requests_of batch) (λ k d within. let own = events_of_few (get_or (requests_of batch) k d) batch in omega (arith, own, few))
