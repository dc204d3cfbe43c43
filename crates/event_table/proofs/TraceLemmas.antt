-- The traces of events, by the numbers of their texts.
use Rattle.std.proofs.Common.{◌≡◌, ℕ, suc, ◌<◌, ◌==◌, List, [], ◌∷◌, length, get_or, map, filter, Bool, true, false, not, nat_eq, refl, sym, ap, ◌∙◌, All, true≢false, arith}
use Rattle.std.specs.Str.{bytes_eq}
use Rattle.std.proofs.lemmas.Bool.{eqb-true, eq-eqb}
use Rattle.std.proofs.lemmas.List.Elements.{All-filter, All-map, All-weaker, filter_passes}
use Rattle.std.proofs.lemmas.Option.{slice_get-get_or}
use Rattle.trace_types.specs.declared.event.Event.{Event}
use Rattle.trace_types.specs.Batch.{events_of, trace_of, traces_of}
use Rattle.trace_types.specs.Firsts.{firsts_of}
use Rattle.trace_types.proofs.ComparingLemmas.{text_laws, text_means}
use Rattle.event_table.specs.declared.event_numbers.EventNumbers.{EventNumbers}
use Rattle.event_table.specs.Gathered.{first_request, trace_under, traces_under}
use Rattle.event_table.specs.Numbers.{event_under, events_under, text_under}
use Rattle.event_table.specs.inner.Tables.{AreWithin}
use Rattle.event_table.specs.Texts.{AreDifferent, MessageLists, TextLists}
use Rattle.event_table.specs.inner.Placing.{groups_of, request_numbers, with_request}
use Rattle.event_table.proofs.CountLemmas.{keys}
use Rattle.event_table.proofs.FirstLemmas.{firsts_all}
use Rattle.event_table.proofs.GroupLemmas.{requests_there}
use Rattle.event_table.proofs.TextLemmas.{numbers_apart}

module _ (texts : TextLists) (messages : MessageLists) (differ : AreDifferent texts.requests) where
  same_text : (i j : ℕ) → i < length texts.requests → j < length texts.requests → bytes_eq (text_under texts.requests i) (text_under texts.requests j) ≡ nat_eq i j
  same_text i j li lj = by (nat_eq i j) (bytes_eq (text_under texts.requests i) (text_under texts.requests j)) refl refl
    where
      by : (b d : Bool) → nat_eq i j ≡ b → bytes_eq (text_under texts.requests i) (text_under texts.requests j) ≡ d → bytes_eq (text_under texts.requests i) (text_under texts.requests j) ≡ nat_eq i j
      by true d e f = ap (λ (k : ℕ). bytes_eq (text_under texts.requests i) (text_under texts.requests k)) (sym (eqb-true i j e)) ∙ text_laws.refl (text_under texts.requests i) ∙ sym e
      by false false e f = f ∙ sym e
      by false true e f =
          let same : i ≡ j = (numbers_apart texts.requests differ i j (text_under texts.requests i) (text_under texts.requests j) (slice_get-get_or texts.requests i [] li) (slice_get-get_or texts.requests j [] lj)).1 (text_means (text_under texts.requests i) (text_under texts.requests j) f) in
          absurd (true≢false (sym (eq-eqb i j same) ∙ e))

  events_same : (request : ℕ) (all : List EventNumbers) → request < length texts.requests → All (AreWithin texts messages) all → events_of (text_under texts.requests request) (events_under texts messages all) ≡ events_under texts messages (with_request all request)
  events_same request [] lt within = refl
  events_same request (event ∷ all) lt within =
      by (nat_eq event.request request) refl (same_text event.request request (within 0 event (omega arith)).request lt) (events_same request all lt (λ k d l. within (suc k) d (omega (arith, l))))
    where
      by : (b : Bool) → nat_eq event.request request ≡ b → bytes_eq (text_under texts.requests event.request) (text_under texts.requests request) ≡ nat_eq event.request request
          → events_of (text_under texts.requests request) (events_under texts messages all) ≡ events_under texts messages (with_request all request)
          → events_of (text_under texts.requests request) (events_under texts messages (event ∷ all)) ≡ events_under texts messages (with_request (event ∷ all) request)
      by true e f rest = let g = f ∙ e in rw (g, e) (ap (λ (es : List Event). event_under texts messages event ∷ es) rest)
      by false e f rest = let g = f ∙ e in rw (g, e) rest

  others_same : (x : ℕ) (xs : List ℕ) → x < length texts.requests → All (λ k. k < length texts.requests) xs
      → filter (λ y. not (bytes_eq (text_under texts.requests x) y)) (map (text_under texts.requests) xs) ≡ map (text_under texts.requests) (filter (λ y. not (nat_eq x y)) xs)
  others_same x [] lt within = refl
  others_same x (y ∷ ys) lt within =
      by (nat_eq x y) refl (same_text x y lt (within 0 y (omega arith))) (others_same x ys lt (λ k d l. within (suc k) d (omega (arith, l))))
    where
      by : (b : Bool) → nat_eq x y ≡ b → bytes_eq (text_under texts.requests x) (text_under texts.requests y) ≡ nat_eq x y
          → filter (λ z. not (bytes_eq (text_under texts.requests x) z)) (map (text_under texts.requests) ys) ≡ map (text_under texts.requests) (filter (λ z. not (nat_eq x z)) ys)
          → filter (λ z. not (bytes_eq (text_under texts.requests x) z)) (map (text_under texts.requests) (y ∷ ys)) ≡ map (text_under texts.requests) (filter (λ z. not (nat_eq x z)) (y ∷ ys))
      by true e f rest = let g = f ∙ e in rw (g, e) rest
      by false e f rest = let g = f ∙ e in rw (g, e) (ap (λ (zs : List (List ℕ)). text_under texts.requests y ∷ zs) rest)

  firsts_same : (xs : List ℕ) → All (λ k. k < length texts.requests) xs → firsts_of bytes_eq (map (text_under texts.requests) xs) ≡ map (text_under texts.requests) (firsts_of nat_eq xs)
  firsts_same [] within = refl
  firsts_same (x ∷ xs) within =
      let rest : All (λ k. k < length texts.requests) xs = λ k d l. within (suc k) d (omega (arith, l)) in
      ap (λ (ys : List (List ℕ)). text_under texts.requests x ∷ filter (λ y. not (bytes_eq (text_under texts.requests x) y)) ys) (firsts_same xs rest)
      ∙ ap (λ (ys : List (List ℕ)). text_under texts.requests x ∷ ys) (others_same x (firsts_of nat_eq xs) (within 0 x (omega arith)) (firsts_all (λ k. k < length texts.requests) xs rest))

  keys_same : (all : List EventNumbers) → map (λ (e : Event). e.request) (events_under texts messages all) ≡ map (text_under texts.requests) (keys all)
  keys_same [] = refl
  keys_same (event ∷ all) = ap (λ (ys : List (List ℕ)). text_under texts.requests event.request ∷ ys) (keys_same all)

  first_same : (request : ℕ) (events : List EventNumbers) → 0 < length events → All (λ (e : EventNumbers). (e.request == request) ≡ true) events → first_request texts.requests events ≡ text_under texts.requests request
  first_same request [] some own = absurd (omega arith)
  first_same request (event ∷ events) some own = ap (text_under texts.requests) (eqb-true event.request request (own 0 event (omega arith)))

  each_same : (all : List EventNumbers) (requests : List ℕ) → All (AreWithin texts messages) all → All (λ k. k < length texts.requests) requests → All (λ r. 0 < length (with_request all r)) requests
      → map (trace_of (events_under texts messages all)) (map (text_under texts.requests) requests) ≡ map (trace_under texts messages) (map (with_request all) requests)
  each_same all [] within below some = refl
  each_same all (request ∷ requests) within below some =
      let events = events_same request all (below 0 request (omega arith)) within in
      let first = first_same request (with_request all request) (some 0 request (omega arith)) (filter_passes (λ (e : EventNumbers). e.request == request) all) in
      let rest = each_same all requests within (λ k d l. below (suc k) d (omega (arith, l))) (λ k d l. some (suc k) d (omega (arith, l))) in
      λ k. record { request = sym first k; events = events k } ∷ rest k

  keys_within : (all : List EventNumbers) → All (AreWithin texts messages) all → All (λ k. k < length texts.requests) (keys all)
  keys_within all within = All-map (λ k. k < length texts.requests) (λ (e : EventNumbers). e.request) all (All-weaker (AreWithin texts messages) (λ (e : EventNumbers). e.request < length texts.requests) (λ e w. w.request) all within)

  -- the traces of a batch are those of its groups by number
  pub traces_same : (all : List EventNumbers) → All (AreWithin texts messages) all → traces_of (events_under texts messages all) ≡ map (trace_under texts messages) (groups_of all (request_numbers all))
  traces_same all within =
      ap (λ (rs : List (List ℕ)). map (trace_of (events_under texts messages all)) rs) (ap (firsts_of bytes_eq) (keys_same all) ∙ firsts_same (keys all) (keys_within all within))
      ∙ each_same all (request_numbers all) within (firsts_all (λ k. k < length texts.requests) (keys all) (keys_within all within)) (requests_there all)

-- what holds of all events holds of those of each group
pub groups_within : (P : EventNumbers → Type 0) (all : List EventNumbers) (requests : List ℕ) → All P all → All (λ group. All P group) (groups_of all requests)
groups_within P all requests within = All-map (λ group. All P group) (with_request all) requests (λ k d lt. All-filter (λ (e : EventNumbers). e.request == get_or requests k d) P all within)

-- each group of a request of the events has an event
pub groups_some : (all : List EventNumbers) → All (λ group. 0 < length group) (groups_of all (request_numbers all))
groups_some all = All-map (λ group. 0 < length group) (with_request all) (request_numbers all) (requests_there all)

-- what was placed by number are the traces of the events
pub gathered_traces : (texts : TextLists) (messages : MessageLists) (all : List EventNumbers) (groups : List (List EventNumbers)) (batch : List Event) → AreDifferent texts.requests → All (AreWithin texts messages) all
    → groups ≡ groups_of all (request_numbers all) → events_under texts messages all ≡ batch → traces_under texts messages groups ≡ traces_of batch
gathered_traces texts messages all groups batch differ within placed seen = ap (map (trace_under texts messages)) placed ∙ sym (traces_same texts messages differ all within) ∙ ap traces_of seen
