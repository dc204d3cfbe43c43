-- Groups of events that are filled, event after event.
use Rattle.std.proofs.Common.{◌≡◌, ◌≢◌, ℕ, suc, ◌+◌, ◌-◌, ◌<◌, ◌≤◌, List, [], ◌∷◌, ◌++◌, length, get_or, set, take, drop, map, Bool, true, false, nat_eq, slice_range, refl, sym, ap, ◌∙◌, subst, All, true≢false, append_assoc, length-append, arith}
use Rattle.std.specs.Prelude.{sum_by}
use Rattle.std.specs.List.{list_any}
use Rattle.std.proofs.lemmas.Bool.{eq-eqb}
use Rattle.std.proofs.lemmas.List.{get_or_at, get_or-set_same, get_or-set_other, length-set, length-drop, length_push, drop-set-add, drop-set-lt, take-set-le, take_more_set}
use Rattle.std.proofs.lemmas.List.Elements.{filter-append}
use Rattle.std.proofs.lemmas.List.Sums.{sum_by-cons}
use Rattle.trace_types.proofs.ComparingLemmas.{nat_means}
use Rattle.event_table.specs.declared.event_numbers.EventNumbers.{EventNumbers}
use Rattle.event_table.specs.inner.Cuts.{AreStops, cut_at}
use Rattle.event_table.specs.inner.Placing.{AreFilled, AreStarts, HaveRequestsBelow, IsPlacing, ends_from, no_place, with_request}
use Rattle.event_table.specs.Texts.{AreDifferent}
use Rattle.event_table.proofs.CountLemmas.{with_other, with_own}
use Rattle.event_table.proofs.FirstLemmas.{apart_head, apart_tail}

-- the events of a request so far are some of all
with_some : (done later : List EventNumbers) (request : ℕ) → length (with_request done request) ≤ length (with_request (done ++ later) request)
with_some done later request =
    let cut : length (with_request (done ++ later) request) ≡ length (with_request done request) + length (with_request later request) =
    ap (λ (es : List EventNumbers). length es) (filter-append (λ (e : EventNumbers). nat_eq e.request request) done later) ∙ length-append (with_request done request) (with_request later request) in
    omega arith

-- ---- before the first event

pub starts_filled : (size : ℕ → ℕ) (all : List EventNumbers) (starts : List ℕ) (out : List EventNumbers) (start : ℕ) (requests : List ℕ) → AreStarts size starts start requests
    → All (λ r. size r ≡ length (with_request all r)) requests → start + sum_by size requests ≤ length out → AreFilled [] all starts out start requests
starts_filled size all starts out start [] at sizes room = omega (arith, room)
starts_filled size all starts out start (request ∷ requests) at sizes room =
    let own : size request ≡ length (with_request all request) = sizes 0 request (omega arith) in
    let c = sum_by-cons size request requests in
    let e : start ≡ start + 0 = omega arith in
    let rest : AreFilled [] all starts out (start + size request) requests = starts_filled size all starts out (start + size request) requests at.2 (λ k d lt. sizes (suc k) d (omega (arith, lt))) (omega (arith, room)) in
    (at.0, at.1 ∙ e, refl, subst (λ (n : ℕ). AreFilled [] all starts out (start + n) requests) own rest)

-- ---- one event

module _ (done all later : List EventNumbers) (event : EventNumbers) (all_is : all ≡ done ++ event ∷ later) where
  so_few : (request : ℕ) → length (with_request done request) ≤ length (with_request all request)
  so_few request = subst (λ (es : List EventNumbers). length (with_request done request) ≤ length (with_request es request)) (sym all_is) (with_some done (event ∷ later) request)

  -- it is one more of its request
  fewer : length (with_request done event.request) < length (with_request all event.request)
  fewer =
      let cut : done ++ event ∷ later ≡ (done ++ event ∷ []) ++ later = sym (append_assoc done (event ∷ []) later) in
      let some : length (with_request (done ++ event ∷ []) event.request) ≤ length (with_request all event.request) =
      subst (λ (es : List EventNumbers). length (with_request (done ++ event ∷ []) event.request) ≤ length (with_request es event.request)) (sym (all_is ∙ cut)) (with_some (done ++ event ∷ []) later event.request) in
      let grown : length (with_request (done ++ event ∷ []) event.request) ≡ length (with_request done event.request) + 1 = ap (λ (es : List EventNumbers). length es) (with_own done event event.request refl) ∙ length_push (with_request done event.request) event in
      omega arith

  pub past : (next : List ℕ) (out : List EventNumbers) (start : ℕ) (requests : List ℕ) → AreFilled done all next out start requests → start ≤ length out
  past next out start [] filled = filled
  past next out start (request ∷ requests) filled = let p = past next out (start + length (with_request all request)) requests filled.3 in omega arith

  -- where the event goes
  pub place_within : (next : List ℕ) (out : List EventNumbers) (start : ℕ) (requests : List ℕ) → list_any (nat_eq event.request) requests ≡ true → AreFilled done all next out start requests
      → (event.request < length next) × (start ≤ get_or next event.request 0) × (get_or next event.request 0 < length out)
  place_within next out start [] there filled = absurd (cc there)
  place_within next out start (request ∷ requests) there filled =
      by (nat_eq event.request request) refl (λ rest. place_within next out (start + length (with_request all request)) requests rest filled.3)
    where
      by : (b : Bool) → nat_eq event.request request ≡ b
          → (list_any (nat_eq event.request) requests ≡ true → (event.request < length next) × (start + length (with_request all request) ≤ get_or next event.request 0) × (get_or next event.request 0 < length out))
          → (event.request < length next) × (start ≤ get_or next event.request 0) × (get_or next event.request 0 < length out)
      by true e rest =
          let same : event.request ≡ request = nat_means event.request request e in
          let p = past next out (start + length (with_request all request)) requests filled.3 in
          let f = fewer in
          let f' : length (with_request done request) < length (with_request all request) = subst (λ (r : ℕ). length (with_request done r) < length (with_request all r)) same f in
          let at : get_or next request 0 ≡ start + length (with_request done request) = filled.1 in
          let w : request < length next = filled.0 in
          subst (λ (r : ℕ). (r < length next) × (start ≤ get_or next r 0) × (get_or next r 0 < length out)) (sym same) (w, omega arith, omega arith)
      by false e rest = let r = rest (rw e at there) in let low = r.1 in (r.0, omega arith, r.2)

  -- groups of other requests, that stand after its place
  untouched : (next : List ℕ) (out : List EventNumbers) (place value start : ℕ) (requests : List ℕ) → list_any (nat_eq event.request) requests ≡ false → place < start → AreFilled done all next out start requests
      → AreFilled (done ++ event ∷ []) all (set next event.request value) (set out place event) start requests
  untouched next out place value start [] none before filled = let l : length (set out place event) ≡ length out = length-set out place event in omega arith
  untouched next out place value start (request ∷ requests) none before filled =
      by (nat_eq event.request request) refl (λ rest. untouched next out place value (start + length (with_request all request)) requests rest (omega (arith, before)) filled.3)
    where
      by : (b : Bool) → nat_eq event.request request ≡ b
          → (list_any (nat_eq event.request) requests ≡ false → AreFilled (done ++ event ∷ []) all (set next event.request value) (set out place event) (start + length (with_request all request)) requests)
          → AreFilled (done ++ event ∷ []) all (set next event.request value) (set out place event) start (request ∷ requests)
      by true e rest = absurd (cc (rw e at none))
      by false e rest =
          let other : event.request ≢ request = λ (h : event.request ≡ request). true≢false (sym (eq-eqb event.request request h) ∙ e) in
          let same : with_request (done ++ event ∷ []) request ≡ with_request done request = with_other done event request other in
          let long : length (set next event.request value) ≡ length next = length-set next event.request value in
          let w = filled.0 in (
            omega arith,
            get_or-set_other next event.request request value 0 (λ (h : request ≡ event.request). other (sym h)) ∙ filled.1 ∙ ap (λ (es : List EventNumbers). start + length es) (sym same),
            ap (λ (es : List EventNumbers). take (length es) (drop start (set out place event))) same ∙ ap (take (length (with_request done request))) (drop-set-lt start out place event before) ∙ filled.2 ∙ sym same,
            rest (rw e at none),
          )

  pub place_next : (next : List ℕ) (out : List EventNumbers) (start : ℕ) (requests : List ℕ) → AreDifferent requests → list_any (nat_eq event.request) requests ≡ true → AreFilled done all next out start requests
      → AreFilled (done ++ event ∷ []) all (set next event.request (get_or next event.request 0 + 1)) (set out (get_or next event.request 0) event) start requests
  place_next next out start [] apart there filled = absurd (cc there)
  place_next next out start (request ∷ requests) apart there filled =
      by (nat_eq event.request request) refl (λ rest. place_next next out (start + length (with_request all request)) requests (apart_tail request requests apart) rest filled.3)
    where
      by : (b : Bool) → nat_eq event.request request ≡ b
          → (list_any (nat_eq event.request) requests ≡ true → AreFilled (done ++ event ∷ []) all (set next event.request (get_or next event.request 0 + 1)) (set out (get_or next event.request 0) event) (start + length (with_request all request)) requests)
          → AreFilled (done ++ event ∷ []) all (set next event.request (get_or next event.request 0 + 1)) (set out (get_or next event.request 0) event) start (request ∷ requests)
      by true e rest =
          let same : event.request ≡ request = nat_means event.request request e in
          let own : with_request (done ++ event ∷ []) request ≡ with_request done request ++ event ∷ [] = with_own done event request same in
          let grown : length (with_request (done ++ event ∷ []) request) ≡ length (with_request done request) + 1 = ap (λ (es : List EventNumbers). length es) own ∙ length_push (with_request done request) event in
          let here : get_or next event.request 0 ≡ start + length (with_request done request) = ap (λ (r : ℕ). get_or next r 0) same ∙ filled.1 in
          let p = past next out (start + length (with_request all request)) requests filled.3 in
          let f : length (with_request done request) < length (with_request all request) = subst (λ (r : ℕ). length (with_request done r) < length (with_request all r)) same fewer in
          let long : length (set next event.request (get_or next event.request 0 + 1)) ≡ length next = length-set next event.request (get_or next event.request 0 + 1) in
          let w : request < length next = filled.0 in
          let we : event.request < length next = subst (λ (r : ℕ). r < length next) (sym same) w in
          let left : length (drop start out) ≡ length out - start = length-drop start out in
          let value : get_or (set next event.request (get_or next event.request 0 + 1)) request 0 ≡ get_or next event.request 0 + 1 =
          subst (λ (r : ℕ). get_or (set next event.request (get_or next event.request 0 + 1)) r 0 ≡ get_or next event.request 0 + 1) same (get_or-set_same next event.request (get_or next event.request 0 + 1) 0 we) in
          let written : drop start (set out (get_or next event.request 0) event) ≡ set (drop start out) (length (with_request done request)) event =
          ap (λ (n : ℕ). drop start (set out n event)) here ∙ drop-set-add start out (length (with_request done request)) event in (
            omega arith,
            (let sum : get_or next event.request 0 + 1 ≡ start + length (with_request (done ++ event ∷ []) request) = omega arith in value ∙ sum),
            ap (λ (n : ℕ). take n (drop start (set out (get_or next event.request 0) event))) grown ∙ ap (take (length (with_request done request) + 1)) written
                ∙ take_more_set (drop start out) (length (with_request done request)) event (omega arith)
                ∙ ap (λ (es : List EventNumbers). es ++ event ∷ []) filled.2 ∙ sym own,
            untouched next out (get_or next event.request 0) (get_or next event.request 0 + 1) (start + length (with_request all request)) requests
                (subst (λ (r : ℕ). list_any (nat_eq r) requests ≡ false) (sym same) (apart_head request requests apart)) (omega arith) filled.3,
          )
      by false e rest =
          let other : event.request ≢ request = λ (h : event.request ≡ request). true≢false (sym (eq-eqb event.request request h) ∙ e) in
          let same : with_request (done ++ event ∷ []) request ≡ with_request done request = with_other done event request other in
          let long : length (set next event.request (get_or next event.request 0 + 1)) ≡ length next = length-set next event.request (get_or next event.request 0 + 1) in
          let w = filled.0 in
          let low = place_within next out (start + length (with_request all request)) requests (rw e at there) filled.3 in
          let later_place : start + length (with_request all request) ≤ get_or next event.request 0 = low.1 in
          let some = so_few request in
          let offset : get_or next event.request 0 ≡ start + (get_or next event.request 0 - start) = omega arith in
          let moved : drop start (set out (get_or next event.request 0) event) ≡ set (drop start out) (get_or next event.request 0 - start) event =
          ap (λ (n : ℕ). drop start (set out n event)) offset ∙ drop-set-add start out (get_or next event.request 0 - start) event in (
            omega arith,
            get_or-set_other next event.request request (get_or next event.request 0 + 1) 0 (λ (h : request ≡ event.request). other (sym h)) ∙ filled.1 ∙ ap (λ (es : List EventNumbers). start + length es) (sym same),
            ap (λ (es : List EventNumbers). take (length es) (drop start (set out (get_or next event.request 0) event))) same ∙ ap (take (length (with_request done request))) moved
                ∙ take-set-le (length (with_request done request)) (drop start out) (get_or next event.request 0 - start) event (omega arith) ∙ filled.2 ∙ sym same,
            rest (rw e at there),
          )

-- ---- all events

pub filled_cut : (size : ℕ → ℕ) (all : List EventNumbers) (next : List ℕ) (out : List EventNumbers) (start : ℕ) (requests : List ℕ) → All (λ r. size r ≡ length (with_request all r)) requests
    → AreFilled all all next out start requests → cut_at start (ends_from size start requests) out ≡ map (with_request all) requests
filled_cut size all next out start [] sizes filled = refl
filled_cut size all next out start (request ∷ requests) sizes filled =
    let own : size request ≡ length (with_request all request) = sizes 0 request (omega arith) in
    let count : start + size request - start ≡ length (with_request all request) = omega arith in
    let first : slice_range out start (start + size request) ≡ with_request all request = ap (λ (n : ℕ). take n (drop start out)) count ∙ filled.2 in
    let rest = filled_cut size all next out (start + size request) requests (λ k d lt. sizes (suc k) d (omega (arith, lt)))
    (subst (λ (n : ℕ). AreFilled all all next out (start + n) requests) (sym own) filled.3) in
    λ k. first k ∷ rest k

-- the groups of the ends are next to one another, and there are no more events
pub ends_stop : (size : ℕ → ℕ) (start count : ℕ) (requests : List ℕ) → start + sum_by size requests ≡ count → AreStops start (ends_from size start requests) count
ends_stop size start count [] sum = omega arith
ends_stop size start count (request ∷ requests) sum =
    let c = sum_by-cons size request requests in
    (omega arith, ends_stop size (start + size request) count requests (omega arith))

-- an event of another request leaves the groups as they are
passed : (done all : List EventNumbers) (event : EventNumbers) (next : List ℕ) (out : List EventNumbers) (start : ℕ) (requests : List ℕ) → list_any (nat_eq event.request) requests ≡ false → AreFilled done all next out start requests
    → AreFilled (done ++ event ∷ []) all next out start requests
passed done all event next out start [] none filled = filled
passed done all event next out start (request ∷ requests) none filled =
    by (nat_eq event.request request) refl (λ rest. passed done all event next out (start + length (with_request all request)) requests rest filled.3)
  where
    by : (b : Bool) → nat_eq event.request request ≡ b
        → (list_any (nat_eq event.request) requests ≡ false → AreFilled (done ++ event ∷ []) all next out (start + length (with_request all request)) requests)
        → AreFilled (done ++ event ∷ []) all next out start (request ∷ requests)
    by true e rest = absurd (cc (rw e at none))
    by false e rest =
        let other : event.request ≢ request = λ (h : event.request ≡ request). true≢false (sym (eq-eqb event.request request h) ∙ e) in
        let same : with_request (done ++ event ∷ []) request ≡ with_request done request = with_other done event request other in (
          filled.0,
          filled.1 ∙ ap (λ (es : List EventNumbers). start + length es) (sym same),
          ap (λ (es : List EventNumbers). take (length es) (drop start out)) same ∙ filled.2 ∙ sym same,
          rest (rw e at none),
        )

-- ---- what is known while events are placed

module _ (done all later : List EventNumbers) (event : EventNumbers) (requests next : List ℕ) (out : List EventNumbers) (all_is : all ≡ done ++ event ∷ later) (p : IsPlacing done all requests next out) where
  -- the event's request has a number
  pub request_below : event.request < length next
  request_below =
      let here : get_or all (length done) event ≡ event = ap (λ (es : List EventNumbers). get_or es (length done) event) all_is ∙ get_or_at done event later event (length done) refl in
      let long : length all ≡ length done + length (event ∷ later) = ap (λ (es : List EventNumbers). length es) all_is ∙ length-append done (event ∷ later) in
      subst (λ (e : EventNumbers). e.request < length next) here (p.below (length done) event (omega arith))

  -- it has a place where its request is one of these
  pub placed_here : (place : ℕ) → place ≡ get_or next event.request 0 → place ≢ no_place → list_any (nat_eq event.request) requests ≡ true
  placed_here place read some = by (list_any (nat_eq event.request) requests) refl
    where
      by : (b : Bool) → list_any (nat_eq event.request) requests ≡ b → b ≡ true
      by true e = refl
      by false e = absurd (some (read ∙ p.nowhere event.request request_below e))

  pub placed_elsewhere : (place : ℕ) → place ≡ get_or next event.request 0 → place ≡ no_place → list_any (nat_eq event.request) requests ≡ false
  placed_elsewhere place read none = by (list_any (nat_eq event.request) requests) refl
    where
      by : (b : Bool) → list_any (nat_eq event.request) requests ≡ b → b ≡ false
      by false e = refl
      by true e = let b = place_within done all later event all_is next out 0 requests e p.filled in let low = b.2 in let few = p.few in absurd (omega arith)

  pub place_below : list_any (nat_eq event.request) requests ≡ true → get_or next event.request 0 < length out
  place_below here = (place_within done all later event all_is next out 0 requests here p.filled).2

  pub placing_next : list_any (nat_eq event.request) requests ≡ true → IsPlacing (done ++ event ∷ []) all requests (set next event.request (get_or next event.request 0 + 1)) (set out (get_or next event.request 0) event)
  placing_next here =
      let long : length (set next event.request (get_or next event.request 0 + 1)) ≡ length next = length-set next event.request (get_or next event.request 0 + 1) in record {
        apart = p.apart;
        below = subst (λ (count : ℕ). HaveRequestsBelow count all) (sym long) p.below;
        nowhere = λ request below none. elsewhere request (omega (arith, below)) none (nat_eq request event.request) refl;
        filled = place_next done all later event all_is next out 0 requests p.apart here p.filled;
        few = let l : length (set out (get_or next event.request 0) event) ≡ length out = length-set out (get_or next event.request 0) event in let f = p.few in omega arith;
      }
    where
      elsewhere : (request : ℕ) → request < length next → list_any (nat_eq request) requests ≡ false → (b : Bool) → nat_eq request event.request ≡ b → get_or (set next event.request (get_or next event.request 0 + 1)) request 0 ≡ no_place
      elsewhere request below none true e = let same : request ≡ event.request = nat_means request event.request e in absurd (true≢false (sym here ∙ ap (λ (r : ℕ). list_any (nat_eq r) requests) (sym same) ∙ none))
      elsewhere request below none false e =
          get_or-set_other next event.request request (get_or next event.request 0 + 1) 0 (λ (h : request ≡ event.request). true≢false (sym (eq-eqb request event.request h) ∙ e)) ∙ p.nowhere request below none

  pub placing_past : list_any (nat_eq event.request) requests ≡ false → IsPlacing (done ++ event ∷ []) all requests next out
  placing_past none = record {
    apart = p.apart;
    below = p.below;
    nowhere = p.nowhere;
    filled = passed done all event next out 0 requests none p.filled;
    few = p.few;
  }
