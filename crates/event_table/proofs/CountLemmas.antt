-- Events counted by their requests.
use Rattle.std.proofs.Common.{◌≡◌, ◌≢◌, ℕ, suc, ◌+◌, ◌<◌, ◌≤◌, ◌==◌, List, [], ◌∷◌, ◌++◌, length, get_or, set, map, Bool, true, false, not, nat_eq, if◌then◌else◌, refl, sym, ap, ap₂, ◌∙◌, subst, append-nil, replicate, arith}
use Rattle.std.specs.Prelude.{sum_by}
use Rattle.std.specs.List.{list_any}
use Rattle.std.proofs.lemmas.Bool.{eq-eqb, ne_eqb}
use Rattle.std.proofs.lemmas.List.{map-append, get_or-set_same, get_or-set_other, get_or-replicate, length-set, length-replicate, length_push}
use Rattle.std.proofs.lemmas.List.Elements.{filter-append}
use Rattle.std.proofs.lemmas.List.Sums.{count_by-le-length, length-filter, sum_by-cons}
use Rattle.trace_types.specs.Firsts.{firsts_of}
use Rattle.trace_types.proofs.ComparingLemmas.{nat_means}
use Rattle.event_table.specs.declared.event_numbers.EventNumbers.{EventNumbers}
use Rattle.event_table.specs.inner.Placing.{AreCounted, request_numbers, with_request}
use Rattle.event_table.specs.Texts.{AreDifferent}
use Rattle.event_table.proofs.FirstLemmas.{any-firsts, apart_head, apart_tail, firsts-push, flips}

abbrev pub keys : List EventNumbers → List ℕ
keys events = map (λ (e : EventNumbers). e.request) events

-- ---- the events of a request, with one more at the end

pub with_own : (events : List EventNumbers) (event : EventNumbers) (request : ℕ) → event.request ≡ request → with_request (events ++ event ∷ []) request ≡ with_request events request ++ event ∷ []
with_own events event request same =
    let e : (event.request == request) ≡ true = eq-eqb event.request request same in
    filter-append (λ (x : EventNumbers). x.request == request) events (event ∷ []) ∙ ap (λ (b : Bool). with_request events request ++ (if b then event ∷ [] else [])) e

pub with_other : (events : List EventNumbers) (event : EventNumbers) (request : ℕ) → event.request ≢ request → with_request (events ++ event ∷ []) request ≡ with_request events request
with_other events event request other =
    let e : (event.request == request) ≡ false = ne_eqb event.request request other in
    filter-append (λ (x : EventNumbers). x.request == request) events (event ∷ []) ∙ ap (λ (b : Bool). with_request events request ++ (if b then event ∷ [] else [])) e ∙ append-nil (with_request events request)

-- a request is there where it has events
pub any-count : (request : ℕ) (events : List EventNumbers) → list_any (nat_eq request) (keys events) ≡ not (length (with_request events request) == 0)
any-count request [] = refl
any-count request (event ∷ events) = by (nat_eq event.request request) refl (any-count request events)
  where
    by : (b : Bool) → nat_eq event.request request ≡ b → list_any (nat_eq request) (keys events) ≡ not (length (with_request events request) == 0)
        → list_any (nat_eq request) (keys (event ∷ events)) ≡ not (length (with_request (event ∷ events) request) == 0)
    by true e rest =
        let f = flips event.request request true e in
        rw (e, f) (ap not (sym (ne_eqb (suc (length (with_request events request))) 0 (λ h. absurd (omega (arith, h))))))
    by false e rest = let f = flips event.request request false e in rw (e, f) rest

-- ---- counting

pub counted_none : (count : ℕ) (requests counts : List ℕ) → requests ≡ [] → counts ≡ replicate count 0 → AreCounted [] requests counts
counted_none count requests counts none zeros = record {
  order = none;
  each = λ request lt.
      let long : length counts ≡ count = ap (λ (xs : List ℕ). length xs) zeros ∙ length-replicate count 0 in
      ap (λ (xs : List ℕ). get_or xs request 0) zeros ∙ get_or-replicate count request 0 0 (omega (arith, lt));
}

-- one event more
pub counted_more : (done : List EventNumbers) (event : EventNumbers) (request : ℕ) (requests counts more new : List ℕ) → AreCounted done requests counts → event.request ≡ request → request < length counts
    → new ≡ set counts request (get_or counts request 0 + 1) → more ≡ (if get_or counts request 0 == 0 then requests ++ request ∷ [] else requests) → AreCounted (done ++ event ∷ []) more new
counted_more done event request requests counts more new so_far same within written pushed = record {
  order =
      let count : get_or counts request 0 ≡ length (with_request done request) = so_far.each request within in
      let all : keys (done ++ event ∷ []) ≡ keys done ++ request ∷ [] = map-append (λ (e : EventNumbers). e.request) done (event ∷ []) ∙ ap (λ (n : ℕ). keys done ++ n ∷ []) same in
      let there : list_any (nat_eq request) (request_numbers done) ≡ not (get_or counts request 0 == 0) = any-firsts request (keys done) ∙ any-count request done ∙ ap (λ (n : ℕ). not (n == 0)) (sym count) in
      pushed ∙ choose (get_or counts request 0 == 0) requests ∙ ap₂ (λ (b : Bool) (rs : List ℕ). if b then rs else rs ++ request ∷ []) (sym there) so_far.order
      ∙ sym (firsts-push (keys done) request) ∙ ap (firsts_of nat_eq) (sym all);
  each = λ other lt.
      let long : length new ≡ length counts = ap (λ (xs : List ℕ). length xs) written ∙ length-set counts request (get_or counts request 0 + 1) in
      by other (omega (arith, lt)) (nat_eq request other) refl;
}
  where
    choose : (b : Bool) (rs : List ℕ) → (if b then rs ++ request ∷ [] else rs) ≡ (if not b then rs else rs ++ request ∷ [])
    choose true rs = refl
    choose false rs = refl

    by : (other : ℕ) → other < length counts → (b : Bool) → nat_eq request other ≡ b → get_or new other 0 ≡ length (with_request (done ++ event ∷ []) other)
    by other lt true e =
        let here : request ≡ other = nat_means request other e in
        let old : get_or counts request 0 ≡ length (with_request done request) = so_far.each request within in
        let grown : length (with_request (done ++ event ∷ []) request) ≡ length (with_request done request) + 1 = ap (λ (es : List EventNumbers). length es) (with_own done event request same) ∙ length_push (with_request done request) event in
        let now : get_or new request 0 ≡ get_or counts request 0 + 1 = ap (λ (xs : List ℕ). get_or xs request 0) written ∙ get_or-set_same counts request (get_or counts request 0 + 1) 0 within in
        let told : get_or new request 0 ≡ length (with_request (done ++ event ∷ []) request) = omega arith in
        subst (λ (n : ℕ). get_or new n 0 ≡ length (with_request (done ++ event ∷ []) n)) here told
    by other lt false e =
        let apart : other ≢ request = λ (h : other ≡ request). absurd (let f : nat_eq request other ≡ true = eq-eqb request other (sym h) in cc (e, f)) in
        ap (λ (xs : List ℕ). get_or xs other 0) written ∙ get_or-set_other counts request other (get_or counts request 0 + 1) 0 apart ∙ so_far.each other lt
        ∙ sym (ap (λ (es : List EventNumbers). length es) (with_other done event other (λ (h : event.request ≡ other). apart (sym h ∙ same))))

-- ---- requests apart have no more events than there are

bit : ℕ → ℕ → ℕ
bit key request = if nat_eq key request then 1 else 0

bits_none : (key : ℕ) (requests : List ℕ) → list_any (nat_eq key) requests ≡ false → sum_by (bit key) requests ≡ 0
unfolding bit
bits_none key [] none = refl
bits_none key (request ∷ requests) none = by (nat_eq key request) refl (bits_none key requests)
  where
    by : (b : Bool) → nat_eq key request ≡ b → (list_any (nat_eq key) requests ≡ false → sum_by (bit key) requests ≡ 0) → sum_by (bit key) (request ∷ requests) ≡ 0
    by true e rest = absurd (cc (rw e at none))
    by false e rest =
        let zero_bit : bit key request ≡ 0 = rw e refl in
        let others = rest (rw e at none) in
        omega (arith, sum_by-cons (bit key) request requests)

bits_apart : (key : ℕ) (requests : List ℕ) → AreDifferent requests → sum_by (bit key) requests ≤ 1
unfolding bit
bits_apart key [] apart = omega arith
bits_apart key (request ∷ requests) apart = by (nat_eq key request) refl (bits_apart key requests (apart_tail request requests apart))
  where
    by : (b : Bool) → nat_eq key request ≡ b → sum_by (bit key) requests ≤ 1 → sum_by (bit key) (request ∷ requests) ≤ 1
    by true e rest =
        let one : bit key request ≡ 1 = rw e refl in
        let none = bits_none key requests (subst (λ (n : ℕ). list_any (nat_eq n) requests ≡ false) (sym (nat_means key request e)) (apart_head request requests apart)) in
        omega (arith, sum_by-cons (bit key) request requests)
    by false e rest = let zero_bit : bit key request ≡ 0 = rw e refl in omega (arith, sum_by-cons (bit key) request requests)

one_more_each : (event : EventNumbers) (events : List EventNumbers) (requests : List ℕ)
    → sum_by (λ r. length (with_request (event ∷ events) r)) requests ≡ sum_by (bit event.request) requests + sum_by (λ r. length (with_request events r)) requests
unfolding bit
one_more_each event events [] = refl
one_more_each event events (request ∷ requests) = by (nat_eq event.request request) refl (one_more_each event events requests)
  where
    by : (b : Bool) → nat_eq event.request request ≡ b
        → sum_by (λ r. length (with_request (event ∷ events) r)) requests ≡ sum_by (bit event.request) requests + sum_by (λ r. length (with_request events r)) requests
        → sum_by (λ r. length (with_request (event ∷ events) r)) (request ∷ requests) ≡ sum_by (bit event.request) (request ∷ requests) + sum_by (λ r. length (with_request events r)) (request ∷ requests)
    by true e rest =
        let one : bit event.request request ≡ 1 = rw e refl in
        let long : length (with_request (event ∷ events) request) ≡ suc (length (with_request events request)) = rw e refl in
        omega (arith, rest, sum_by-cons (λ r. length (with_request (event ∷ events) r)) request requests, sum_by-cons (bit event.request) request requests, sum_by-cons (λ r. length (with_request events r)) request requests)
    by false e rest =
        let none : bit event.request request ≡ 0 = rw e refl in
        let long : length (with_request (event ∷ events) request) ≡ length (with_request events request) = rw e refl in
        omega (arith, rest, sum_by-cons (λ r. length (with_request (event ∷ events) r)) request requests, sum_by-cons (bit event.request) request requests, sum_by-cons (λ r. length (with_request events r)) request requests)

sum_zero : (requests : List ℕ) → sum_by (λ r. length (with_request [] r)) requests ≡ 0
sum_zero [] = refl
sum_zero (request ∷ requests) = let first = sum_by-cons (λ r. length (with_request [] r)) request requests in let rest = sum_zero requests in omega arith

pub few_events : (events : List EventNumbers) (requests : List ℕ) → AreDifferent requests → sum_by (λ r. length (with_request events r)) requests ≤ length events
few_events [] requests apart = let none = sum_zero requests in omega arith
few_events (event ∷ events) requests apart =
    let first = bits_apart event.request requests apart in
    let rest = few_events events requests apart in
    let both = one_more_each event events requests in
    omega arith

-- a request has no more events than there are
pub few_with : (events : List EventNumbers) (request : ℕ) → length (with_request events request) ≤ length events
few_with events request = let e = length-filter (λ (x : EventNumbers). x.request == request) events in let l = count_by-le-length (λ (x : EventNumbers). x.request == request) events in omega arith
