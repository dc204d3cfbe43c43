-- The groups of all events, once they are counted.
use Rattle.std.proofs.Common.{◌≡◌, ℕ, zero, suc, ◌<◌, ◌≤◌, ◌==◌, List, [], ◌∷◌, ◌++◌, length, get_or, take, drop, true, not, nat_eq, refl, sym, ap, ◌∙◌, subst, All, append-nil, arith}
use Rattle.std.specs.Prelude.{sum_by}
use Rattle.std.specs.List.{list_any}
use Rattle.std.proofs.lemmas.List.{drop_all, take_all}
use Rattle.std.proofs.lemmas.List.Elements.{All-map, All-weaker}
use Rattle.std.proofs.lemmas.List.Folds.{list_any_at}
use Rattle.std.proofs.lemmas.List.Sums.{sum_by-cons}
use Rattle.trace_types.proofs.ComparingLemmas.{nat_own}
use Rattle.event_table.specs.declared.event_numbers.EventNumbers.{EventNumbers}
use Rattle.event_table.specs.inner.Cuts.{AreStops, cut_at}
use Rattle.event_table.specs.inner.Placing.{AreCounted, AreNowhere, AreSome, AreStarts, HaveRequestsBelow, IsPlacing, ends_from, groups_of, no_place, request_numbers, with_request}
use Rattle.event_table.specs.Texts.{AreDifferent}
use Rattle.event_table.proofs.CountLemmas.{any-count, few_events, keys}
use Rattle.event_table.proofs.FillLemmas.{ends_stop, filled_cut, starts_filled}
use Rattle.event_table.proofs.FirstLemmas.{any-firsts, firsts_all, firsts_apart}

-- what a vector has after its slice was written
pub written_back : {X : Type 0} (count : ℕ) (items new : List X) → length new ≡ length items → length items ≤ count → take count (new ++ drop (length new) items) ≡ new
written_back count items new same past =
    ap (λ (xs : List _). take count (new ++ xs)) (drop_all (length new) items (omega arith)) ∙ ap (take count) (append-nil new) ∙ take_all count new (omega arith)

same_sums : (f g : ℕ → ℕ) (xs : List ℕ) → All (λ x. f x ≡ g x) xs → sum_by f xs ≡ sum_by g xs
same_sums f g [] same = refl
same_sums f g (x ∷ xs) same =
    let first : f x ≡ g x = same 0 x (omega arith) in
    let rest = same_sums f g xs (λ k d lt. same (suc k) d (omega (arith, lt))) in
    let a = sum_by-cons f x xs in
    let b = sum_by-cons g x xs in
    omega arith

-- each request has an event
pub requests_there : (all : List EventNumbers) → All (λ r. 0 < length (with_request all r)) (request_numbers all)
requests_there all k d lt =
    let found : list_any (nat_eq (get_or (request_numbers all) k d)) (request_numbers all) ≡ true = list_any_at (nat_eq (get_or (request_numbers all) k d)) (request_numbers all) k d lt (nat_own (get_or (request_numbers all) k d)) in
    let some : not (length (with_request all (get_or (request_numbers all) k d)) == 0) ≡ true = sym (any-count (get_or (request_numbers all) k d) all) ∙ sym (any-firsts (get_or (request_numbers all) k d) (keys all)) ∙ found in
    positive (length (with_request all (get_or (request_numbers all) k d))) some
  where
    positive : (n : ℕ) → not (n == 0) ≡ true → 0 < n
    positive zero h = absurd (cc h)
    positive (suc n) h = omega arith

-- what is known of some requests of the events
module _ (all : List EventNumbers) (counts requests : List ℕ) (some : AreSome all counts requests) where
  pub sizes : All (λ r. get_or counts r 0 ≡ length (with_request all r)) requests
  sizes = All-weaker (λ r. r < length counts) (λ r. get_or counts r 0 ≡ length (with_request all r)) some.each requests some.within

  pub sizes_few : sum_by (λ r. get_or counts r 0) requests ≤ no_place
  sizes_few =
      let e = same_sums (λ r. get_or counts r 0) (λ r. length (with_request all r)) requests sizes in
      let f = few_events all requests some.apart in
      let few = some.few in
      omega arith

  pub placing_first : (starts : List ℕ) (out : List EventNumbers) → AreStarts (λ r. get_or counts r 0) starts 0 requests → AreNowhere requests starts → length starts ≡ length counts
      → length out ≡ sum_by (λ r. get_or counts r 0) requests → IsPlacing [] all requests starts out
  placing_first starts out at nowhere same long = record {
    apart = some.apart;
    below = subst (λ (count : ℕ). HaveRequestsBelow count all) (sym same) some.below;
    nowhere = nowhere;
    filled = starts_filled (λ r. get_or counts r 0) all starts out 0 requests at sizes (omega arith);
    few = let f = sizes_few in omega arith;
  }

  -- so it is with vectors, whose slices were written
  pub placing_slices : (items lent starts back : List ℕ) (len count : ℕ) (events out : List EventNumbers) → lent ≡ items → length starts ≡ length lent → back ≡ take len (starts ++ drop (length starts) items) → length items ≤ len
      → length items ≡ length counts → AreStarts (λ r. get_or counts r 0) starts 0 requests → AreNowhere requests starts → out ≡ events → length events ≡ count → count ≡ sum_by (λ r. get_or counts r 0) requests → IsPlacing [] all requests back out
  placing_slices items lent starts back len count events out is_lent kept is_back fits places at nowhere is_out room sum =
      let long : length lent ≡ length items = ap (λ (xs : List ℕ). length xs) is_lent in
      let same : length out ≡ length events = ap (λ (es : List EventNumbers). length es) is_out in
      let again : back ≡ starts = is_back ∙ written_back len items starts (omega arith) fits in
      subst (λ (ns : List ℕ). IsPlacing [] all requests ns out) (sym again) (placing_first starts out at nowhere (omega arith) (omega arith))

  pub placed_groups : (next ends : List ℕ) (out : List EventNumbers) → IsPlacing all all requests next out → ends ≡ ends_from (λ r. get_or counts r 0) 0 requests → cut_at 0 ends out ≡ groups_of all requests
  placed_groups next ends out p e = ap (λ (ns : List ℕ). cut_at 0 ns out) e ∙ filled_cut (λ r. get_or counts r 0) all next out 0 requests sizes p.filled

  pub placed_stops : (ends : List ℕ) (out : List EventNumbers) → ends ≡ ends_from (λ r. get_or counts r 0) 0 requests → length out ≡ sum_by (λ r. get_or counts r 0) requests → AreStops 0 ends (length out)
  placed_stops ends out e long = subst (λ (ns : List ℕ). AreStops 0 ns (length out)) (sym e) (ends_stop (λ r. get_or counts r 0) 0 (length out) requests (omega arith))

-- all requests of events that are counted
pub all_requests : (all : List EventNumbers) (requests counts : List ℕ) → AreCounted all requests counts → HaveRequestsBelow (length counts) all → length all ≤ no_place → AreSome all counts requests
all_requests all requests counts counted below few = record {
  below = below;
  few = few;
  each = counted.each;
  apart = subst AreDifferent (sym counted.order) (firsts_apart (keys all));
  within = subst (All (λ r. r < length counts)) (sym counted.order) (firsts_all (λ r. r < length counts) (keys all) (All-map (λ r. r < length counts) (λ (e : EventNumbers). e.request) all below));
}
