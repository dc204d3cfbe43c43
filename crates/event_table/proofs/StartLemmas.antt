-- The starts and ends of requests, one request more.
use Rattle.std.proofs.Common.{◌≡◌, ℕ, ◌+◌, ◌<◌, List, [], ◌∷◌, ◌++◌, length, get_or, set, take, Bool, true, false, ◌||◌, nat_eq, refl, sym, ap, ◌∙◌, subst, All, true≢false, arith}
use Rattle.std.specs.Prelude.{sum_by}
use Rattle.std.specs.List.{list_any}
use Rattle.std.proofs.lemmas.Bool.{eq-eqb, ne_eqb}
use Rattle.std.proofs.lemmas.List.{get_or-set_same, get_or-set_other, get_or-take, length-set, length-take, get_or_default, take_more}
use Rattle.std.proofs.lemmas.List.Folds.{list_any_none, list_any_more}
use Rattle.std.proofs.lemmas.List.Sums.{sum_by-cons, sum_by_more}
use Rattle.event_table.specs.inner.Placing.{AreNowhere, AreStarts, ends_from, no_place}
use Rattle.event_table.specs.Texts.{AreDifferent}

module _ (size : ℕ → ℕ) where
  ends_push : (start : ℕ) (requests : List ℕ) (request : ℕ) → ends_from size start (requests ++ request ∷ []) ≡ ends_from size start requests ++ (start + sum_by size requests + size request) ∷ []
  ends_push start [] request = let e : start + size request ≡ start + 0 + size request = omega arith in ap (λ (n : ℕ). n ∷ []) e
  ends_push start (first ∷ requests) request =
      let c = sum_by-cons size first requests in
      let e : start + size first + sum_by size requests + size request ≡ start + sum_by size (first ∷ requests) + size request = omega arith in
      ap (λ (ns : List ℕ). (start + size first) ∷ ns) (ends_push (start + size first) requests request ∙ ap (λ (n : ℕ). ends_from size (start + size first) requests ++ n ∷ []) e)

  starts_push : (starts : List ℕ) (start : ℕ) (requests : List ℕ) (request : ℕ) → AreStarts size starts start requests → request < length starts → get_or starts request 0 ≡ start + sum_by size requests
      → AreStarts size starts start (requests ++ request ∷ [])
  starts_push starts start [] request so_far within here = (within, (let e : start + 0 ≡ start = omega arith in here ∙ e), tt)
  starts_push starts start (first ∷ requests) request so_far within here =
      let c = sum_by-cons size first requests in
      let e : start + sum_by size (first ∷ requests) ≡ start + size first + sum_by size requests = omega arith in
      (so_far.0, so_far.1, starts_push starts (start + size first) requests request so_far.2 within (here ∙ e))

  -- a write at another request leaves them
  starts_set : (starts : List ℕ) (start : ℕ) (requests : List ℕ) (request value : ℕ) → list_any (nat_eq request) requests ≡ false → AreStarts size starts start requests → AreStarts size (set starts request value) start requests
  starts_set starts start [] request value none so_far = tt
  starts_set starts start (first ∷ requests) request value none so_far =
      by (nat_eq request first) refl (λ others. starts_set starts (start + size first) requests request value others so_far.2)
    where
      by : (b : Bool) → nat_eq request first ≡ b → (list_any (nat_eq request) requests ≡ false → AreStarts size (set starts request value) (start + size first) requests)
          → AreStarts size (set starts request value) start (first ∷ requests)
      by true e rest = absurd (cc (rw e at none))
      by false e rest =
          let l : length (set starts request value) ≡ length starts = length-set starts request value in
          let w = so_far.0 in (
            omega arith,
            get_or-set_other starts request first value 0 (λ (h : first ≡ request). true≢false (sym (eq-eqb request first (sym h)) ∙ e)) ∙ so_far.1,
            rest (rw e at none),
          )

-- none of the requests so far is the next one
pub none_before : (requests : List ℕ) (i : ℕ) → AreDifferent requests → i < length requests → list_any (nat_eq (get_or requests i 0)) (take i requests) ≡ false
none_before requests i apart lt = list_any_none (nat_eq (get_or requests i 0)) (take i requests) (λ k d l.
    let long = length-take i requests in
    let before : k < i = omega (arith, l, long) in
    let same : get_or (take i requests) k d ≡ get_or requests k 0 = get_or-take i requests k d before ∙ get_or_default requests k d 0 (omega (arith, before)) in
    ne_eqb (get_or requests i 0) (get_or (take i requests) k d) (λ (h : get_or requests i 0 ≡ get_or (take i requests) k d). apart k i 0 before lt (sym (h ∙ same))))

-- one request more
module _ (counts next : List ℕ) (requests : List ℕ) (i : ℕ) (apart : AreDifferent requests) (within : All (λ r. r < length counts) requests) (lt : i < length requests) (long : length next ≡ length counts) where
  pub sum_next : (end count : ℕ) → end ≡ sum_by (λ r. get_or counts r 0) (take i requests) → count ≡ get_or counts (get_or requests i 0) 0 → end + count ≡ sum_by (λ r. get_or counts r 0) (take (i + 1) requests)
  sum_next end count at read = let s = sum_by_more (λ r. get_or counts r 0) requests i 0 lt in omega arith

  pub ends_next : (end count : ℕ) (ends more : List ℕ) → end ≡ sum_by (λ r. get_or counts r 0) (take i requests) → count ≡ get_or counts (get_or requests i 0) 0 → ends ≡ ends_from (λ r. get_or counts r 0) 0 (take i requests)
      → more ≡ ends ++ (end + count) ∷ [] → more ≡ ends_from (λ r. get_or counts r 0) 0 (take (i + 1) requests)
  ends_next end count ends more at read so_far push =
      let e : end + count ≡ 0 + sum_by (λ r. get_or counts r 0) (take i requests) + get_or counts (get_or requests i 0) 0 = omega arith in
      push ∙ (λ k. so_far k ++ e k ∷ []) ∙ sym (ends_push (λ r. get_or counts r 0) 0 (take i requests) (get_or requests i 0)) ∙ ap (ends_from (λ r. get_or counts r 0) 0) (sym (take_more requests i 0 lt))

  pub starts_next : (end : ℕ) → end ≡ sum_by (λ r. get_or counts r 0) (take i requests) → AreStarts (λ r. get_or counts r 0) next 0 (take i requests)
      → AreStarts (λ r. get_or counts r 0) (set next (get_or requests i 0) end) 0 (take (i + 1) requests)
  starts_next end at so_far =
      let w = within i 0 lt in
      let l : length (set next (get_or requests i 0) end) ≡ length next = length-set next (get_or requests i 0) end in
      let e : end ≡ 0 + sum_by (λ r. get_or counts r 0) (take i requests) = omega arith in
      subst (AreStarts (λ r. get_or counts r 0) (set next (get_or requests i 0) end) 0) (sym (take_more requests i 0 lt))
      (starts_push (λ r. get_or counts r 0) (set next (get_or requests i 0) end) 0 (take i requests) (get_or requests i 0)
      (starts_set (λ r. get_or counts r 0) next 0 (take i requests) (get_or requests i 0) end (none_before requests i apart lt) so_far) (omega arith)
      (get_or-set_same next (get_or requests i 0) end 0 (omega arith) ∙ e))

  pub nowhere_next : (end : ℕ) → AreNowhere (take i requests) next → AreNowhere (take (i + 1) requests) (set next (get_or requests i 0) end)
  nowhere_next end so_far request below none = by (list_any (nat_eq request) (take i requests)) (nat_eq request (get_or requests i 0)) refl refl
    where
      both : (list_any (nat_eq request) (take i requests) || nat_eq request (get_or requests i 0)) ≡ false
      both = sym (list_any_more (nat_eq request) requests i 0 lt) ∙ none

      by : (b d : Bool) → list_any (nat_eq request) (take i requests) ≡ b → nat_eq request (get_or requests i 0) ≡ d → get_or (set next (get_or requests i 0) end) request 0 ≡ no_place
      by true d e f = absurd (cc (rw e at both))
      by false true e f = absurd (cc (rw (e, f) at both))
      by false false e f =
          let l : length (set next (get_or requests i 0) end) ≡ length next = length-set next (get_or requests i 0) end in
          get_or-set_other next (get_or requests i 0) request end 0 (λ (h : request ≡ get_or requests i 0). true≢false (sym (eq-eqb request (get_or requests i 0) h) ∙ f)) ∙ so_far request (omega (arith, below)) e
