-- Whether two tasks start on elements in one order, one index after another.
use Rattle.std.proofs.Common.{◌≡◌, ℕ, ◌+◌, ◌<◌, ◌≤◌, arith, refl, subst, ⊎_elim, ◌⊎◌, inl, inr}
use Rattle.std.proofs.lemmas.Bool.{cases_lt}
use Rattle.trace_types.specs.Parts.{by_number}
use Rattle.trace_types.specs.Pipelines.{TakesOutOfOrder}
use Rattle.trace_types.specs.declared.named_trace.NamedTrace.{NamedTrace}
use Rattle.counterexamples.specs.inner.Ends.{IsStart, TakesAt}
use Rattle.counterexamples.proofs.ElementLemmas.{one_element, one_start}

-- so far the two tasks start on elements in one order, and the last start of the second is at most
-- at this index; it is 0, or one of them
pub record AreInOrder (trace : NamedTrace) (from to n greatest : ℕ) : Type 0 where
  pub in_order : (i j x y : ℕ) → i < j → j < n → TakesAt trace from to i x → TakesAt trace from to j y → x ≤ y
  pub most : (i x : ℕ) → i < n → TakesAt trace from to i x → x ≤ greatest
  pub one : (greatest ≡ 0) ⊎ ((i : ℕ) × (i < n) × TakesAt trace from to i greatest)

pub none_yet : (trace : NamedTrace) (from to : ℕ) → AreInOrder trace from to 0 0
none_yet trace from to = record {
  in_order = λ i j x y less within. absurd (omega arith);
  most = λ i x within. absurd (omega arith);
  one = inl refl;
}

-- with the segment at an index the first task starts on one element, so the second on it at one
one_taken : (trace : NamedTrace) (from to i x y : ℕ) → TakesAt trace from to i x → TakesAt trace from to i y → x ≡ y
one_taken trace from to i x y a b =
    let same = one_element trace i from from a.element b.element a.given.0 b.given.0 a.given.1.handles b.given.1.handles in
    one_start trace to b.element x y (subst (λ (e : ℕ). IsStart trace to e x) same a.taken) b.taken

-- no start at the next index
pub order_kept : (trace : NamedTrace) (from to n greatest : ℕ) → ((x : ℕ) → TakesAt trace from to n x → ⊥) → AreInOrder trace from to n greatest → AreInOrder trace from to (n + 1) greatest
order_kept trace from to n greatest none so_far = record {
  in_order = λ i j x y less within a b. ⊎_elim
      (λ (earlier : j < n). so_far.in_order i j x y less earlier a b)
      (λ (here : n ≤ j). let same : j ≡ n = omega arith in absurd (none y (subst (λ (k : ℕ). TakesAt trace from to k y) same b)))
      (cases_lt j n);
  most = λ i x within a. ⊎_elim
      (λ (earlier : i < n). so_far.most i x earlier a)
      (λ (here : n ≤ i). let same : i ≡ n = omega arith in absurd (none x (subst (λ (k : ℕ). TakesAt trace from to k x) same a)))
      (cases_lt i n);
  one = ⊎_elim (λ (zero_yet : greatest ≡ 0). inl zero_yet) (λ (i, within, a). inr (i, omega arith, a)) so_far.one;
}

-- a start at the next index, not before the last one
pub order_more : (trace : NamedTrace) (from to n greatest taken : ℕ) → TakesAt trace from to n taken → greatest ≤ taken → AreInOrder trace from to n greatest → AreInOrder trace from to (n + 1) taken
order_more trace from to n greatest taken at least so_far = record {
  in_order = λ i j x y less within a b. ⊎_elim
      (λ (earlier : j < n). so_far.in_order i j x y less earlier a b)
      (λ (here : n ≤ j).
      let same : j ≡ n = omega arith in
      let e : y ≡ taken = one_taken trace from to n y taken (subst (λ (k : ℕ). TakesAt trace from to k y) same b) at in
      let m = so_far.most i x (omega arith) a in
      omega arith)
      (cases_lt j n);
  most = λ i x within a. ⊎_elim
      (λ (earlier : i < n). let m = so_far.most i x earlier a in omega arith)
      (λ (here : n ≤ i).
      let same : i ≡ n = omega arith in
      let e : x ≡ taken = one_taken trace from to n x taken (subst (λ (k : ℕ). TakesAt trace from to k x) same a) at in
      omega arith)
      (cases_lt i n);
  one = inr (n, omega arith, at);
}

-- a start before the last one shows that the orders differ
pub out_of_order : (trace : NamedTrace) (from to n greatest taken : ℕ) → TakesAt trace from to n taken → taken < greatest → AreInOrder trace from to n greatest → TakesOutOfOrder by_number from to trace
out_of_order trace from to n greatest taken at less so_far = ⊎_elim
    (λ (zero_yet : greatest ≡ 0). absurd (omega arith))
    (λ (i, within, a). record {
      one = a.element;
      other = at.element;
      in_order = record { earlier = i; later = n; s = a.given.0; r = at.given.0; first = a.given.1; second = at.given.1; order = within };
      turned = record { earlier = taken; later = greatest; s = at.taken.0; r = a.taken.0; first = at.taken.1; second = a.taken.1; order = less };
    })
    so_far.one

-- where all starts are in one order, they are not out of order
pub not_out_of_order : (trace : NamedTrace) (from to n greatest : ℕ) → AreInOrder trace from to n greatest → ((k t e : ℕ) → IsStart trace t e k → k < n) → TakesOutOfOrder by_number from to trace → ⊥
not_out_of_order trace from to n greatest so_far within h =
    let a : TakesAt trace from to h.in_order.earlier h.turned.later = record { element = h.one; given = (h.in_order.s, h.in_order.first); taken = (h.turned.r, h.turned.second) } in
    let b : TakesAt trace from to h.in_order.later h.turned.earlier = record { element = h.other; given = (h.in_order.r, h.in_order.second); taken = (h.turned.s, h.turned.first) } in
    let least = so_far.in_order h.in_order.earlier h.in_order.later h.turned.later h.turned.earlier h.in_order.order (within h.in_order.later from h.other (h.in_order.r, h.in_order.second)) a b in
    let turned = h.turned.order in
    omega arith
