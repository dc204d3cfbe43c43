-- Whether a kept trace refutes a relation is decided.
use Rattle.std.proofs.Common.{◌≡◌, ◌⊎◌, ℕ, zero, suc, ◌<◌, ◌≤◌, Bool, true, false, Option, Some, None, List, [], ◌∷◌, refl, sym, ap, ◌∙◌, subst, inl, inr, ⊎_elim, arith, Ordering}
use Rattle.std.specs.Prelude.{ℤ, pos, ◌+ℤ◌, ◌<ℤ◌}
use Rattle.std.specs.Bool.{Decides}
use Rattle.std.specs.declared.cmp.Ordering.TheVariants.{Less, Equal, Greater}
use Rattle.std.specs.List.{Contains, slice_get}
use Rattle.std.specs.Str.{bytes_eq}
use Rattle.std.proofs.lemmas.Bool.{cases_lt, false≢true}
use Rattle.std.proofs.lemmas.Int.{by_lt_z, ints}
use Rattle.std.proofs.lemmas.Option.{none-some, same_Some}
use Rattle.std.proofs.lemmas.Slice.Eq.{bytes_eq-Decides}
use Rattle.certificates.specs.declared.matter.Matter.{Matter}
use Rattle.certificates.specs.declared.matter.Matter.TheVariants.{Before, Exclusive, Pipe}
use Rattle.session_rules.specs.KeptTraces.{Kept, by_kept}
use Rattle.session_rules.specs.Refutations.{RefutesMatter}
use Rattle.trace_types.specs.Pipelines.{EndsAt, HandlesAt, StartsAt, StartsInOrder, TakesOutOfOrder, TakesUnfinished}
use Rattle.trace_types.specs.Refuting.{HasBoth, StartsEarly}
use Rattle.trace_types.specs.Segments.{SegmentName, name_of, task_of}
use Rattle.trace_types.specs.declared.segment.Segment.{Segment}
use Rattle.trace_types.proofs.ElementLemmas.{one_item, Contains-from_get}
use Rattle.trace_types.proofs.ListingLemmas.{Contains-nil, Contains-cons, Contains-here, cons_cases}

-- a fact is decided: it holds, or it does not
abbrev pub IsDecided : Type 0 → Type 0
IsDecided P = P ⊎ (P → ⊥)

pub decided_like : {P Q : Type 0} → (P → Q) → (Q → P) → IsDecided P → IsDecided Q
decided_like {P} to from d = ⊎_elim (λ (p : P). inl (to p)) (λ (n : P → ⊥). inr (λ q. n (from q))) d

pub decided_and : {P Q : Type 0} → IsDecided P → IsDecided Q → IsDecided (P × Q)
decided_and {P} {Q} d e = ⊎_elim (λ (p : P). ⊎_elim (λ (q : Q). inl (p, q)) (λ (n : Q → ⊥). inr (λ b. n b.1)) e) (λ (n : P → ⊥). inr (λ b. n b.0)) d

pub decided_or : {P Q : Type 0} → IsDecided P → IsDecided Q → IsDecided (P ⊎ Q)
decided_or {P} {Q} d e = ⊎_elim (λ (p : P). inl (inl p)) (λ (n : P → ⊥). ⊎_elim (λ (q : Q). inl (inr q)) (λ (m : Q → ⊥). inr (λ s. ⊎_elim n m s)) e) d

pub decided_not : {P : Type 0} → IsDecided P → IsDecided (P → ⊥)
decided_not {P} d = ⊎_elim (λ (p : P). inr (λ n. n p)) (λ (n : P → ⊥). inl n) d

decided_by : {P : Type 0} (b : Bool) → Decides b P → IsDecided P
decided_by true tells = inl (tells.0 refl)
decided_by false tells = inr (λ p. false≢true (tells.1 p))

-- ---- texts, names, elements and times
pub text_decided : (x y : List ℕ) → IsDecided (x ≡ y)
text_decided x y = decided_by (bytes_eq x y) (bytes_eq-Decides x y)

pub name_decided : (a b : SegmentName) → IsDecided (a ≡ b)
name_decided a b = decided_like
    (λ (e : (a.0 ≡ b.0) × ((a.1 ≡ b.1) × (a.2 ≡ b.2))). let e0 = e.0 in let e1 = e.1.0 in let e2 = e.1.1 in λ k. (e0 k, e1 k, e2 k))
    (λ e. (ap (λ (n : SegmentName). n.0) e, (ap (λ (n : SegmentName). n.1) e, ap (λ (n : SegmentName). n.2) e)))
    (decided_and (text_decided a.0 b.0) (decided_and (text_decided a.1 b.1) (text_decided a.2 b.2)))

element_decided : (o : Option (List ℕ)) (e : List ℕ) → IsDecided (o ≡ Some e)
element_decided None e = inr (λ h. none-some e h)
element_decided (Some x) e = decided_like (λ h. ap (λ (v : List ℕ). Some v) h) (λ h. same_Some x e h) (text_decided x e)

time_decided : (x y : ℤ) → IsDecided (x <ℤ y)
time_decided x y = by_lt_z x y (λ l. inl l) (λ g. inr (λ l. omega (arith, ints)))

pub less_decided : (o : Ordering) → IsDecided (o ≡ Less)
less_decided Less = inl refl
less_decided Equal = inr (λ e. cc)
less_decided Greater = inr (λ e. cc)

lower_decided : (m n : ℕ) → IsDecided (m < n)
lower_decided m n = ⊎_elim (λ (l : m < n). inl l) (λ (g : n ≤ m). inr (λ l. omega arith)) (cases_lt m n)

-- ---- some element of a list
pub some_decided : {X : Type 0} (P : X → Type 0) → ((x : X) → IsDecided (P x)) → (xs : List X) → IsDecided ((x : X) × Contains xs x × P x)
some_decided P decide [] = inr (λ s. Contains-nil s.0 s.1)
some_decided {X} P decide (x ∷ xs) = ⊎_elim
    (λ (p : P x). inl (x, Contains-here x xs x refl, p))
    (λ (n : P x → ⊥). ⊎_elim
    (λ (s : (y : X) × Contains xs y × P y). inl (s.0, Contains-cons x xs s.0 s.1, s.2))
    (λ (none : ((y : X) × Contains xs y × P y) → ⊥). inr (λ s. ⊎_elim
    (λ (e : x ≡ s.0). n (subst P (sym e) s.2))
    (λ (c : Contains xs s.0). none (s.0, c, s.2))
    (cons_cases x xs s.0 s.1)))
    (some_decided P decide xs))
    (decide x)

-- the first element with P, and the last, or that there is none
module _ {X : Type 0} (P : X → Type 0) (decide : (x : X) → IsDecided (P x)) where
  record IsFirst (xs : List X) : Type 0 where
    pub k : ℕ
    pub x : X
    pub at : slice_get xs k ≡ Some x
    pub has : P x
    pub least : (j : ℕ) (y : X) → slice_get xs j ≡ Some y → P y → k ≤ j

  record IsLast (xs : List X) : Type 0 where
    pub k : ℕ
    pub x : X
    pub at : slice_get xs k ≡ Some x
    pub has : P x
    pub greatest : (j : ℕ) (y : X) → slice_get xs j ≡ Some y → P y → j ≤ k

  abbrev HasNone : List X → Type 0
  HasNone xs = (j : ℕ) (y : X) → slice_get xs j ≡ Some y → P y → ⊥

  first_of : (xs : List X) → IsFirst xs ⊎ HasNone xs
  first_of [] = inr (λ j y e p. none-some y e)
  first_of (x ∷ xs) = ⊎_elim
      (λ (p : P x). inl (record { k = 0; x = x; at = refl; has = p; least = λ j y e q. omega arith }))
      (λ (n : P x → ⊥). ⊎_elim
      (λ (f : IsFirst xs). inl (record { k = suc f.k; x = f.x; at = f.at; has = f.has; least = later x xs n f }))
      (λ (none : HasNone xs). inr (none_of x xs n none))
      (first_of xs))
      (decide x)
    where
      none_of : (x : X) (xs : List X) → (P x → ⊥) → HasNone xs → HasNone (x ∷ xs)
      none_of x xs n none zero y e p = n (subst P (sym (same_Some x y e)) p)
      none_of x xs n none (suc j) y e p = none j y e p

      later : (x : X) (xs : List X) → (P x → ⊥) → (f : IsFirst xs) (j : ℕ) (y : X) → slice_get (x ∷ xs) j ≡ Some y → P y → suc f.k ≤ j
      later x xs n f zero y e p = absurd (n (subst P (sym (same_Some x y e)) p))
      later x xs n f (suc j) y e p = let l = f.least j y e p in omega arith

  last_of : (xs : List X) → IsLast xs ⊎ HasNone xs
  last_of [] = inr (λ j y e p. none-some y e)
  last_of (x ∷ xs) = ⊎_elim
      (λ (f : IsLast xs). inl (record { k = suc f.k; x = f.x; at = f.at; has = f.has; greatest = earlier x xs f }))
      (λ (none : HasNone xs). ⊎_elim
      (λ (p : P x). inl (record { k = 0; x = x; at = refl; has = p; greatest = only x xs none }))
      (λ (n : P x → ⊥). inr (none_of x xs n none))
      (decide x))
      (last_of xs)
    where
      none_of : (x : X) (xs : List X) → (P x → ⊥) → HasNone xs → HasNone (x ∷ xs)
      none_of x xs n none zero y e p = n (subst P (sym (same_Some x y e)) p)
      none_of x xs n none (suc j) y e p = none j y e p

      earlier : (x : X) (xs : List X) (f : IsLast xs) (j : ℕ) (y : X) → slice_get (x ∷ xs) j ≡ Some y → P y → j ≤ suc f.k
      earlier x xs f zero y e p = omega arith
      earlier x xs f (suc j) y e p = let l = f.greatest j y e p in omega arith

      only : (x : X) (xs : List X) → HasNone xs → (j : ℕ) (y : X) → slice_get (x ∷ xs) j ≡ Some y → P y → j ≤ 0
      only x xs none zero y e p = omega arith
      only x xs none (suc j) y e p = absurd (none j y e p)

module _ (k : Kept) where
  early_decided : (t s : Segment) → IsDecided (StartsEarly by_kept k t s)
  early_decided t s = time_decided (by_kept.start t +ℤ pos (by_kept.grace k)) (by_kept.end s)

  -- ---- two names
  both_decided : (a b : SegmentName) (R : Segment → Segment → Type 0) → ((s t : Segment) → IsDecided (R s t)) → IsDecided (HasBoth by_kept a b R k)
  both_decided a b R decide = decided_like
      (λ (h : (s : Segment) × Contains k.trace.segments s × ((t : Segment) × Contains k.trace.segments t × ((name_of s ≡ a) × ((name_of t ≡ b) × R s t)))).
      (h.0, h.2.0, h.1, h.2.1, h.2.2.0, h.2.2.1.0, h.2.2.1.1))
      (λ h. (h.0, h.2, (h.1, h.3, (h.4, (h.5, h.6)))))
      (some_decided (λ s. (t : Segment) × Contains k.trace.segments t × ((name_of s ≡ a) × ((name_of t ≡ b) × R s t)))
      (λ s. some_decided (λ t. (name_of s ≡ a) × ((name_of t ≡ b) × R s t))
      (λ t. decided_and (name_decided (name_of s) a) (decided_and (name_decided (name_of t) b) (decide s t))) k.trace.segments) k.trace.segments)

  -- ---- two tasks
  -- the task handles the element in the segment
  abbrev Handles : List ℕ → List ℕ → Segment → Type 0
  Handles t e s = (task_of s ≡ t) × (s.element ≡ Some e)

  handles_decided : (t e : List ℕ) (s : Segment) → IsDecided (Handles t e s)
  handles_decided t e s = decided_and (text_decided (task_of s) t) (element_decided s.element e)

  abbrev NeverHandles : List ℕ → List ℕ → Type 0
  NeverHandles t e = (j : ℕ) (r : Segment) → HandlesAt by_kept k t e j r → ⊥

  abbrev SomeStart : List ℕ → List ℕ → Type 0
  SomeStart t e = (j : ℕ) × (s : Segment) × StartsAt by_kept k t e j s

  abbrev SomeEnd : List ℕ → List ℕ → Type 0
  SomeEnd t e = (j : ℕ) × (s : Segment) × EndsAt by_kept k t e j s

  start_of : (t e : List ℕ) → SomeStart t e ⊎ NeverHandles t e
  start_of t e = ⊎_elim
      (λ (f : IsFirst (Handles t e) (handles_decided t e) k.trace.segments). inl (f.k, f.x, record { handles = record { segment = f.at; task = f.has.0; element = f.has.1 }; first = λ j r h. f.least j r h.segment (h.task, h.element) }))
      (λ (none : HasNone (Handles t e) (handles_decided t e) k.trace.segments). inr (λ j r h. none j r h.segment (h.task, h.element)))
      (first_of (Handles t e) (handles_decided t e) k.trace.segments)

  end_of : (t e : List ℕ) → SomeEnd t e ⊎ NeverHandles t e
  end_of t e = ⊎_elim
      (λ (f : IsLast (Handles t e) (handles_decided t e) k.trace.segments). inl (f.k, f.x, record { handles = record { segment = f.at; task = f.has.0; element = f.has.1 }; last = λ j r h. f.greatest j r h.segment (h.task, h.element) }))
      (λ (none : HasNone (Handles t e) (handles_decided t e) k.trace.segments). inr (λ j r h. none j r h.segment (h.task, h.element)))
      (last_of (Handles t e) (handles_decided t e) k.trace.segments)

  one_start : (t e : List ℕ) (i j : ℕ) (s r : Segment) → StartsAt by_kept k t e i s → StartsAt by_kept k t e j r → (i ≡ j) × (s ≡ r)
  one_start t e i j s r a b =
      let low = a.first j r b.handles in
      let high = b.first i s a.handles in
      let same : i ≡ j = omega arith in
      (same, one_item k.trace.segments j s r (subst (λ (n : ℕ). slice_get k.trace.segments n ≡ Some s) same a.handles.segment) b.handles.segment)

  one_end : (t e : List ℕ) (i j : ℕ) (s r : Segment) → EndsAt by_kept k t e i s → EndsAt by_kept k t e j r → (i ≡ j) × (s ≡ r)
  one_end t e i j s r a b =
      let low = a.last j r b.handles in
      let high = b.last i s a.handles in
      let same : i ≡ j = omega arith in
      (same, one_item k.trace.segments j s r (subst (λ (n : ℕ). slice_get k.trace.segments n ≡ Some s) same a.handles.segment) b.handles.segment)

  -- u starts on this element too early
  record TakesEarly (t u e : List ℕ) : Type 0 where
    pub giver : ℕ
    pub taker : ℕ
    pub given : Segment
    pub taken : Segment
    pub ends : EndsAt by_kept k t e giver given
    pub starts : StartsAt by_kept k u e taker taken
    pub early : StartsEarly by_kept k taken given

  takes_decided : (t u e : List ℕ) → IsDecided (TakesEarly t u e)
  takes_decided t u e = ⊎_elim
      (λ (a : SomeEnd t e). ⊎_elim
      (λ (b : SomeStart u e). ⊎_elim
      (λ (early : StartsEarly by_kept k b.1 a.1). inl (record { giver = a.0; taker = b.0; given = a.1; taken = b.1; ends = a.2; starts = b.2; early = early }))
      (λ (late : StartsEarly by_kept k b.1 a.1 → ⊥). inr (λ x.
      let given = (one_end t e x.giver a.0 x.given a.1 x.ends a.2).1 in
      let taken = (one_start u e x.taker b.0 x.taken b.1 x.starts b.2).1 in
      late (subst (λ (v : Segment). StartsEarly by_kept k v a.1) taken (subst (λ (v : Segment). StartsEarly by_kept k x.taken v) given x.early))))
      (early_decided b.1 a.1))
      (λ (none : NeverHandles u e). inr (λ x. none x.taker x.taken x.starts.handles))
      (start_of u e))
      (λ (none : NeverHandles t e). inr (λ x. none x.giver x.given x.ends.handles))
      (end_of t e)

  in_order_decided : (t e f : List ℕ) → IsDecided (StartsInOrder by_kept k t e f)
  in_order_decided t e f = ⊎_elim
      (λ (a : SomeStart t e). ⊎_elim
      (λ (b : SomeStart t f). ⊎_elim
      (λ (less : a.0 < b.0). inl (record { earlier = a.0; later = b.0; s = a.1; r = b.1; first = a.2; second = b.2; order = less }))
      (λ (not : a.0 < b.0 → ⊥). inr (λ x.
      let first = (one_start t e x.earlier a.0 x.s a.1 x.first a.2).0 in
      let second = (one_start t f x.later b.0 x.r b.1 x.second b.2).0 in
      not (subst (λ (n : ℕ). n < b.0) first (subst (λ (n : ℕ). x.earlier < n) second x.order))))
      (lower_decided a.0 b.0))
      (λ (none : NeverHandles t f). inr (λ x. none x.later x.r x.second.handles))
      (start_of t f))
      (λ (none : NeverHandles t e). inr (λ x. none x.earlier x.s x.first.handles))
      (start_of t e)

  -- a fact on the element of a segment
  abbrev OfElement : (List ℕ → Type 0) → Segment → Type 0
  OfElement P s = (e : List ℕ) × (s.element ≡ Some e) × P e

  of_element_decided : (P : List ℕ → Type 0) → ((e : List ℕ) → IsDecided (P e)) → (s : Segment) → IsDecided (OfElement P s)
  of_element_decided P decide s = by s.element refl
    where
      by : (o : Option (List ℕ)) → s.element ≡ o → IsDecided (OfElement P s)
      by None none = inr (λ h. none-some h.0 (sym none ∙ h.1))
      by (Some e) some = ⊎_elim (λ (p : P e). inl (e, some, p)) (λ (n : P e → ⊥). inr (λ h. n (subst P (sym (same_Some e h.0 (sym some ∙ h.1))) h.2))) (decide e)

  unfinished_decided : (t u : List ℕ) → IsDecided (TakesUnfinished by_kept t u k)
  unfinished_decided t u = decided_like
      (λ (h : (s : Segment) × Contains k.trace.segments s × OfElement (TakesEarly t u) s).
      let x = h.2.2 in
      record { element = h.2.0; giver = x.giver; taker = x.taker; given = x.given; taken = x.taken; ends = x.ends; starts = x.starts; early = x.early })
      (λ x. (x.given, Contains-from_get k.trace.segments x.giver x.given x.ends.handles.segment, (x.element, x.ends.handles.element, record { giver = x.giver; taker = x.taker; given = x.given; taken = x.taken; ends = x.ends; starts = x.starts; early = x.early })))
      (some_decided (OfElement (TakesEarly t u)) (of_element_decided (TakesEarly t u) (takes_decided t u)) k.trace.segments)

  abbrev Turned : List ℕ → List ℕ → List ℕ → List ℕ → Type 0
  Turned t u e f = StartsInOrder by_kept k t e f × StartsInOrder by_kept k u f e

  abbrev TurnedWith : List ℕ → List ℕ → List ℕ → Type 0
  TurnedWith t u e = (s : Segment) × Contains k.trace.segments s × OfElement (Turned t u e) s

  out_of_order_decided : (t u : List ℕ) → IsDecided (TakesOutOfOrder by_kept t u k)
  out_of_order_decided t u = decided_like
      (λ (h : (s : Segment) × Contains k.trace.segments s × OfElement (TurnedWith t u) s).
      let x = h.2.2 in
      record { one = h.2.0; other = x.2.0; in_order = x.2.2.0; turned = x.2.2.1 })
      (λ x. (
        x.in_order.s,
        Contains-from_get k.trace.segments x.in_order.earlier x.in_order.s x.in_order.first.handles.segment,
        (
          x.one,
          x.in_order.first.handles.element,
          (x.in_order.r, Contains-from_get k.trace.segments x.in_order.later x.in_order.r x.in_order.second.handles.segment, (x.other, x.in_order.second.handles.element, (x.in_order, x.turned))),
        ),
      ))
      (some_decided (OfElement (TurnedWith t u)) (of_element_decided (TurnedWith t u)
      (λ e. some_decided (OfElement (Turned t u e)) (of_element_decided (Turned t u e) (λ f. decided_and (in_order_decided t e f) (in_order_decided u f e))) k.trace.segments)) k.trace.segments)

  -- ---- a relation
  pub refutes_decided : (matter : Matter) → IsDecided (RefutesMatter matter k)
  refutes_decided (Before a b) = decided_and (decided_not (name_decided a b)) (both_decided a b (λ s t. StartsEarly by_kept k t s) (λ s t. early_decided t s))
  refutes_decided (Exclusive a b) = decided_and (decided_not (name_decided a b)) (both_decided a b (λ s t. StartsEarly by_kept k s t × StartsEarly by_kept k t s) (λ s t. decided_and (early_decided s t) (early_decided t s)))
  refutes_decided (Pipe t u) = decided_and (decided_not (text_decided t u)) (decided_or (unfinished_decided t u) (out_of_order_decided t u))
