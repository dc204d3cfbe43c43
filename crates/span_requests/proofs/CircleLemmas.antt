-- Ways from caller to caller.
use Rattle.std.proofs.Common.{◌≡◌, ◌≢◌, ◌⊎◌, inl, inr, ℕ, zero, suc, ◌+◌, ◌-◌, ◌*◌, ◌<◌, ◌≤◌, List, Bool, true, false, cond, eqb, length, replicate, get_or, set, Option, Some, None, refl, sym, ap, ◌∙◌, subst, arith, add_comm, suc-mul}
use Rattle.std.proofs.Math.Nat.{le-mul_of_pos_right}
use Rattle.std.specs.Prelude.{◌==◌, not, is_some, IsSome}
use Rattle.std.specs.Bool.{OnFalse, OnTrue}
use Rattle.std.specs.List.{count_by}
use Rattle.std.specs.Option.{option_and_then}
use Rattle.std.proofs.lemmas.Bool.{cases_eq, eqb-false, eqb-true, ne_eqb}
use Rattle.std.proofs.lemmas.List.{get_or-set_other, get_or-set_same, length-set}
use Rattle.std.proofs.lemmas.List.Sums.{count_by-le-length, sum_by-set}
use Rattle.std.proofs.lemmas.Option.{get_or_from_slice_get, slice_get-get_or}
use Rattle.span_requests.specs.inner.Circles.{AreCallers, AreMarkedWith, HaveEnds, IsOnWalk, is_marked, leads_to_circle, marked_count, number_above}

module _ (callers : List (Option ℕ)) where
  pub above_add : (m n k : ℕ) → number_above callers (m + n) k ≡ option_and_then (number_above callers n) (number_above callers m k)
  above_add zero n k = ap (λ i. number_above callers i k) (let e : 0 + n ≡ n = omega arith in e)
  above_add (suc m) n k = ap (λ i. number_above callers i k) (let e : suc m + n ≡ suc (m + n) = omega arith in e) ∙ by (λ c. above_add m n c) (get_or callers k None)
    where
      by : ((c : ℕ) → number_above callers (m + n) c ≡ option_and_then (number_above callers n) (number_above callers m c)) → (o : Option ℕ) → option_and_then (number_above callers (m + n)) o ≡ option_and_then (number_above callers n) (option_and_then (number_above callers m) o)
      by rest None = refl
      by rest (Some c) = rest c

  pub above_next : (n k at c : ℕ) → number_above callers n k ≡ Some at → get_or callers at None ≡ Some c → number_above callers (n + 1) k ≡ Some c
  above_next n k at c h e = above_add n 1 k ∙ ap (option_and_then (number_above callers 1)) h ∙ ap (option_and_then (number_above callers 0)) e

  pub above_stop : (n k at : ℕ) → number_above callers n k ≡ Some at → get_or callers at None ≡ None → number_above callers (n + 1) k ≡ None
  above_stop n k at h e = above_add n 1 k ∙ ap (option_and_then (number_above callers 1)) h ∙ ap (option_and_then (number_above callers 0)) e

  pub above_more : (n m k : ℕ) → n ≤ m → number_above callers n k ≡ None → number_above callers m k ≡ None
  above_more n m k le h = ap (λ i. number_above callers i k) (let e : m ≡ n + (m - n) = omega arith in e) ∙ above_add n (m - n) k ∙ ap (option_and_then (number_above callers (m - n))) h

  -- a way that leads to where another one ends
  pub above_join : (n m k at : ℕ) → number_above callers n k ≡ Some at → number_above callers m at ≡ None → number_above callers (n + m) k ≡ None
  above_join n m k at h e = above_add n m k ∙ ap (option_and_then (number_above callers m)) h ∙ e

  round : (n at t : ℕ) → number_above callers n at ≡ Some at → number_above callers (t * n) at ≡ Some at
  round n at zero back = ap (λ i. number_above callers i at) (let e : 0 * n ≡ 0 = omega arith in e)
  round n at (suc t) back = ap (λ i. number_above callers i at) (let e : suc t * n ≡ n + t * n = suc-mul t n ∙ add_comm (t * n) n in e) ∙ above_add n (t * n) at ∙ ap (option_and_then (number_above callers (t * n))) back ∙ round n at t back

  none_some : (at : ℕ) → None ≡ Some at → ⊥
  none_some at h = cc

  -- a way that comes back to where it was has no end
  pub endless : (n at : ℕ) → 0 < n → number_above callers n at ≡ Some at → (m : ℕ) → IsSome (number_above callers m at)
  endless n at pos back m = by (number_above callers m at) refl (omega (arith, le-mul_of_pos_right {m = n} (suc m) pos))
    where
      by : (o : Option ℕ) → number_above callers m at ≡ o → m ≤ suc m * n → IsSome o
      by (Some c) e le = refl
      by None e le = absurd (none_some at (sym (above_more m (suc m * n) at le e) ∙ round n at (suc m) back))

  pub endless_from : (n k at : ℕ) → number_above callers n k ≡ Some at → ((m : ℕ) → IsSome (number_above callers m at)) → (m : ℕ) → IsSome (number_above callers m k)
  endless_from n k at h all m = by (number_above callers m k) refl
    where
      by : (o : Option ℕ) → number_above callers m k ≡ o → IsSome o
      by (Some c) e = refl
      by None e =
          let gone : number_above callers (n + m) k ≡ None = above_more m (n + m) k (omega arith) e in
          let there : number_above callers (n + m) k ≡ number_above callers m at = above_add n m k ∙ ap (option_and_then (number_above callers m)) h in
          subst IsSome (sym there ∙ gone) (all m)

-- ---- marks

module _ (marks : List ℕ) (at walk : ℕ) (lt : at < length marks) (zero_at : get_or marks at 0 ≡ 0) (pos : 0 < walk) where
  pub marked_more : marked_count (set marks at walk) ≡ marked_count marks + 1
  marked_more =
      let f : ℕ → ℕ = λ m. cond (is_marked m) 1 0 in
      let s = sum_by-set f marks at walk 0 lt in
      let a : f (get_or marks at 0) ≡ 0 = ap f zero_at in
      let ne : eqb walk 0 ≡ false = ne_eqb walk 0 (λ e. omega (arith, e)) in
      let b : f walk ≡ 1 = ap (λ t. cond (not t) 1 0) ne in
      omega (arith, s, a, b)

  pub unmarked_less : count_by (λ m. m == 0) (set marks at walk) < count_by (λ m. m == 0) marks
  unmarked_less =
      let f : ℕ → ℕ = λ m. cond (m == 0) 1 0 in
      let s = sum_by-set f marks at walk 0 lt in
      let a : f (get_or marks at 0) ≡ 1 = ap f zero_at in
      let ne : eqb walk 0 ≡ false = ne_eqb walk 0 (λ e. omega (arith, e)) in
      let b : f walk ≡ 0 = ap (λ t. cond t 1 0) ne in
      omega (arith, s, a, b)

-- ---- a walk

module _ (callers : List (Option ℕ)) (old marks : List ℕ) (start walk at : ℕ) (same : length marks ≡ length callers) (as_long : length old ≡ length callers) (pos : 0 < walk) (ends : HaveEnds callers old) (h : IsOnWalk callers old marks start walk at) where
  -- from what an earlier walk marked callers come to an end
  earlier : (k : ℕ) → k < length marks → get_or marks k 0 ≢ 0 → get_or marks k 0 ≢ walk → number_above callers (marked_count old) k ≡ None
  earlier k lt marked other = by (h.marked k)
    where
      by : (get_or marks k 0 ≡ get_or old k 0) ⊎ (get_or marks k 0 ≡ walk) → number_above callers (marked_count old) k ≡ None
      by (inl e) = ends k (omega (arith, lt, same, as_long)) (λ z. marked (e ∙ z))
      by (inr e) = absurd (other e)

  at_within : at < length marks
  at_within = omega (arith, h.within, same)

  -- the walk came to a span that an earlier walk marked
  pub walk_met : get_or marks at 0 ≢ 0 → get_or marks at 0 ≢ walk → HaveEnds callers marks
  walk_met marked other k lt m = by (cases_eq (get_or marks k 0) walk)
    where
      by : (get_or marks k 0 ≡ walk) ⊎ (get_or marks k 0 ≢ walk) → number_above callers (marked_count marks) k ≡ None
      by (inl e) =
          let way = h.way k lt e in
          above_more callers (way.0 + marked_count old) (marked_count marks) k (omega (arith, way.2)) (above_join callers way.0 (marked_count old) k at way.3 (earlier at at_within marked other))
      by (inr e) = above_more callers (marked_count old) (marked_count marks) k h.grown (earlier k lt m e)

  -- the walk came back to its own way
  pub walk_back : get_or marks at 0 ≡ walk → (n : ℕ) → IsSome (number_above callers n start)
  walk_back e = let way = h.way at at_within e in endless_from callers h.begun.0 start at h.begun.1 (endless callers way.0 at way.1 way.3)

  pub walk_first : get_or marks at 0 ≢ 0 → get_or marks start 0 ≢ 0
  walk_first marked = by h.first
    where
      by : (start ≡ at) ⊎ (get_or marks start 0 ≢ 0) → get_or marks start 0 ≢ 0
      by (inl e) z = marked (ap (λ k. get_or marks k 0) (sym e) ∙ z)
      by (inr e) z = e z

  module _ (free : get_or marks at 0 ≡ 0) where
    next : List ℕ
    next = set marks at walk

    more : marked_count (set marks at walk) ≡ marked_count marks + 1
    more = marked_more marks at walk at_within free pos

    here : get_or (set marks at walk) at 0 ≡ walk
    here = get_or-set_same marks at walk 0 at_within

    there : (k : ℕ) → k ≢ at → get_or (set marks at walk) k 0 ≡ get_or marks k 0
    there k ne = get_or-set_other marks at k walk 0 ne

    pub next_marks : AreMarkedWith walk old (set marks at walk)
    next_marks k = by (cases_eq k at)
      where
        by : (k ≡ at) ⊎ (k ≢ at) → (get_or (set marks at walk) k 0 ≡ get_or old k 0) ⊎ (get_or (set marks at walk) k 0 ≡ walk)
        by (inl e) = inr (ap (λ i. get_or (set marks at walk) i 0) e ∙ here)
        by (inr ne) = also (h.marked k)
          where
            also : (get_or marks k 0 ≡ get_or old k 0) ⊎ (get_or marks k 0 ≡ walk) → (get_or (set marks at walk) k 0 ≡ get_or old k 0) ⊎ (get_or (set marks at walk) k 0 ≡ walk)
            also (inl e) = inl (there k ne ∙ e)
            also (inr e) = inr (there k ne ∙ e)

    -- the walk came to an entry
    pub walk_stop : get_or callers at None ≡ None → HaveEnds callers (set marks at walk)
    walk_stop last k low m = by (cases_eq k at)
      where
        lt : k < length marks
        lt = omega (arith, low, length-set marks at walk)

        also : k ≢ at → (get_or marks k 0 ≡ walk) ⊎ (get_or marks k 0 ≢ walk) → number_above callers (marked_count (set marks at walk)) k ≡ None
        also ne (inl e) =
            let way = h.way k lt e in
            above_more callers (way.0 + 1) (marked_count (set marks at walk)) k (omega (arith, way.2, more)) (above_stop callers way.0 k at way.3 last)
        also ne (inr e) = above_more callers (marked_count old) (marked_count (set marks at walk)) k (omega (arith, h.grown, more)) (earlier k lt (λ z. m (there k ne ∙ z)) e)

        by : (k ≡ at) ⊎ (k ≢ at) → number_above callers (marked_count (set marks at walk)) k ≡ None
        by (inl e) = above_more callers 1 (marked_count (set marks at walk)) k (omega (arith, more)) (above_stop callers 0 k at (ap (λ i. Some i) e) last)
        by (inr ne) = also ne (cases_eq (get_or marks k 0) walk)

    pub walk_start : get_or (set marks at walk) start 0 ≢ 0
    walk_start = by h.first
      where
        by : (start ≡ at) ⊎ (get_or marks start 0 ≢ 0) → get_or (set marks at walk) start 0 ≢ 0
        by (inl e) z = omega (arith, pos, ap (λ i. get_or (set marks at walk) i 0) e ∙ here, z)
        by (inr m) z = also (cases_eq start at) z
          where
            also : (start ≡ at) ⊎ (start ≢ at) → get_or (set marks at walk) start 0 ≢ 0
            also (inl e) z = omega (arith, pos, ap (λ i. get_or (set marks at walk) i 0) e ∙ here, z)
            also (inr ne) z = m (sym (there start ne) ∙ z)

    -- the walk goes on to a caller
    pub walk_more : AreCallers callers → (c : ℕ) → get_or callers at None ≡ Some c → IsOnWalk callers old (set marks at walk) start walk c
    walk_more are c up = record {
      within = are at c up;
      marked = next_marks;
      grown = omega (arith, h.grown, more);
      way = λ k low m. way k (omega (arith, low, length-set marks at walk)) m (cases_eq k at);
      begun = (h.begun.0 + 1, above_next callers h.begun.0 start at c h.begun.1 up);
      first = inr walk_start;
    }
      where
        way : (k : ℕ) → k < length marks → get_or (set marks at walk) k 0 ≡ walk → (k ≡ at) ⊎ (k ≢ at)
            → (n : ℕ) × (0 < n) × (marked_count old + n ≤ marked_count (set marks at walk)) × (number_above callers n k ≡ Some c)
        way k lt m (inl e) = (1, omega arith, omega (arith, h.grown, more), above_next callers 0 k at c (ap (λ i. Some i) e) up)
        way k lt m (inr ne) =
            let w = h.way k lt (sym (there k ne) ∙ m) in
            (w.0 + 1, omega arith, omega (arith, w.2, more), above_next callers w.0 k at c w.3 up)

-- ---- what the walk tells

module _ (callers : List (Option ℕ)) (old marks : List ℕ) (start walk at : ℕ) (same : length marks ≡ length callers) (as_long : length old ≡ length callers) (pos : 0 < walk) (ends : HaveEnds callers old) (h : IsOnWalk callers old marks start walk at) (marked : get_or marks at 0 ≢ 0) where
  pub tells_end : OnTrue (not (eqb (get_or marks at 0) walk)) (HaveEnds callers marks)
  tells_end = by (eqb (get_or marks at 0) walk) refl
    where
      by : (b : Bool) → eqb (get_or marks at 0) walk ≡ b → OnTrue (not b) (HaveEnds callers marks)
      by true e = tt
      by false e = walk_met callers old marks start walk at same as_long pos ends h marked (eqb-false (get_or marks at 0) walk e)

  pub tells_circle : OnFalse (not (eqb (get_or marks at 0) walk)) ((n : ℕ) → IsSome (number_above callers n start))
  tells_circle = by (eqb (get_or marks at 0) walk) refl
    where
      by : (b : Bool) → eqb (get_or marks at 0) walk ≡ b → OnFalse (not b) ((n : ℕ) → IsSome (number_above callers n start))
      by true e = walk_back callers old marks start walk at same as_long pos ends h (eqb-true (get_or marks at 0) walk e)
      by false e = tt

  pub tells_start : (b : Bool) → OnTrue b (get_or marks start 0 ≢ 0)
  tells_start true = walk_first callers old marks start walk at same as_long pos ends h marked
  tells_start false = tt

-- the walk begins
pub on_walk : (callers : List (Option ℕ)) (old : List ℕ) (start walk : ℕ) → start < length callers → ((k : ℕ) → get_or old k 0 ≢ walk) → IsOnWalk callers old old start walk start
on_walk callers old start walk lt fresh = record {
  within = lt;
  marked = λ k. inl refl;
  grown = omega arith;
  way = λ k low m. absurd (fresh k m);
  begun = (0, refl);
  first = inl refl;
}

-- ---- marks of walks

pub fresh_walk : (marks : List ℕ) (index walk : ℕ) → walk ≡ index + 1 → ((k : ℕ) → get_or marks k 0 ≤ index) → (k : ℕ) → get_or marks k 0 ≢ walk
fresh_walk marks index walk is few k e = omega (arith, is, few k, e)

pub few_more : (old new : List ℕ) (index walk : ℕ) → walk ≡ index + 1 → ((k : ℕ) → get_or old k 0 ≤ index) → AreMarkedWith walk old new → (k : ℕ) → get_or new k 0 ≤ index + 1
few_more old new index walk is few h k = by (h k)
  where
    by : (get_or new k 0 ≡ get_or old k 0) ⊎ (get_or new k 0 ≡ walk) → get_or new k 0 ≤ index + 1
    by (inl e) = omega (arith, e, few k)
    by (inr e) = omega (arith, e, is)

zeros : (n k : ℕ) → get_or {A = ℕ} (replicate n 0) k 0 ≡ 0
zeros zero k = refl
zeros (suc n) zero = refl
zeros (suc n) (suc k) = zeros n k

pub no_marks : (callers : List (Option ℕ)) (marks : List ℕ) (n : ℕ) → marks ≡ replicate n 0 → (HaveEnds callers marks) × ((k : ℕ) → get_or marks k 0 ≤ 0)
no_marks callers marks n is = (λ k lt m. absurd (m (at k)), λ k. omega (arith, at k))
  where
    at : (k : ℕ) → get_or marks k 0 ≡ 0
    at k = ap (λ (ms : List ℕ). get_or ms k 0) is ∙ zeros n k

-- a span that a walk came from, with an end, leads into no circle
pub no_circle : (callers : List (Option ℕ)) (marks : List ℕ) (k : ℕ) → length marks ≡ length callers → k < length callers → HaveEnds callers marks → get_or marks k 0 ≢ 0 → leads_to_circle callers k ≡ false
no_circle callers marks k same lt ends marked =
    ap is_some (above_more callers (marked_count marks) (length callers) k (omega (arith, count_by-le-length is_marked marks, same)) (ends k (omega (arith, lt, same)) marked))

pub a_circle : (callers : List (Option ℕ)) (k : ℕ) → ((n : ℕ) → IsSome (number_above callers n k)) → leads_to_circle callers k ≡ true
a_circle callers k all = all (length callers)

pub same_at : (xs : List ℕ) (i d n : ℕ) → i < length xs → get_or xs i d ≡ get_or xs i (get_or xs i d)
same_at xs i d n lt = sym (get_or_from_slice_get xs i (get_or xs i d) (get_or xs i d) (slice_get-get_or xs i d lt))
