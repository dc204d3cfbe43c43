-- The elements of a task in the first segments of a trace, and those that two lists have in common.
use Rattle.std.proofs.Common.{Bool, true, Result, Ok, Err, is_ok, ◌≡◌, ◌≢◌, ◌⊎◌, ◌↔◌, ℕ, ◌+◌, ◌<◌, ◌≤◌, Some, List, [], ◌∷◌, ◌++◌, length, length-take-le, take, get_or, slice_get, Contains, refl, sym, ap, ◌∙◌, subst, arith, inl, inr, ⊎_elim}
use Rattle.std.specs.List.Sorted.{IsBinarySearchResult, IsStrictlyIncreasing}
use Rattle.std.specs.Ordering.{nat_cmp}
use Rattle.std.proofs.lemmas.Bool.{cases_lt, false≢true}
use Rattle.std.proofs.lemmas.List.Sorted.{searched}
use Rattle.std.proofs.lemmas.List.{get_or_default, get_or_append_left, get_or_push, length_push, get_or-take, take_all, take_more}
use Rattle.std.proofs.lemmas.List.Elements.{Contains-append_left, Contains-get_or, Contains-push, Contains-push_cases}
use Rattle.std.proofs.lemmas.List.Kept.{AllPairs-from_increasing}
use Rattle.std.proofs.lemmas.Option.{same_Some, slice_get_within}
use Rattle.trace_types.specs.Listing.{AreExactly}
use Rattle.trace_types.specs.declared.named_segment.NamedSegment.{NamedSegment}
use Rattle.trace_types.specs.declared.named_trace.NamedTrace.{NamedTrace}
use Rattle.shared_elements.specs.Elements.{Handles, IsElementOf}

-- it is handled at an index below
pub record IsBelow (segments : List NamedSegment) (index task e : ℕ) : Type 0 where
  pub k : ℕ
  pub s : NamedSegment
  pub before : k < index
  pub at : slice_get segments k ≡ Some s
  pub handles : Handles task e s

-- the list has the elements of the first segments
abbrev pub CollectedBelow : List NamedSegment → ℕ → ℕ → List ℕ → Type 0
CollectedBelow segments index task elements = (e : ℕ) → Contains elements e ↔ IsBelow segments index task e

pub collected_none : (segments : List NamedSegment) (task : ℕ) → CollectedBelow segments 0 task []
collected_none segments task = λ e. ((λ c. absurd (omega (arith, c.1))), (λ h. let b = h.before in absurd (omega arith)))

module _ (segments : List NamedSegment) (index task : ℕ) (s : NamedSegment) (at : slice_get segments index ≡ Some s) (elements : List ℕ) (so : CollectedBelow segments index task elements) where
  later : (e : ℕ) → IsBelow segments index task e → IsBelow segments (index + 1) task e
  later e h = record { k = h.k; s = h.s; before = let b = h.before in omega arith; at = h.at; handles = h.handles }

  split : (e : ℕ) → IsBelow segments (index + 1) task e → IsBelow segments index task e ⊎ Handles task e s
  split e h = ⊎_elim
      (λ (l : h.k < index). inl (record { k = h.k; s = h.s; before = l; at = h.at; handles = h.handles }))
      (λ (g : index ≤ h.k). let b = h.before in let same : h.k ≡ index = omega arith in
      inr (subst (Handles task e) (same_Some h.s s (sym (subst (λ (k : ℕ). slice_get segments k ≡ Some h.s) same h.at) ∙ at)) h.handles))
      (cases_lt h.k index)

  pub collected_more : (element : ℕ) → Handles task element s → CollectedBelow segments (index + 1) task (elements ++ element ∷ [])
  collected_more element handles = λ e. (
    (λ c. ⊎_elim
        (λ (old : Contains elements e). later e ((so e).0 old))
        (λ (new : element ≡ e). subst (IsBelow segments (index + 1) task) new (record { k = index; s = s; before = omega arith; at = at; handles = handles }))
        (Contains-push_cases elements element e c)),
    (λ h. ⊎_elim
        (λ (old : IsBelow segments index task e). Contains-append_left elements (element ∷ []) e ((so e).1 old))
        (λ (new : Handles task e s). subst (Contains (elements ++ element ∷ [])) (same_Some element e (sym handles.1 ∙ new.1)) (Contains-push elements element))
        (split e h)),
  )

  pub collected_past : ((e : ℕ) → Handles task e s → ⊥) → CollectedBelow segments (index + 1) task elements
  collected_past none = λ e. (
    (λ c. later e ((so e).0 c)),
    (λ h. ⊎_elim
        (λ (old : IsBelow segments index task e). (so e).1 old)
        (λ (new : Handles task e s). absurd (none e new))
        (split e h)),
  )

pub collected_all : (trace : NamedTrace) (index task : ℕ) (elements : List ℕ) → length trace.segments ≤ index → CollectedBelow trace.segments index task elements → (e : ℕ) → Contains elements e ↔ IsElementOf trace task e
collected_all trace index task elements all so e = (
  (λ c. let h = (so e).0 c in (h.k, h.s, record { segment = h.at; task = h.handles.0; element = h.handles.1 })),
  (λ h. (so e).1 (record { k = h.0; s = h.1; before = let l = slice_get_within trace.segments h.0 h.1 h.2.segment in omega arith; at = h.2.segment; handles = (h.2.task, h.2.element) })),
)

-- ---- in common
pub record CommonBelow (one other : List ℕ) (index count : ℕ) : Type 0 where
  pub are : AreExactly (λ e. Contains (take index one) e × Contains other e) count
  pub few : count ≤ index

pub common_none : (one other : List ℕ) → CommonBelow one other 0 0
common_none one other = record {
  are = record {
    all = [];
    differ = λ i j d lt inside. absurd (omega arith);
    exactly = λ e. ((λ c. absurd (omega (arith, c.1))), (λ h. let l = h.0.1 in absurd (omega arith)));
    count = refl;
  };
  few = omega arith;
}

module _ (one other : List ℕ) (index count x : ℕ) (inside : index < length one) (is : x ≡ get_or one index x) (so : CommonBelow one other index count) where
  grown : take (index + 1) one ≡ take index one ++ x ∷ []
  grown = take_more one index x inside ∙ ap (λ (y : ℕ). take index one ++ y ∷ []) (sym is)

  pub common_past : (Contains other x → ⊥) → CommonBelow one other (index + 1) count
  common_past none = record {
    are = record {
      all = so.are.all;
      differ = so.are.differ;
      exactly = λ e. subst (λ (l : List ℕ). Contains so.are.all e ↔ (Contains l e × Contains other e)) (sym grown) (
        (λ c. let h = (so.are.exactly e).0 c in (Contains-append_left (take index one) (x ∷ []) e h.0, h.1)),
        (λ h. ⊎_elim
            (λ (old : Contains (take index one) e). (so.are.exactly e).1 (old, h.1))
            (λ (new : x ≡ e). absurd (none (subst (Contains other) (sym new) h.1)))
            (Contains-push_cases (take index one) x e h.0)),
      );
      count = so.are.count;
    };
    few = let f = so.few in omega arith;
  }

  -- no earlier element is it
  is_new : IsStrictlyIncreasing one → Contains (take index one) x → ⊥
  is_new rising c =
      let k = c.0 in
      let below : k < index = let l = length-take-le index one in let m = c.1 in omega arith in
      let less = AllPairs-from_increasing one rising k index x below inside in
      let same : get_or one k x ≡ x = sym (get_or-take index one k x below) ∙ c.2 in
      let e = is in
      omega arith

  pub common_more : IsStrictlyIncreasing one → Contains other x → CommonBelow one other (index + 1) (count + 1)
  common_more rising has = record {
    are = record {
      all = so.are.all ++ x ∷ [];
      differ = λ i j d lt within.
          let size = length_push so.are.all x in
          ⊎_elim
          (λ (l : j < length so.are.all).
          subst (λ (y : ℕ). y ≢ get_or (so.are.all ++ x ∷ []) j d) (sym (get_or_append_left so.are.all (x ∷ []) d i (omega arith)))
          (subst (λ (y : ℕ). get_or so.are.all i d ≢ y) (sym (get_or_append_left so.are.all (x ∷ []) d j l)) (so.are.differ i j d lt l)))
          (λ (g : length so.are.all ≤ j).
          let here : length so.are.all ≡ j = omega arith in
          subst (λ (y : ℕ). y ≢ get_or (so.are.all ++ x ∷ []) j d) (sym (get_or_append_left so.are.all (x ∷ []) d i (omega arith)))
          (subst (λ (y : ℕ). get_or so.are.all i d ≢ y) (sym (get_or_push so.are.all x d j here))
          (λ same. is_new rising (subst (Contains (take index one)) same ((so.are.exactly (get_or so.are.all i d)).0 (Contains-get_or so.are.all i d (omega arith))).0))))
          (cases_lt j (length so.are.all));
      exactly = λ e. subst (λ (l : List ℕ). Contains (so.are.all ++ x ∷ []) e ↔ (Contains l e × Contains other e)) (sym grown) (
        (λ c. ⊎_elim
            (λ (old : Contains so.are.all e). let h = (so.are.exactly e).0 old in (Contains-append_left (take index one) (x ∷ []) e h.0, h.1))
            (λ (new : x ≡ e). subst (λ (y : ℕ). Contains (take index one ++ x ∷ []) y × Contains other y) new (Contains-push (take index one) x, has))
            (Contains-push_cases so.are.all x e c)),
        (λ h. ⊎_elim
            (λ (old : Contains (take index one) e). Contains-append_left so.are.all (x ∷ []) e ((so.are.exactly e).1 (old, h.1)))
            (λ (new : x ≡ e). subst (Contains (so.are.all ++ x ∷ [])) new (Contains-push so.are.all x))
            (Contains-push_cases (take index one) x e h.0)),
      );
      count = length_push so.are.all x ∙ ap (λ (n : ℕ). n + 1) so.are.count;
    };
    few = let f = so.few in omega arith;
  }

in_order : (xs : List ℕ) → IsStrictlyIncreasing xs → (i j : ℕ) → i ≤ j → j < length xs → get_or xs i 0 ≤ get_or xs j 0
in_order xs rising i j le inside = ⊎_elim
    (λ (l : i < j). let h = AllPairs-from_increasing xs rising i j 0 l inside in omega arith)
    (λ (g : j ≤ i). let same : i ≡ j = omega arith in subst (λ (k : ℕ). get_or xs i 0 ≤ get_or xs k 0) same (omega arith))
    (cases_lt i j)

-- a binary search tells whether a rising list has the element
pub told_by_search : (xs : List ℕ) (x : ℕ) (r : Result ℕ ℕ) (b : Bool) → b ≡ is_ok r → IsBinarySearchResult (λ y. nat_cmp y x) xs r → IsStrictlyIncreasing xs → (b ≡ true) ↔ Contains xs x
told_by_search xs x (Ok i) b is result rising =
    let found = searched xs x (Ok i) result (in_order xs rising) in
    ((λ _. (i, found.0, get_or_default xs i x 0 found.0 ∙ found.1)), (λ _. is))
told_by_search xs x (Err i) b is result rising =
    let gap = searched xs x (Err i) result (in_order xs rising) in (
      (λ yes. absurd (false≢true (sym is ∙ yes))),
      (λ c. let k = c.0 in let at : get_or xs k 0 ≡ x = get_or_default xs k 0 x c.1 ∙ c.2 in ⊎_elim
          (λ (l : k < i). let h = gap.1 k l in absurd (omega arith))
          (λ (g : i ≤ k). let h = gap.2 k g c.1 in absurd (omega arith))
          (cases_lt k i)),
    )

pub common_all : (one other : List ℕ) (index count : ℕ) → length one ≤ index → CommonBelow one other index count → AreExactly (λ e. Contains one e × Contains other e) count
common_all one other index count all so = subst (λ (l : List ℕ). AreExactly (λ e. Contains l e × Contains other e) count) (take_all index one all) so.are
