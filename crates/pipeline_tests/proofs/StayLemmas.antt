-- One more segment: a stay goes on, a stay begins, or nothing changes.
use Rattle.std.proofs.Common.{◌≡◌, ℕ, ◌+◌, ◌-◌, ◌<◌, ◌≤◌, List, [], ◌∷◌, ◌++◌, length, get_or, slice_get, slice_set, Option, Some, None, refl, sym, ap, ◌∙◌, subst, ⊎_elim, ◌⊎◌, inl, inr, arith, length-append, length-set, get_or-set_same, get_or-set_other}
use Rattle.std.proofs.lemmas.Bool.{cases_eq, cases_lt, cases_order}
use Rattle.std.proofs.lemmas.List.{get_or_default, get_or_append_left, get_or-append_right}
use Rattle.std.proofs.lemmas.List.Elements.{Contains-append_left, Contains-push}
use Rattle.std.proofs.lemmas.List.Quantifiers.{all_pairs_push}
use Rattle.std.proofs.lemmas.Option.{slice_get_within, get_or_from_slice_get}
use Rattle.std.specs.List.{Contains}
use Rattle.trace_types.proofs.TruthLemmas.{some_same}
use Rattle.pipeline_tests.specs.declared.stays.Stay.{Stay}
use Rattle.pipeline_tests.specs.inner.Stays.{IsStay, StaysDiffer, AreStays, IsKnown, IsNew}
use Rattle.trace_types.specs.NamedSegments.{number_of_task, number_of_element}
use Rattle.trace_types.specs.Parts.{by_number}
use Rattle.trace_types.specs.Pipelines.{HandlesAt}
use Rattle.trace_types.specs.declared.named_segment.NamedSegment.{NamedSegment}
use Rattle.trace_types.specs.declared.named_trace.NamedTrace.{NamedTrace}

not_both : (o : Option ℕ) (a : ℕ) → o ≡ Some a → o ≡ None → ⊥
not_both o a h g = cc

-- one segment handles at most one element, in one task
pub parts_at : (trace : NamedTrace) (k l t u e f : ℕ) (s r : NamedSegment) → HandlesAt by_number trace t e k s → HandlesAt by_number trace u f l r → k ≡ l → (t ≡ u) × (e ≡ f)
parts_at trace k l t u e f s r h g same =
    let q : s ≡ r = some_same s r (sym h.segment ∙ ap (λ (i : ℕ). slice_get trace.segments i) same ∙ g.segment) in
    (sym h.task ∙ ap number_of_task q ∙ g.task, some_same e f (sym h.element ∙ ap number_of_element q ∙ g.element))

-- a stay that does not go on stays as it is
stay_keep : (trace : NamedTrace) (n : ℕ) (s : Stay) → IsStay trace n s → ((r : NamedSegment) → HandlesAt by_number trace s.task s.element n r → ⊥) → IsStay trace (n + 1) s
stay_keep trace n s y none = record {
  starts = y.starts;
  handles = y.handles;
  within = let l : s.end < n = y.within in omega arith;
  last = λ j r l h. ⊎_elim
      (λ (b : j < n). y.last j r b h)
      (λ (b : n ≤ j). let e : j ≡ n = omega arith in absurd (none r (subst (λ (k : ℕ). HandlesAt by_number trace s.task s.element k r) e h)))
      (cases_lt j n);
}

-- ---- no segment

pub no_stays : (trace : NamedTrace) → AreStays trace 0 []
no_stays trace = record {
  sound = λ k d l. absurd (omega arith);
  complete = λ j t e r l h. absurd (omega arith);
  differ = λ k m d l o p q. absurd (omega arith);
  rise = λ i j d l h. absurd (omega arith);
}

-- ---- a segment without element

module _ (trace : NamedTrace) (n : ℕ) (z : NamedSegment) (at : slice_get trace.segments n ≡ Some z) (none : z.element ≡ None) where
  none_here : (t e : ℕ) (r : NamedSegment) → HandlesAt by_number trace t e n r → ⊥
  none_here t e r h = let q : z ≡ r = some_same z r (sym at ∙ h.segment) in not_both r.element e h.element (ap number_of_element (sym q) ∙ none)

  earlier : (j t e : ℕ) (r : NamedSegment) → j < n + 1 → HandlesAt by_number trace t e j r → j < n
  earlier j t e r l h = ⊎_elim
      (λ (b : j < n). b)
      (λ (b : n ≤ j). let same : j ≡ n = omega arith in absurd (none_here t e r (subst (λ (k : ℕ). HandlesAt by_number trace t e k r) same h)))
      (cases_lt j n)

  pub stays_same : (stays : List Stay) → AreStays trace n stays → AreStays trace (n + 1) stays
  stays_same stays a = record {
    sound = λ k d l. let s = get_or stays k d in stay_keep trace n s (a.sound k d l) (λ r h. none_here s.task s.element r h);
    complete = λ j t e r l h. a.complete j t e r (earlier j t e r l h) h;
    differ = a.differ;
    rise = a.rise;
  }

-- ---- a segment in which its task handles e

module _ (trace : NamedTrace) (n e : ℕ) (z : NamedSegment) (here : HandlesAt by_number trace z.task e n z) (stays : List Stay) (a : AreStays trace n stays) where
  -- a stay begins before this segment
  begins_before : (m : ℕ) (d : Stay) → m < length stays → (get_or stays m d).begin < n
  begins_before m d l = let y : Stay = get_or stays m d in let s : IsStay trace n y = a.sound m d l in let least = s.starts.first y.end y.last s.handles in let most = s.within in omega arith

  -- a stay before one of another task is of another task
  other_before : (i k : ℕ) (d : Stay) → i < k → k < length stays → ((get_or stays k d).task ≡ z.task → ⊥) → (get_or stays i d).task ≡ z.task → ⊥
  other_before i k d less l other same =
      let x : Stay = get_or stays i d in
      let y : Stay = get_or stays k d in
      let begins : x.begin < y.begin = a.rise i k d less l in
      let s : IsStay trace n x = a.sound i d (omega arith) in
      let r : IsStay trace n y = a.sound k d l in
      let p : HandlesAt by_number trace x.task x.element x.begin x.first = s.starts.handles in
      let q : HandlesAt by_number trace y.task y.element y.begin y.first = r.starts.handles in
      let one : get_or trace.segments x.begin z ≡ x.first = get_or_from_slice_get trace.segments x.begin x.first z p.segment in
      let two : get_or trace.segments y.begin z ≡ y.first = get_or_from_slice_get trace.segments y.begin y.first z q.segment in
      let three : get_or trace.segments n z ≡ z = get_or_from_slice_get trace.segments n z z here.segment in
      let between = trace.together x.begin y.begin n z begins (begins_before k d l) (slice_get_within trace.segments n z here.segment)
      (ap number_of_task one ∙ p.task ∙ same ∙ sym (ap number_of_task three)) in
      other (sym q.task ∙ sym (ap number_of_task two) ∙ between ∙ ap number_of_task three)

  -- a stay of another task, and none of the element behind it: the element is new to the task
  pub none_behind : (k : ℕ) → k < length stays → ((d : Stay) → (get_or stays k d).task ≡ z.task → ⊥)
      → ((m : ℕ) (d : Stay) → k < m → m < length stays → (get_or stays m d).element ≡ e → ⊥) → IsNew trace n z.task e
  none_behind k l other rest j r below h =
      let c = a.complete j z.task e r below h in
      let s : Stay = c.0 in
      let o = c.1 in
      ⊎_elim
      (λ (q : o.0 ≡ k). other s (ap (λ (i : ℕ). (get_or stays i s).task) (sym q) ∙ ap (λ (x : Stay). x.task) o.2 ∙ c.2))
      (⊎_elim
      (λ (q : o.0 < k). other_before o.0 k s q l (other s) (ap (λ (x : Stay). x.task) o.2 ∙ c.2))
      (λ (q : k < o.0). rest o.0 s q o.1 (ap (λ (x : Stay). x.element) o.2 ∙ c.3)))
      (cases_order o.0 k)

  -- no stay of the element
  pub none_known : ((m : ℕ) (d : Stay) → m < length stays → (get_or stays m d).element ≡ e → ⊥) → IsNew trace n z.task e
  none_known rest j r below h = let c = a.complete j z.task e r below h in let o = c.1 in rest o.0 c.0 o.1 (ap (λ (x : Stay). x.element) o.2 ∙ c.3)

  -- whatever was handled is handled before or here
  last_or : (j t f : ℕ) (r : NamedSegment) → j < n + 1 → HandlesAt by_number trace t f j r → (j < n) ⊎ ((j ≡ n) × (t ≡ z.task) × (f ≡ e))
  last_or j t f r l h = ⊎_elim
      (λ (b : j < n). inl b)
      (λ (b : n ≤ j). let same : j ≡ n = omega arith in let p = parts_at trace j n t z.task f e r z h here same in inr (same, p.0, p.1))
      (cases_lt j n)

  here_as : (t f : ℕ) → t ≡ z.task → f ≡ e → HandlesAt by_number trace t f n z
  here_as t f p q = record { segment = here.segment; task = sym p; element = here.element ∙ ap Some (sym q) }

  -- ---- its stay goes on

  module _ (i : ℕ) (known : IsKnown stays z.task e i) (y : Stay) (at : y ≡ get_or stays i y) where
    abbrev v : Stay
    v = record { task = y.task; element = y.element; begin = y.begin; first = y.first; end = n; last = z }

    abbrev longer : List Stay
    longer = slice_set stays i v

    task_is : y.task ≡ z.task
    task_is = ap (λ (s : Stay). s.task) at ∙ known.task y

    element_is : y.element ≡ e
    element_is = ap (λ (s : Stay). s.element) at ∙ known.element y

    as_long : length longer ≡ length stays
    as_long = length-set stays i v

    at_i : (d : Stay) → get_or longer i d ≡ v
    at_i d = get_or-set_same stays i v d known.within

    at_other : (m : ℕ) (d : Stay) → (m ≡ i → ⊥) → get_or longer m d ≡ get_or stays m d
    at_other m d ne = get_or-set_other stays i m v d ne

    y_at : (d : Stay) → get_or stays i d ≡ y
    y_at d = get_or_default stays i d y known.within ∙ sym at

    same_task : (m : ℕ) (d : Stay) → (get_or longer m d).task ≡ (get_or stays m d).task
    same_task m d = ⊎_elim
        (λ (h : m ≡ i). ap (λ (k : ℕ). (get_or longer k d).task) h ∙ ap (λ (s : Stay). s.task) (at_i d) ∙ sym (ap (λ (s : Stay). s.task) (y_at d)) ∙ ap (λ (k : ℕ). (get_or stays k d).task) (sym h))
        (λ (h : m ≡ i → ⊥). ap (λ (s : Stay). s.task) (at_other m d h))
        (cases_eq m i)

    same_element : (m : ℕ) (d : Stay) → (get_or longer m d).element ≡ (get_or stays m d).element
    same_element m d = ⊎_elim
        (λ (h : m ≡ i). ap (λ (k : ℕ). (get_or longer k d).element) h ∙ ap (λ (s : Stay). s.element) (at_i d) ∙ sym (ap (λ (s : Stay). s.element) (y_at d)) ∙ ap (λ (k : ℕ). (get_or stays k d).element) (sym h))
        (λ (h : m ≡ i → ⊥). ap (λ (s : Stay). s.element) (at_other m d h))
        (cases_eq m i)

    same_begin : (m : ℕ) (d : Stay) → (get_or longer m d).begin ≡ (get_or stays m d).begin
    same_begin m d = ⊎_elim
        (λ (h : m ≡ i). ap (λ (k : ℕ). (get_or longer k d).begin) h ∙ ap (λ (s : Stay). s.begin) (at_i d) ∙ sym (ap (λ (s : Stay). s.begin) (y_at d)) ∙ ap (λ (k : ℕ). (get_or stays k d).begin) (sym h))
        (λ (h : m ≡ i → ⊥). ap (λ (s : Stay). s.begin) (at_other m d h))
        (cases_eq m i)

    stay_v : IsStay trace (n + 1) v
    stay_v = let old : IsStay trace n y = subst (IsStay trace n) (sym at) (a.sound i y known.within) in record {
      starts = old.starts;
      handles = here_as y.task y.element task_is element_is;
      within = omega arith;
      last = λ j r l h. omega arith;
    }

    other_stay : (m : ℕ) (d : Stay) → m < length stays → (m ≡ i → ⊥) → IsStay trace (n + 1) (get_or stays m d)
    other_stay m d l ne = let s = get_or stays m d in stay_keep trace n s (a.sound m d l)
        (λ r h. let p = parts_at trace n n s.task z.task s.element e r z h here refl in ne (a.differ m i d l known.within (p.0 ∙ sym (known.task d)) (p.1 ∙ sym (known.element d))))

    v_there : Contains longer v
    v_there = (i, subst (λ (k : ℕ). i < k) (sym as_long) known.within, at_i v)

    pub stays_longer : AreStays trace (n + 1) longer
    stays_longer = record {
      sound = λ m d l. let l' : m < length stays = subst (λ (k : ℕ). m < k) as_long l in ⊎_elim
          (λ (h : m ≡ i). subst (IsStay trace (n + 1)) (sym (ap (λ (k : ℕ). get_or longer k d) h ∙ at_i d)) stay_v)
          (λ (h : m ≡ i → ⊥). subst (IsStay trace (n + 1)) (sym (at_other m d h)) (other_stay m d l' h))
          (cases_eq m i);
      complete = λ j t f r l h. ⊎_elim
          (λ (b : j < n). let c = a.complete j t f r b h in let s : Stay = c.0 in let o = c.1 in ⊎_elim
          (λ (q : o.0 ≡ i). let p : y ≡ s = sym (y_at s) ∙ ap (λ (k : ℕ). get_or stays k s) (sym q) ∙ o.2 in (v, v_there, ap (λ (s : Stay). s.task) p ∙ c.2, ap (λ (s : Stay). s.element) p ∙ c.3))
          (λ (q : o.0 ≡ i → ⊥). (s, (o.0, subst (λ (k : ℕ). o.0 < k) (sym as_long) o.1, at_other o.0 s q ∙ o.2), c.2, c.3))
          (cases_eq o.0 i))
          (λ (b : (j ≡ n) × (t ≡ z.task) × (f ≡ e)). (v, v_there, task_is ∙ sym b.1, element_is ∙ sym b.2))
          (last_or j t f r l h);
      differ = λ k m d l o p q. a.differ k m d (subst (λ (i : ℕ). k < i) as_long l) (subst (λ (i : ℕ). m < i) as_long o)
          (sym (same_task k d) ∙ p ∙ same_task m d) (sym (same_element k d) ∙ q ∙ same_element m d);
      rise = λ k m d l h. let old : (get_or stays k d).begin < (get_or stays m d).begin = a.rise k m d l (subst (λ (i : ℕ). m < i) as_long h) in let p = same_begin k d in let q = same_begin m d in omega arith;
    }

  -- ---- a stay begins

  module _ (new : IsNew trace n z.task e) where
    abbrev s : Stay
    s = record { task = z.task; element = e; begin = n; first = z; end = n; last = z }

    abbrev grown : List Stay
    grown = stays ++ s ∷ []

    wide : length grown ≡ length stays + 1
    wide = length-append stays (s ∷ [])

    before : (m : ℕ) (d : Stay) → m < length stays → get_or grown m d ≡ get_or stays m d
    before m d l = get_or_append_left stays (s ∷ []) d m l

    behind : (m : ℕ) (d : Stay) → m ≡ length stays → get_or grown m d ≡ s
    behind m d h = let none : m - length stays ≡ 0 = omega arith in get_or-append_right stays (s ∷ []) (length stays) m d refl (omega arith) ∙ ap (λ (i : ℕ). get_or (s ∷ []) i d) none

    -- no stay so far is of the task and the element
    none_of : (m : ℕ) (d : Stay) → m < length stays → (get_or stays m d).task ≡ z.task → (get_or stays m d).element ≡ e → ⊥
    none_of m d l p q = let y : Stay = get_or stays m d in let o : IsStay trace n y = a.sound m d l in let h = o.handles in
        new y.end y.last o.within (record { segment = h.segment; task = h.task ∙ p; element = h.element ∙ ap Some q })

    stay_s : IsStay trace (n + 1) s
    stay_s = record {
      starts = record {
        handles = here;
        first = λ j r h. ⊎_elim (λ (b : j < n). absurd (new j r b h)) (λ (b : n ≤ j). b) (cases_lt j n);
      };
      handles = here;
      within = omega arith;
      last = λ j r l h. omega arith;
    }

    old_stay : (m : ℕ) (d : Stay) → m < length stays → IsStay trace (n + 1) (get_or stays m d)
    old_stay m d l = let y : Stay = get_or stays m d in stay_keep trace n y (a.sound m d l)
        (λ r h. let p = parts_at trace n n y.task z.task y.element e r z h here refl in none_of m d l p.0 p.1)

    differ_here : (k m : ℕ) (d : Stay) → k < length stays → m ≡ length stays → (get_or grown k d).task ≡ (get_or grown m d).task → (get_or grown k d).element ≡ (get_or grown m d).element → ⊥
    differ_here k m d l h p q = none_of k d l
        (ap (λ (y : Stay). y.task) (sym (before k d l)) ∙ p ∙ ap (λ (y : Stay). y.task) (behind m d h))
        (ap (λ (y : Stay). y.element) (sym (before k d l)) ∙ q ∙ ap (λ (y : Stay). y.element) (behind m d h))

    differ_grown : StaysDiffer grown
    differ_grown k m d l o p q = ⊎_elim
        (λ (x : k < length stays). ⊎_elim
        (λ (y : m < length stays). a.differ k m d x y
        (ap (λ (r : Stay). r.task) (sym (before k d x)) ∙ p ∙ ap (λ (r : Stay). r.task) (before m d y))
        (ap (λ (r : Stay). r.element) (sym (before k d x)) ∙ q ∙ ap (λ (r : Stay). r.element) (before m d y)))
        (λ (y : length stays ≤ m). absurd (differ_here k m d x (omega (arith, wide)) p q))
        (cases_lt m (length stays)))
        (λ (x : length stays ≤ k). ⊎_elim
        (λ (y : m < length stays). absurd (differ_here m k d y (omega (arith, wide)) (sym p) (sym q)))
        (λ (y : length stays ≤ m). omega (arith, wide))
        (cases_lt m (length stays)))
        (cases_lt k (length stays))

    pub stays_grown : AreStays trace (n + 1) grown
    stays_grown = record {
      sound = λ m d l. ⊎_elim
          (λ (b : m < length stays). subst (IsStay trace (n + 1)) (sym (before m d b)) (old_stay m d b))
          (λ (b : length stays ≤ m). subst (IsStay trace (n + 1)) (sym (behind m d (omega (arith, wide)))) stay_s)
          (cases_lt m (length stays));
      complete = λ j t f r l h. ⊎_elim
          (λ (b : j < n). let c = a.complete j t f r b h in (c.0, Contains-append_left stays (s ∷ []) c.0 c.1, c.2, c.3))
          (λ (b : (j ≡ n) × (t ≡ z.task) × (f ≡ e)). (s, Contains-push stays s, sym b.1, sym b.2))
          (last_or j t f r l h);
      differ = differ_grown;
      rise = all_pairs_push (λ (x y : Stay). x.begin < y.begin) stays s a.rise (λ k d h. begins_before k d h);
    }
