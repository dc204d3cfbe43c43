-- What the meetings of two tasks say of the two, and what the row then clears.
use Rattle.std.proofs.Common.{◌≡◌, ℕ, zero, ◌<◌, Bool, true, not, ◌&&◌, ◌||◌, ◌==◌, nat_lt, List, [], ◌∷◌, length, slice_get, Some, refl, sym, ap, ◌∙◌, subst, ⊎_elim, inl, inr, arith}
use Rattle.std.proofs.lemmas.Bool.{and_parts, and_from, or_cases, or_left, or_right, eq-eqb, lt-ltb, ltb-true, false≢true, not_from_false, ne_eqb}
use Rattle.std.proofs.lemmas.Option.{slice_get_within}
use Rattle.std.specs.List.{Contains, list_any}
use Rattle.hypothesis_index.specs.Places.{place_of}
use Rattle.hypothesis_index.specs.Refuting.{IsPlaceOfSome, RefutesTasks}
use Rattle.hypothesis_index.specs.declared.relation.Relation.{Relation}
use Rattle.hypothesis_index.specs.declared.relation.Relation.TheVariants.{Before, Exclusive, Apart, Pipe, Unshared}
use Rattle.refute_tests.proofs.ExactLemmas.{early_means, early_from, at_means}
use Rattle.pipeline_tests.specs.declared.groups.TaskStays.{TaskStays}
use Rattle.pipeline_tests.specs.declared.stays.Stay.{Stay}
use Rattle.pipeline_tests.specs.inner.Groups.{IsGroup}
use Rattle.pipeline_tests.specs.inner.Meetings.{AreMeetings, Meeting, takes_early, turned, turns}
use Rattle.pipeline_tests.specs.inner.Pairs.{IsBetween, pair_hits}
use Rattle.pipeline_tests.specs.inner.Stays.{IsStay, ElementsDiffer}
use Rattle.pipeline_tests.proofs.MeetingLemmas.{some_meeting, by_meeting}
use Rattle.refute_tests.specs.Clearing.{AddsExactly, is_at}
use Rattle.trace_types.specs.Parts.{by_number}
use Rattle.trace_types.specs.Pipelines.{HandlesAt, StartsAt, EndsAt, TakesUnfinished, TakesOutOfOrder, RefutesUnshared}
use Rattle.trace_types.specs.Refuting.{StartsEarly}
use Rattle.trace_types.specs.declared.named_segment.NamedSegment.{NamedSegment}
use Rattle.trace_types.specs.declared.named_trace.NamedTrace.{NamedTrace}
use Rattle.word_rows.specs.Rows.{clears}
use Rattle.word_rows.specs.declared.entries.Entry.{Entry}

-- ---- tests and what they mean

-- ---- where a stay begins and ends

one_of : (a b : NamedSegment) → Some a ≡ Some b → a ≡ b
one_of a b h = cc

same_segment : (trace : NamedTrace) (k l : ℕ) (s r : NamedSegment) → slice_get trace.segments k ≡ Some s → slice_get trace.segments l ≡ Some r → k ≡ l → s ≡ r
same_segment trace k l s r h g e = one_of s r (sym h ∙ ap (λ (i : ℕ). slice_get trace.segments i) e ∙ g)

module _ (trace : NamedTrace) (t e : ℕ) where
  one_start : (k l : ℕ) (s r : NamedSegment) → StartsAt by_number trace t e k s → StartsAt by_number trace t e l r → (k ≡ l) × (s ≡ r)
  one_start k l s r f g = let a = f.first l r g.handles in let b = g.first k s f.handles in let same : k ≡ l = omega arith in (same, same_segment trace k l s r f.handles.segment g.handles.segment same)

  one_end : (k l : ℕ) (s r : NamedSegment) → EndsAt by_number trace t e k s → EndsAt by_number trace t e l r → (k ≡ l) × (s ≡ r)
  one_end k l s r f g = let a = f.last l r g.handles in let b = g.last k s f.handles in let same : k ≡ l = omega arith in (same, same_segment trace k l s r f.handles.segment g.handles.segment same)

-- it is a stay of the task in the whole trace
pub record IsIn (trace : NamedTrace) (t : ℕ) (s : Stay) : Type 0 where
  pub stay : IsStay trace (length trace.segments) s
  pub task : s.task ≡ t

starts_as : (trace : NamedTrace) (t e : ℕ) (s : Stay) → IsIn trace t s → s.element ≡ e → StartsAt by_number trace t e s.begin s.first
starts_as trace t e s i h = subst (λ (u : ℕ). StartsAt by_number trace u e s.begin s.first) i.task (subst (λ (f : ℕ). StartsAt by_number trace s.task f s.begin s.first) h i.stay.starts)

ends_as : (trace : NamedTrace) (t e : ℕ) (s : Stay) → IsIn trace t s → s.element ≡ e → EndsAt by_number trace t e s.end s.last
ends_as trace t e s i h = subst (λ (u : ℕ). EndsAt by_number trace u e s.end s.last) i.task (subst (λ (f : ℕ). EndsAt by_number trace s.task f s.end s.last) h own)
  where
    own : EndsAt by_number trace s.task s.element s.end s.last
    own = record { handles = i.stay.handles; last = λ j r g. i.stay.last j r (slice_get_within trace.segments j r g.segment) g }

-- no two stays of a task are of one element
pub elements_differ : (trace : NamedTrace) (g : TaskStays) → IsGroup trace g → ElementsDiffer g.stays.now
elements_differ trace g i s t c d e =
    let a : IsIn trace g.task s = record { stay = i.stays s c; task = i.own s c } in
    let b : IsIn trace g.task t = record { stay = i.stays t d; task = i.own t d } in
    let p = one_start trace g.task t.element s.begin t.begin s.first t.first (starts_as trace g.task t.element s a e) (starts_as trace g.task t.element t b refl) in
    let q = one_end trace g.task t.element s.end t.end s.last t.last (ends_as trace g.task t.element s a e) (ends_as trace g.task t.element t b refl) in
    let same : s.task ≡ t.task = a.task ∙ sym b.task in
    λ j. record { task = same j; element = e j; begin = p.0 j; first = p.1 j; end = q.0 j; last = q.1 j }

-- ---- the meetings of two tasks, from the one's side

-- each meeting has a stay of either task with one element, and each such element a meeting
pub record Join (trace : NamedTrace) (t u : ℕ) (met : List Meeting) (one other : Meeting → Stay) : Type 0 where
  pub one_in : (m : Meeting) → Contains met m → IsIn trace t (one m)
  pub other_in : (m : Meeting) → Contains met m → IsIn trace u (other m)
  pub same : (m : Meeting) → Contains met m → (one m).element ≡ (other m).element
  pub all : (e j k : ℕ) (s r : NamedSegment) → HandlesAt by_number trace t e j s → HandlesAt by_number trace u e k r → (m : Meeting) × Contains met m × ((one m).element ≡ e)

module _ (trace : NamedTrace) (t u : ℕ) (met : List Meeting) (one other : Meeting → Stay) (j : Join trace t u met one other) where
  abbrev hurries : Meeting → Bool
  hurries m = takes_early trace.grace (one m) (other m)

  unfinished_from : list_any hurries met ≡ true → TakesUnfinished by_number t u trace
  unfinished_from h = let a = some_meeting hurries met h in let m = a.0 in record {
    element = (one m).element;
    giver = (one m).end;
    taker = (other m).begin;
    given = (one m).last;
    taken = (other m).first;
    ends = ends_as trace t (one m).element (one m) (j.one_in m a.1) refl;
    starts = starts_as trace u (one m).element (other m) (j.other_in m a.1) (sym (j.same m a.1));
    early = early_means trace (one m).last (other m).first a.2;
  }

  unfinished_to : TakesUnfinished by_number t u trace → list_any hurries met ≡ true
  unfinished_to x =
      let a = j.all x.element x.giver x.taker x.given x.taken x.ends.handles x.starts.handles in
      let m = a.0 in
      let p = one_end trace t x.element x.giver (one m).end x.given (one m).last x.ends (ends_as trace t x.element (one m) (j.one_in m a.1) a.2) in
      let q = one_start trace u x.element x.taker (other m).begin x.taken (other m).first x.starts (starts_as trace u x.element (other m) (j.other_in m a.1) (sym (j.same m a.1) ∙ a.2)) in
      by_meeting hurries met m a.1 (early_from trace (one m).last (other m).first
      (subst (λ (s : NamedSegment). StartsEarly by_number trace s (one m).last) q.1 (subst (λ (s : NamedSegment). StartsEarly by_number trace x.taken s) p.1 x.early)))

-- ---- both tasks

module _ (trace : NamedTrace) (t u : ℕ) (met : List Meeting) (j : Join trace t u met (λ m. m.low) (λ m. m.high)) where
  order_from : turns met ≡ true → TakesOutOfOrder by_number t u trace
  order_from h =
      let a = some_meeting (λ (m : Meeting). list_any (λ (n : Meeting). turned m n) met) met h in
      let m = a.0 in
      let b = some_meeting (λ (n : Meeting). turned m n) met a.2 in
      let n = b.0 in
      let w = and_parts (nat_lt m.low.begin n.low.begin) (nat_lt n.high.begin m.high.begin) b.2 in
      record {
        one = m.low.element;
        other = n.low.element;
        in_order = record {
          earlier = m.low.begin;
          later = n.low.begin;
          s = m.low.first;
          r = n.low.first;
          first = starts_as trace t m.low.element m.low (j.one_in m a.1) refl;
          second = starts_as trace t n.low.element n.low (j.one_in n b.1) refl;
          order = ltb-true m.low.begin n.low.begin w.0;
        };
        turned = record {
          earlier = n.high.begin;
          later = m.high.begin;
          s = n.high.first;
          r = m.high.first;
          first = starts_as trace u n.low.element n.high (j.other_in n b.1) (sym (j.same n b.1));
          second = starts_as trace u m.low.element m.high (j.other_in m a.1) (sym (j.same m a.1));
          order = ltb-true n.high.begin m.high.begin w.1;
        };
      }

  order_to : TakesOutOfOrder by_number t u trace → turns met ≡ true
  order_to x =
      let a = x.in_order in
      let b = x.turned in
      let p = j.all x.one a.earlier b.later a.s b.r a.first.handles b.second.handles in
      let q = j.all x.other a.later b.earlier a.r b.s a.second.handles b.first.handles in
      let m = p.0 in
      let n = q.0 in
      let ml = (one_start trace t x.one a.earlier m.low.begin a.s m.low.first a.first (starts_as trace t x.one m.low (j.one_in m p.1) p.2)).0 in
      let nl = (one_start trace t x.other a.later n.low.begin a.r n.low.first a.second (starts_as trace t x.other n.low (j.one_in n q.1) q.2)).0 in
      let mh = (one_start trace u x.one b.later m.high.begin b.r m.high.first b.second (starts_as trace u x.one m.high (j.other_in m p.1) (sym (j.same m p.1) ∙ p.2))).0 in
      let nh = (one_start trace u x.other b.earlier n.high.begin b.s n.high.first b.first (starts_as trace u x.other n.high (j.other_in n q.1) (sym (j.same n q.1) ∙ q.2))).0 in
      let up = a.order in
      let down = b.order in
      by_meeting (λ (m : Meeting). list_any (λ (n : Meeting). turned m n) met) met m p.1
      (by_meeting (λ (n : Meeting). turned m n) met n q.1
      (and_from (nat_lt m.low.begin n.low.begin) (nat_lt n.high.begin m.high.begin) (lt-ltb m.low.begin n.low.begin (omega arith)) (lt-ltb n.high.begin m.high.begin (omega arith))))

  shared_from : not (length met == 0) ≡ true → RefutesUnshared by_number t u trace
  shared_from h = let m = first_of met h in let a = starts_as trace t m.0.low.element m.0.low (j.one_in m.0 m.1) refl in let b = starts_as trace u m.0.low.element m.0.high (j.other_in m.0 m.1) (sym (j.same m.0 m.1)) in record {
    element = m.0.low.element;
    k = m.0.low.begin;
    l = m.0.high.begin;
    s = m.0.low.first;
    r = m.0.high.first;
    one = a.handles;
    other = b.handles;
  }
    where
      first_of : (met : List Meeting) → not (length met == 0) ≡ true → (m : Meeting) × Contains met m
      first_of [] h = absurd (false≢true h)
      first_of (m ∷ ms) h = (m, (zero, omega arith, refl))

  shared_to : RefutesUnshared by_number t u trace → not (length met == 0) ≡ true
  shared_to x = let a = j.all x.element x.k x.l x.s x.r x.one x.other in let l : a.1.0 < length met = a.1.1 in not_from_false (length met == 0) (ne_eqb (length met) 0 (λ h. omega arith))

-- the order of the two tasks does not matter
order_turned : (trace : NamedTrace) (t u : ℕ) → TakesOutOfOrder by_number t u trace → TakesOutOfOrder by_number u t trace
order_turned trace t u x = record { one = x.other; other = x.one; in_order = x.turned; turned = x.in_order }

-- ---- the row

at_from : (r s : Relation) (i b : ℕ) → r ≡ s → place_of r ≡ record { word = i; bit = b } → is_at s i b ≡ true
at_from r s i b e g = let h : place_of s ≡ record { word = i; bit = b } = ap place_of (sym e) ∙ g in and_from _ _ (eq-eqb (place_of s).word i (λ k. (h k).word)) (eq-eqb (place_of s).bit b (λ k. (h k).bit))

module _ (trace : NamedTrace) (low high : TaskStays) (g : IsGroup trace low) (h : IsGroup trace high) (rises : low.task < high.task) (met : List Meeting) (m : AreMeetings low.stays.now high.stays.now met) where
  abbrev Both : Relation → Type 0
  Both r = IsBetween low.task high.task r × RefutesTasks r trace

  low_in : (x : Meeting) → Contains met x → IsIn trace low.task x.low
  low_in x c = record { stay = g.stays x.low (m.lows x c); task = g.own x.low (m.lows x c) }

  high_in : (x : Meeting) → Contains met x → IsIn trace high.task x.high
  high_in x c = record { stay = h.stays x.high (m.highs x c); task = h.own x.high (m.highs x c) }

  meet : (e j k : ℕ) (s r : NamedSegment) → HandlesAt by_number trace low.task e j s → HandlesAt by_number trace high.task e k r → (x : Meeting) × Contains met x × (x.low.element ≡ e) × (x.high.element ≡ e)
  meet e j k s r p q = let a = g.complete e j s p in let b = h.complete e k r q in (record { low = a.0; high = b.0 }, m.complete a.0 b.0 a.1 b.1 (a.2 ∙ sym b.2), a.2, b.2)

  up : Join trace low.task high.task met (λ m. m.low) (λ m. m.high)
  up = record {
    one_in = low_in;
    other_in = high_in;
    same = m.same;
    all = λ e j k s r p q. let x = meet e j k s r p q in (x.0, x.1, x.2);
  }

  down : Join trace high.task low.task met (λ m. m.high) (λ m. m.low)
  down = record {
    one_in = high_in;
    other_in = low_in;
    same = λ x c. sym (m.same x c);
    all = λ e j k s r p q. let x = meet e k j r s q p in (x.0, x.1, x.3);
  }

  small_low : low.task < 64
  small_low = let l = h.small in omega arith

  -- whether each of the three is refuted
  abbrev upward : Bool
  upward = list_any (λ (m : Meeting). takes_early trace.grace m.low m.high) met || turns met

  abbrev downward : Bool
  downward = list_any (λ (m : Meeting). takes_early trace.grace m.high m.low) met || turns met

  abbrev shared : Bool
  shared = not (length met == 0)

  upward_from : upward ≡ true → RefutesTasks (Pipe low.task high.task) trace
  upward_from h = ⊎_elim
      (λ (o : list_any (λ (m : Meeting). takes_early trace.grace m.low m.high) met ≡ true). inl (unfinished_from trace low.task high.task met (λ m. m.low) (λ m. m.high) up o))
      (λ (o : turns met ≡ true). inr (order_from trace low.task high.task met up o))
      (or_cases (list_any (λ (m : Meeting). takes_early trace.grace m.low m.high) met) (turns met) h)

  upward_to : RefutesTasks (Pipe low.task high.task) trace → upward ≡ true
  upward_to (inl o) = or_left (list_any (λ (m : Meeting). takes_early trace.grace m.low m.high) met) (turns met) (unfinished_to trace low.task high.task met (λ m. m.low) (λ m. m.high) up o)
  upward_to (inr o) = or_right (list_any (λ (m : Meeting). takes_early trace.grace m.low m.high) met) (turns met) (order_to trace low.task high.task met up o)

  downward_from : downward ≡ true → RefutesTasks (Pipe high.task low.task) trace
  downward_from h = ⊎_elim
      (λ (o : list_any (λ (m : Meeting). takes_early trace.grace m.high m.low) met ≡ true). inl (unfinished_from trace high.task low.task met (λ m. m.high) (λ m. m.low) down o))
      (λ (o : turns met ≡ true). inr (order_turned trace low.task high.task (order_from trace low.task high.task met up o)))
      (or_cases (list_any (λ (m : Meeting). takes_early trace.grace m.high m.low) met) (turns met) h)

  downward_to : RefutesTasks (Pipe high.task low.task) trace → downward ≡ true
  downward_to (inl o) = or_left (list_any (λ (m : Meeting). takes_early trace.grace m.high m.low) met) (turns met) (unfinished_to trace high.task low.task met (λ m. m.high) (λ m. m.low) down o)
  downward_to (inr o) = or_right (list_any (λ (m : Meeting). takes_early trace.grace m.high m.low) met) (turns met) (order_to trace low.task high.task met up (order_turned trace high.task low.task o))

  abbrev one : ℕ → ℕ → Bool
  one i b = upward && is_at (Pipe low.task high.task) i b

  abbrev two : ℕ → ℕ → Bool
  two i b = downward && is_at (Pipe high.task low.task) i b

  abbrev three : ℕ → ℕ → Bool
  three i b = shared && is_at (Unshared low.task high.task) i b

  found : (i b : ℕ) → pair_hits trace.grace met low.task high.task i b ≡ true → IsPlaceOfSome Both i b
  found i b hit = ⊎_elim
      (λ (p : (one i b || two i b) ≡ true). ⊎_elim
      (λ (q : one i b ≡ true). let d = and_parts upward (is_at (Pipe low.task high.task) i b) q in
      let r : IsPlaceOfSome Both i b = (Pipe low.task high.task, ((λ e. omega arith), small_low, h.small), at_means (Pipe low.task high.task) i b d.1, (inl (refl, refl), upward_from d.0)) in r)
      (λ (q : two i b ≡ true). let d = and_parts downward (is_at (Pipe high.task low.task) i b) q in
      let r : IsPlaceOfSome Both i b = (Pipe high.task low.task, ((λ e. omega arith), h.small, small_low), at_means (Pipe high.task low.task) i b d.1, (inr (refl, refl), downward_from d.0)) in r)
      (or_cases (one i b) (two i b) p))
      (λ (p : three i b ≡ true). let d = and_parts shared (is_at (Unshared low.task high.task) i b) p in
      let r : IsPlaceOfSome Both i b = (Unshared low.task high.task, (rises, h.small), at_means (Unshared low.task high.task) i b d.1, ((refl, refl), shared_from trace low.task high.task met up d.0)) in r)
      (or_cases (one i b || two i b) (three i b) hit)

  hit : (i b : ℕ) (r : Relation) → place_of r ≡ record { word = i; bit = b } → IsBetween low.task high.task r → RefutesTasks r trace → pair_hits trace.grace met low.task high.task i b ≡ true
  hit i b (Pipe t u) e (inl p) f =
      let same : Pipe t u ≡ Pipe low.task high.task = λ k. Pipe (p.0 k) (p.1 k) in
      or_left (one i b || two i b) (three i b) (or_left (one i b) (two i b) (and_from upward (is_at (Pipe low.task high.task) i b) (upward_to (subst (λ (r : Relation). RefutesTasks r trace) same f)) (at_from (Pipe t u) (Pipe low.task high.task) i b same e)))
  hit i b (Pipe t u) e (inr p) f =
      let same : Pipe t u ≡ Pipe high.task low.task = λ k. Pipe (p.0 k) (p.1 k) in
      or_left (one i b || two i b) (three i b) (or_right (one i b) (two i b) (and_from downward (is_at (Pipe high.task low.task) i b) (downward_to (subst (λ (r : Relation). RefutesTasks r trace) same f)) (at_from (Pipe t u) (Pipe high.task low.task) i b same e)))
  hit i b (Unshared t u) e p f =
      let same : Unshared t u ≡ Unshared low.task high.task = λ k. Unshared (p.0 k) (p.1 k) in
      or_right (one i b || two i b) (three i b) (and_from shared (is_at (Unshared low.task high.task) i b) (shared_to trace low.task high.task met up (subst (λ (r : Relation). RefutesTasks r trace) same f)) (at_from (Unshared t u) (Unshared low.task high.task) i b same e))
  hit i b (Before t u) e p f = absurd p
  hit i b (Exclusive t u) e p f = absurd p
  hit i b (Apart t u) e p f = absurd p

  pub pair_exact : (old new : List Entry) → ((i b : ℕ) → clears new i b ≡ (clears old i b || pair_hits trace.grace met low.task high.task i b)) → AddsExactly old Both new
  pair_exact old new cleared i b = (
    (λ c. ⊎_elim (λ (o : clears old i b ≡ true). inl o) (λ (o : pair_hits trace.grace met low.task high.task i b ≡ true). inr (found i b o)) (or_cases _ _ (sym (cleared i b) ∙ c))),
    (λ p. cleared i b ∙ ⊎_elim
        (λ (o : clears old i b ≡ true). or_left (clears old i b) (pair_hits trace.grace met low.task high.task i b) o)
        (λ (o : IsPlaceOfSome Both i b). or_right (clears old i b) (pair_hits trace.grace met low.task high.task i b) (hit i b o.0 o.2 o.3.0 o.3.1))
        p),
  )
