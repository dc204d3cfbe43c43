-- A trace of one machine in thousandfold times is cut alike.
use Rattle.std.proofs.Common.{◌≡◌, ℕ, ◌*◌, ◌<◌, ◌≤◌, ℤ, pos, ◌-ℤ◌, ◌*ℤ◌, ◌≤ℤ◌, Option, Some, None, List, [], ◌∷◌, length, get_or, All, Contains, arith, refl, sym, ap, ◌∙◌, subst, inl, inr}
use Rattle.std.specs.List.{AllPairs, AllZip}
use Rattle.std.proofs.lemmas.Int.{ints}
use Rattle.std.proofs.lemmas.List.{length-map, get_or-map, get_or_default}
use Rattle.std.proofs.lemmas.List.Elements.{All-head, All-tail, All-get_or, All-from_get_or, All-contains}
use Rattle.trace_types.specs.declared.event.Event.{Event}
use Rattle.trace_types.specs.declared.segment.Segment.{Segment}
use Rattle.trace_types.specs.declared.trace.Trace.{Trace}
use Rattle.clock_offsets.specs.Machines.{IsReference}
use Rattle.trace_types.specs.Events.{machine_at, task_at, event_name_at, time_at, named_events}
use Rattle.clock_offsets.specs.Offsets.{adjusted_time}
use Rattle.trace_types.specs.Repeats.{AreDistinct}
use Rattle.trace_types.proofs.ListingLemmas.{one_list}
use Rattle.segment_cut.specs.AdjustedTimes.{AreAdjustedTimes, HasAdjustedTime, adjusted_at, IsInClockRange}
use Rattle.segment_cut.specs.Neighbours.{AreNeighbours, IsListedBefore, AreAllNeighbours, IsEarlierTime}
use Rattle.segment_cut.specs.Cutting.{most_events, IsValid, IsSpan, IsSegment, IsCut}
use Rattle.segment_cut.specs.Elements.{HasElement}
use Rattle.segment_cut.specs.Scaling.{AreOfOneMachine, AreTimelyMicroseconds, AreThousandfold, IsThousandfold, IsTraceThousandfold}
use Rattle.segment_cut.proofs.RepeatLemmas.{no_event, named_at}
use Rattle.segment_cut.proofs.VerdictLemmas.{HaveOneOffset, listed_asym}
use Rattle.segment_cut.proofs.UniqueListLemmas.{one_element}

reference_is : (events : List Event) → 0 < length events → IsReference events (machine_at events 0)
reference_is [] lt = absurd (omega arith)
reference_is (e ∷ es) lt = refl

-- where all events are of one machine, no time is adjusted_time
own_time : HaveOneOffset → (events : List Event) (k : ℕ) (t : ℤ) → AreOfOneMachine events → k < length events → HasAdjustedTime events k t → t ≡ pos (time_at events k)
own_time unique events k t one lt (o, offset, is) =
    let first : IsReference events (machine_at events k) = subst (λ (m : List ℕ). IsReference events m) (one 0 k (omega arith) lt) (reference_is events (omega arith)) in
    let none : o ≡ pos 0 = unique events (machine_at events k) o (pos 0) offset (inl (0, (first, refl))) in
    is ∙ (ap (λ (x : ℤ). adjusted_time (time_at events k) x) none ∙ omega (arith, ints))

module _ (unique : HaveOneOffset) (events scaled : List Event) (times more : List ℤ) (one : AreOfOneMachine events) (s : AreThousandfold events scaled) (a : AreAdjustedTimes events times) (b : AreAdjustedTimes scaled more) where
  same_length : length scaled ≡ length events
  same_length = sym (length-map scaled (λ (e : Event). e.task)) ∙ (ap (λ (ts : List (List ℕ)). length ts) s.tasks ∙ length-map events (λ (e : Event). e.task))

  task_same : (k : ℕ) → task_at scaled k ≡ task_at events k
  task_same k = ap (λ (ts : List (List ℕ)). get_or ts k []) s.tasks

  name_same : (k : ℕ) → event_name_at scaled k ≡ event_name_at events k
  name_same k = ap (λ (ts : List (List ℕ)). get_or ts k []) s.names

  scaled_one : AreOfOneMachine scaled
  scaled_one j k lj lk =
      let n : length scaled ≡ length events = same_length in
      ap (λ (ms : List (List ℕ)). get_or ms j []) s.machines ∙ (one j k (omega arith) (omega arith) ∙ sym (ap (λ (ms : List (List ℕ)). get_or ms k []) s.machines))

  time_is : (k : ℕ) → k < length events → adjusted_at times k ≡ pos (time_at events k)
  time_is k lt = own_time unique events k (adjusted_at times k) one lt (a.value k lt)

  more_is : (k : ℕ) → k < length events → adjusted_at more k ≡ pos (1000 * time_at events k)
  more_is k lt =
      let n : length scaled ≡ length events = same_length in
      let here : k < length scaled = omega arith in
      own_time unique scaled k (adjusted_at more k) scaled_one here (b.value k here) ∙ ap pos (s.times k lt)

  before_scaled : (i j : ℕ) → i < length events → j < length events → IsEarlierTime times i j → IsEarlierTime more i j
  before_scaled i j li lj h = by h
    where
      by : IsEarlierTime times i j → IsEarlierTime more i j
      by (inl low) = let p = time_is i li in let q = time_is j lj in let u = more_is i li in let v = more_is j lj in inl (omega (arith, ints))
      by (inr tie) = let e : adjusted_at times i ≡ adjusted_at times j = tie.0 in let p = time_is i li in let q = time_is j lj in let u = more_is i li in let v = more_is j lj in inr (omega (arith, ints), tie.1)

  before_back : (i j : ℕ) → i < length events → j < length events → IsEarlierTime more i j → IsEarlierTime times i j
  before_back i j li lj h = by h
    where
      by : IsEarlierTime more i j → IsEarlierTime times i j
      by (inl low) = let p = time_is i li in let q = time_is j lj in let u = more_is i li in let v = more_is j lj in inl (omega (arith, ints))
      by (inr tie) = let e : adjusted_at more i ≡ adjusted_at more j = tie.0 in let p = time_is i li in let q = time_is j lj in let u = more_is i li in let v = more_is j lj in inr (omega (arith, ints), tie.1)

  near_scaled : (i j : ℕ) → AreNeighbours events times i j → AreNeighbours scaled more i j
  near_scaled i j h =
      let n : length scaled ≡ length events = same_length in
      let li : i < length events = h.first in
      let lj : j < length events = h.second in
      record {
        first = omega arith;
        second = omega arith;
        task = task_same i ∙ (h.task ∙ sym (task_same j));
        before = before_scaled i j li lj h.before;
        between = λ k lk same after before. h.between k (omega arith) (sym (task_same k) ∙ (same ∙ task_same i)) (before_back i k li (omega arith) after) (before_back k j (omega arith) lj before);
      }

  near_back : (i j : ℕ) → AreNeighbours scaled more i j → AreNeighbours events times i j
  near_back i j h =
      let n : length scaled ≡ length events = same_length in
      let ki : i < length scaled = h.first in
      let kj : j < length scaled = h.second in
      let li : i < length events = omega arith in
      let lj : j < length events = omega arith in
      record {
        first = li;
        second = lj;
        task = sym (task_same i) ∙ (h.task ∙ task_same j);
        before = before_back i j li lj h.before;
        between = λ k lk same after before. h.between k (omega arith) (task_same k ∙ (same ∙ sym (task_same i))) (before_scaled i k li lk after) (before_scaled k j lk lj before);
      }

  listed_back : (i j : ℕ) → i < length events → j < length events → IsListedBefore scaled more i j → IsListedBefore events times i j
  listed_back i j li lj h = by h
    where
      by : IsListedBefore scaled more i j → IsListedBefore events times i j
      by (inl (f, within, same, none)) = let n : length scaled ≡ length events = same_length in inl (f, omega arith, sym (task_same f) ∙ (same ∙ task_same i), λ k le e. none k le (task_same k ∙ (e ∙ sym (task_same j))))
      by (inr (same, before)) = inr (sym (task_same i) ∙ (same ∙ task_same j), before_back i j li lj before)

  same_pairs : (pairs others : List (ℕ × ℕ)) → AreAllNeighbours events times pairs → AreAllNeighbours scaled more others → pairs ≡ others
  same_pairs pairs others p q = one_list (λ x y. IsListedBefore events times x.0 y.0) (λ x y. listed_asym events times x.0 y.0) pairs others p.order order into back
    where
      near : (k : ℕ) (d : ℕ × ℕ) → k < length others → AreNeighbours events times (get_or others k d).0 (get_or others k d).1
      near k d lt = near_back (get_or others k d).0 (get_or others k d).1 (All-get_or (λ x. AreNeighbours scaled more x.0 x.1) others k d lt q.right)

      order : AllPairs (λ x y. IsListedBefore events times x.0 y.0) others
      order i j d lt within = listed_back (get_or others i d).0 (get_or others j d).0 (near i d (omega arith)).first (near j d within).first (q.order i j d lt within)

      into : (z : ℕ × ℕ) → Contains pairs z → Contains others z
      into z (k, lt, is) = q.all z.0 z.1 (near_scaled z.0 z.1 (subst (λ (x : ℕ × ℕ). AreNeighbours events times x.0 x.1) is (All-get_or (λ x. AreNeighbours events times x.0 x.1) pairs k z lt p.right)))

      back : (z : ℕ × ℕ) → Contains others z → Contains pairs z
      back z (k, lt, is) = p.all z.0 z.1 (subst (λ (x : ℕ × ℕ). AreNeighbours events times x.0 x.1) is (near k z lt))

  scaled_segment : (x : ℕ × ℕ) (u v : Segment) → AreNeighbours events times x.0 x.1 → IsSegment events times x u → IsSegment scaled more x v → IsThousandfold u v
  scaled_segment x u v near p q = record {
    name = ap (λ (t : List ℕ). (t, v.start_event, v.end_event)) (q.task ∙ (task_same x.0 ∙ sym p.task))
        ∙ (ap (λ (t : List ℕ). (u.task, t, v.end_event)) (q.start_event ∙ (name_same x.0 ∙ sym p.start_event)) ∙ ap (λ (t : List ℕ). (u.task, u.start_event, t)) (q.end_event ∙ (name_same x.1 ∙ sym p.end_event)));
    element = one_element (event_name_at events x.0) v.element u.element (subst (λ (n : List ℕ). HasElement n v.element) (name_same x.0) q.element) p.element;
    start = q.start ∙ (more_is x.0 near.first ∙ sym (ap (λ (z : ℤ). pos 1000 *ℤ z) (p.start ∙ time_is x.0 near.first)));
    end = q.end ∙ (more_is x.1 near.second ∙ sym (ap (λ (z : ℤ). pos 1000 *ℤ z) (p.end ∙ time_is x.1 near.second)));
  }

  scaled_segments : (pairs : List (ℕ × ℕ)) (us vs : List Segment) → All (λ x. AreNeighbours events times x.0 x.1) pairs → AllZip (IsSegment events times) pairs us → AllZip (IsSegment scaled more) pairs vs → AllZip IsThousandfold us vs
  scaled_segments [] [] [] n p q = tt
  scaled_segments [] [] (v ∷ vs) n p q = absurd q
  scaled_segments [] (u ∷ us) vs n p q = absurd p
  scaled_segments (x ∷ xs) [] vs n p q = absurd p
  scaled_segments (x ∷ xs) (u ∷ us) [] n p q = absurd q
  scaled_segments (x ∷ xs) (u ∷ us) (v ∷ vs) n p q = (scaled_segment x u v (All-head (λ x. AreNeighbours events times x.0 x.1) x xs n) p.0 q.0, scaled_segments xs us vs (All-tail (λ x. AreNeighbours events times x.0 x.1) x xs n) p.1 q.1)

  -- a time of the one list is at a place, and so is a thousand times it of the other
  time_there : (t : ℤ) → Contains times t → (n : ℕ) × (t ≡ pos n) × Contains more (pos (1000 * n))
  time_there t (k, lt, is) =
      let e : length times ≡ length events = a.each in
      let f : length more ≡ length scaled = b.each in
      let n : length scaled ≡ length events = same_length in
      let within : k < length events = omega arith in
      (time_at events k, sym is ∙ (get_or_default times k t (pos 0) lt ∙ time_is k within), (k, omega arith, get_or_default more k (pos (1000 * time_at events k)) (pos 0) (omega arith) ∙ more_is k within))

  more_there : (t : ℤ) → Contains more t → (n : ℕ) × (t ≡ pos (1000 * n)) × Contains times (pos n)
  more_there t (k, lt, is) =
      let e : length times ≡ length events = a.each in
      let f : length more ≡ length scaled = b.each in
      let n : length scaled ≡ length events = same_length in
      let within : k < length events = omega arith in
      (time_at events k, sym is ∙ (get_or_default more k t (pos 0) lt ∙ more_is k within), (k, omega arith, get_or_default times k (pos (time_at events k)) (pos 0) (omega arith) ∙ time_is k within))

  scaled_span : (n m : ℕ) → IsSpan times n → IsSpan more m → m ≡ 1000 * n
  scaled_span n m p q =
      let g = time_there p.greatest p.some_greatest in
      let l = time_there p.least p.some_least in
      let h = more_there q.greatest q.some_greatest in
      let k = more_there q.least q.some_least in
      let g_is : p.greatest ≡ pos g.0 = g.1 in
      let l_is : p.least ≡ pos l.0 = l.1 in
      let h_is : q.greatest ≡ pos (1000 * h.0) = h.1 in
      let k_is : q.least ≡ pos (1000 * k.0) = k.1 in
      let a1 : pos (1000 * g.0) ≤ℤ q.greatest = All-contains (λ (t : ℤ). t ≤ℤ q.greatest) more (pos (1000 * g.0)) q.none_greater g.2 in
      let a2 : pos h.0 ≤ℤ p.greatest = All-contains (λ (t : ℤ). t ≤ℤ p.greatest) times (pos h.0) p.none_greater h.2 in
      let a3 : q.least ≤ℤ pos (1000 * l.0) = All-contains (λ (t : ℤ). q.least ≤ℤ t) more (pos (1000 * l.0)) q.none_less l.2 in
      let a4 : p.least ≤ℤ pos k.0 = All-contains (λ (t : ℤ). p.least ≤ℤ t) times (pos k.0) p.none_less k.2 in
      let s1 : pos n ≡ p.greatest -ℤ p.least = p.span in
      let s2 : pos m ≡ q.greatest -ℤ q.least = q.span in
      omega (arith, ints)

  named_scaled : AreDistinct (named_events events) → AreDistinct (named_events scaled)
  named_scaled d k (j, key, before, within, kj, kk) =
      let n : length scaled ≡ length events = same_length in
      let ks : k < length scaled = simp length-map at within in
      let js : j < length scaled = omega arith in
      d k (j, key, before, simp length-map (omega arith), moved j js ∙ kj, moved k ks ∙ kk)
    where
      moved : (i : ℕ) → i < length scaled → get_or (named_events events) i None ≡ get_or (named_events scaled) i None
      moved i lt =
          let n : length scaled ≡ length events = same_length in
          named_at events i (omega arith) ∙ (ap (λ (t : List ℕ). Some (t, event_name_at events i)) (sym (task_same i)) ∙ (ap (λ (t : List ℕ). Some (task_at scaled i, t)) (sym (name_same i)) ∙ sym (named_at scaled i lt)))

  range_scaled : AreTimelyMicroseconds events → All IsInClockRange more
  range_scaled early = All-from_get_or IsInClockRange more (pos 0) (λ k lt.
      let f : length more ≡ length scaled = b.each in
      let n : length scaled ≡ length events = same_length in
      let within : k < length events = omega arith in
      let own : time_at events k ≡ (get_or events k no_event).time = get_or-map (λ (e : Event). e.time) events k no_event 0 within in
      let most : (get_or events k no_event).time ≤ 4102444800000000 = All-get_or (λ (e : Event). e.time ≤ 4102444800000000) events k no_event within early in
      let is : get_or more k (pos 0) ≡ pos (1000 * time_at events k) = more_is k within in
      (omega (arith, ints), omega (arith, ints)))

pub cut_alike : HaveOneOffset → (request : List ℕ) (events scaled : List Event) (t u : Trace) → AreOfOneMachine events → AreThousandfold events scaled → IsCut request events t → IsCut request scaled u → IsTraceThousandfold t u
cut_alike unique request events scaled t u one s p q =
    let same : p.segments.pairs ≡ q.segments.pairs = same_pairs unique events scaled p.times q.times one s p.adjusted q.adjusted p.segments.pairs q.segments.pairs p.segments.neighbours q.segments.neighbours in
    record {
      segments = scaled_segments unique events scaled p.times q.times one s p.adjusted q.adjusted p.segments.pairs t.segments u.segments p.segments.neighbours.right p.segments.each (subst (λ (xs : List (ℕ × ℕ)). AllZip (IsSegment scaled q.times) xs u.segments) (sym same) q.segments.each);
      latency = scaled_span unique events scaled p.times q.times one s p.adjusted q.adjusted t.latency u.latency p.latency q.latency;
    }

pub valid_alike : HaveOneOffset → (events scaled : List Event) (times more : List ℤ) → AreOfOneMachine events → AreTimelyMicroseconds events → AreThousandfold events scaled → AreAdjustedTimes events times → AreAdjustedTimes scaled more → IsValid events times → IsValid scaled more
valid_alike unique events scaled times more one early s a b v = record {
  short = subst (λ (n : ℕ). n ≤ most_events) (sym (same_length unique events scaled times more one s a b)) v.short;
  named_once = named_scaled unique events scaled times more one s a b v.named_once;
  messages_once = (subst (λ (xs : List (Option (List ℕ))). AreDistinct xs) (sym s.sends) v.messages_once.0, subst (λ (xs : List (Option (List ℕ))). AreDistinct xs) (sym s.receipts) v.messages_once.1);
  in_range = range_scaled unique events scaled times more one s a b early;
}
