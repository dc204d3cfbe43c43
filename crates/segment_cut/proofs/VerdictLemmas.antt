-- The events of a request are cut into one trace, or have one fault.
use Rattle.std.proofs.Common.{◌≡◌, ℕ, ◌<◌, ◌≤◌, ℤ, pos, ◌-ℤ◌, ◌≤ℤ◌, Option, List, [], ◌∷◌, length, Contains, arith, refl, sym, ap, ◌∙◌, subst, ⊎_elim, inl, inr}
use Rattle.std.specs.List.{AllZip}
use Rattle.std.proofs.lemmas.Bool.{cases_lt, cases_order}
use Rattle.std.proofs.lemmas.Int.{ints}
use Rattle.std.proofs.lemmas.List.{ext_get_or}
use Rattle.std.proofs.lemmas.List.Elements.{All-get_or, All-contains}
use Rattle.trace_types.specs.declared.event.Event.{Event}
use Rattle.trace_types.specs.declared.segment.Segment.{Segment}
use Rattle.trace_types.specs.declared.trace.Trace.{Trace}
use Rattle.trace_types.specs.Events.{machine_at, line_at, event_name_at, time_at, named_events, sends_of, receipts_of}
use Rattle.clock_offsets.specs.Offsets.{IsOffset, adjusted_time}
use Rattle.trace_types.specs.Repeats.{AreDistinct, IsLineOfRepeat}
use Rattle.trace_types.proofs.ComparingLemmas.{time_asym}
use Rattle.trace_types.proofs.ListingLemmas.{one_list}
use Rattle.segment_cut.specs.declared.trace_fault.TraceFault.{TraceFault}
use Rattle.segment_cut.specs.declared.trace_fault.TraceFault.TheVariants.{Memory, TooManyEvents, RepeatedEvent, RepeatedSend, RepeatedRecv, ClockRange}
use Rattle.segment_cut.specs.AdjustedTimes.{AreAdjustedTimes, HasAdjustedTime, adjusted_at, IsInClockRange, IsLineOutOfRange}
use Rattle.segment_cut.specs.Neighbours.{AreNeighbours, IsListedBefore, AreAllNeighbours}
use Rattle.segment_cut.specs.Cutting.{most_events, HasFewEvents, IsSpan, IsSegment, AreSegments, IsCut}
use Rattle.segment_cut.specs.Faults.{IsTraceFault}
use Rattle.segment_cut.proofs.SameLemmas.{same_segment, same_trace}
use Rattle.segment_cut.proofs.UniqueListLemmas.{one_element}

-- a machine has one offset
abbrev pub HaveOneOffset : Type 0
HaveOneOffset = (events : List Event) (m : List ℕ) (a b : ℤ) → IsOffset events m a → IsOffset events m b → a ≡ b

pub one_time : HaveOneOffset → (events : List Event) (k : ℕ) (t u : ℤ) → HasAdjustedTime events k t → HasAdjustedTime events k u → t ≡ u
one_time unique events k t u (o, offset, is) (o', offset', is') =
    is ∙ (ap (λ (x : ℤ). adjusted_time (time_at events k) x) (unique events (machine_at events k) o o' offset offset') ∙ sym is')

pub one_times : HaveOneOffset → (events : List Event) (a b : List ℤ) → AreAdjustedTimes events a → AreAdjustedTimes events b → a ≡ b
one_times unique events a b p q =
    let e : length a ≡ length events = p.each in
    let f : length b ≡ length events = q.each in
    ext_get_or (pos 0) a b (omega arith) (λ k lt. one_time unique events k (adjusted_at a k) (adjusted_at b k) (p.value k (omega arith)) (q.value k (omega arith)))

-- of two segments one is listed before the other
pub listed_asym : (events : List Event) (times : List ℤ) (i j : ℕ) → IsListedBefore events times i j → IsListedBefore events times j i → ⊥
listed_asym events times i j (inl (f, lf, tf, none_f)) (inl (g, lg, tg, none_g)) = ⊎_elim
    (λ (low : f < g). none_g f (omega arith) tf)
    (λ (high : g ≤ f). none_f g high tg)
    (cases_lt f g)
listed_asym events times i j (inl (f, lf, tf, none_f)) (inr (same, before)) = none_f f (omega arith) (tf ∙ sym same)
listed_asym events times i j (inr (same, before)) (inl (f, lf, tf, none_f)) = none_f f (omega arith) (tf ∙ sym same)
listed_asym events times i j (inr (same, before)) (inr (other, after)) = time_asym (adjusted_at times i) (adjusted_at times j) i j before after

within_pairs : (events : List Event) (times : List ℤ) (xs ys : List (ℕ × ℕ)) → AreAllNeighbours events times xs → AreAllNeighbours events times ys → (z : ℕ × ℕ) → Contains xs z → Contains ys z
within_pairs events times xs ys p q z c = q.all z.0 z.1 (All-contains (λ (x : ℕ × ℕ). AreNeighbours events times x.0 x.1) xs z p.right c)

pub one_pairs : (events : List Event) (times : List ℤ) (xs ys : List (ℕ × ℕ)) → AreAllNeighbours events times xs → AreAllNeighbours events times ys → xs ≡ ys
one_pairs events times xs ys p q = one_list (λ x y. IsListedBefore events times x.0 y.0) (λ x y. listed_asym events times x.0 y.0) xs ys p.order q.order (within_pairs events times xs ys p q) (within_pairs events times ys xs q p)

one_segment : (events : List Event) (times : List ℤ) (x : ℕ × ℕ) (s r : Segment) → IsSegment events times x s → IsSegment events times x r → s ≡ r
one_segment events times x s r p q = same_segment s r (p.task ∙ sym q.task) (p.start_event ∙ sym q.start_event) (p.end_event ∙ sym q.end_event) (p.start ∙ sym q.start) (p.end ∙ sym q.end) (one_element (event_name_at events x.0) s.element r.element p.element q.element)

one_each : (events : List Event) (times : List ℤ) (xs : List (ℕ × ℕ)) (us vs : List Segment) → AllZip (IsSegment events times) xs us → AllZip (IsSegment events times) xs vs → us ≡ vs
one_each events times [] [] [] p q = refl
one_each events times [] [] (v ∷ vs) p q = absurd q
one_each events times [] (u ∷ us) vs p q = absurd p
one_each events times (x ∷ xs) [] vs p q = absurd p
one_each events times (x ∷ xs) (u ∷ us) [] p q = absurd q
one_each events times (x ∷ xs) (u ∷ us) (v ∷ vs) p q =
    ap (λ (s : Segment). s ∷ us) (one_segment events times x u v p.0 q.0) ∙ ap (λ (ss : List Segment). v ∷ ss) (one_each events times xs us vs p.1 q.1)

pub one_segments : (events : List Event) (times : List ℤ) (us vs : List Segment) → AreSegments events times us → AreSegments events times vs → us ≡ vs
one_segments events times us vs p q =
    let same : q.pairs ≡ p.pairs = one_pairs events times q.pairs p.pairs q.neighbours p.neighbours in
    one_each events times p.pairs us vs p.each (subst (λ (xs : List (ℕ × ℕ)). AllZip (IsSegment events times) xs vs) same q.each)

pub one_span : (times : List ℤ) (n m : ℕ) → IsSpan times n → IsSpan times m → n ≡ m
one_span times n m p q =
    let a : p.greatest ≤ℤ q.greatest = All-contains (λ (t : ℤ). t ≤ℤ q.greatest) times p.greatest q.none_greater p.some_greatest in
    let b : q.greatest ≤ℤ p.greatest = All-contains (λ (t : ℤ). t ≤ℤ p.greatest) times q.greatest p.none_greater q.some_greatest in
    let c : q.least ≤ℤ p.least = All-contains (λ (t : ℤ). q.least ≤ℤ t) times p.least q.none_less p.some_least in
    let d : p.least ≤ℤ q.least = All-contains (λ (t : ℤ). p.least ≤ℤ t) times q.least p.none_less q.some_least in
    let e : pos n ≡ p.greatest -ℤ p.least = p.span in
    let f : pos m ≡ q.greatest -ℤ q.least = q.span in
    omega (arith, ints)

pub one_cut : HaveOneOffset → (request : List ℕ) (events : List Event) (t u : Trace) → IsCut request events t → IsCut request events u → t ≡ u
one_cut unique request events t u p q =
    let same : q.times ≡ p.times = one_times unique events q.times p.times q.adjusted p.adjusted in
    same_trace t u (p.named ∙ sym q.named) (p.day ∙ sym q.day)
    (one_span p.times t.latency u.latency p.latency (subst (λ (ts : List ℤ). IsSpan ts u.latency) same q.latency))
    (one_segments events p.times t.segments u.segments p.segments (subst (λ (ts : List ℤ). AreSegments events ts u.segments) same q.segments))

-- the first line that repeats a key is one
pub one_repeat : {K : Type 0} (events : List Event) (keys : List (Option K)) (a b : ℕ) → IsLineOfRepeat events keys a → IsLineOfRepeat events keys b → a ≡ b
one_repeat events keys a b p q = ⊎_elim
    (λ (h : p.0 ≡ q.0). p.2 ∙ (ap (λ (k : ℕ). line_at events k) h ∙ sym q.2))
    (⊎_elim (λ (h : p.0 < q.0). absurd (q.1.1 p.0 h p.1.0)) (λ (h : q.0 < p.0). absurd (p.1.1 q.0 h q.1.0)))
    (cases_order p.0 q.0)

-- and so is the first line whose adjusted time is out of range
pub one_range : HaveOneOffset → (events : List Event) (a b : ℕ) → IsLineOutOfRange events a → IsLineOutOfRange events b → a ≡ b
one_range unique events a b (k, lt, (t, has, out), before, is) (k', lt', (t', has', out'), before', is') = ⊎_elim
    (λ (h : k ≡ k'). is ∙ (ap (λ (i : ℕ). line_at events i) h ∙ sym is'))
    (⊎_elim
    (λ (h : k < k'). let r = before' k h in absurd (out (subst IsInClockRange (one_time unique events k r.0 t r.1 has) r.2)))
    (λ (h : k' < k). let r = before k' h in absurd (out' (subst IsInClockRange (one_time unique events k' r.0 t' r.1 has') r.2))))
    (cases_order k k')

too_many : (events : List Event) (count : ℕ) → (count ≡ length events) × (most_events < count) → HasFewEvents events → ⊥
too_many events count p short =
    let e : count ≡ length events = p.0 in
    let lt : most_events < count = p.1 in
    let le : length events ≤ most_events = short in
    omega arith

repeats : {K : Type 0} (events : List Event) (keys : List (Option K)) (line : ℕ) → IsLineOfRepeat events keys line → AreDistinct keys → ⊥
repeats events keys line p distinct = distinct p.0 p.1.0

-- the fault of the events is one
pub one_fault : HaveOneOffset → (events : List Event) (f g : TraceFault) → IsTraceFault events f → IsTraceFault events g → f ≡ g
one_fault unique events Memory g p q = absurd p
one_fault unique events (TooManyEvents a) Memory p q = absurd q
one_fault unique events (TooManyEvents a) (TooManyEvents b) p q = ap (λ (n : ℕ). TooManyEvents n) (p.0 ∙ sym q.0)
one_fault unique events (TooManyEvents a) (RepeatedEvent b) p q = absurd (too_many events a p q.0)
one_fault unique events (TooManyEvents a) (RepeatedSend b) p q = absurd (too_many events a p q.0)
one_fault unique events (TooManyEvents a) (RepeatedRecv b) p q = absurd (too_many events a p q.0)
one_fault unique events (TooManyEvents a) (ClockRange b) p q = absurd (too_many events a p q.0)
one_fault unique events (RepeatedEvent a) Memory p q = absurd q
one_fault unique events (RepeatedEvent a) (TooManyEvents b) p q = absurd (too_many events b q p.0)
one_fault unique events (RepeatedEvent a) (RepeatedEvent b) p q = ap (λ (n : ℕ). RepeatedEvent n) (one_repeat events (named_events events) a b p.1 q.1)
one_fault unique events (RepeatedEvent a) (RepeatedSend b) p q = absurd (repeats events (named_events events) a p.1 q.1)
one_fault unique events (RepeatedEvent a) (RepeatedRecv b) p q = absurd (repeats events (named_events events) a p.1 q.1)
one_fault unique events (RepeatedEvent a) (ClockRange b) p q = absurd (repeats events (named_events events) a p.1 q.1)
one_fault unique events (RepeatedSend a) Memory p q = absurd q
one_fault unique events (RepeatedSend a) (TooManyEvents b) p q = absurd (too_many events b q p.0)
one_fault unique events (RepeatedSend a) (RepeatedEvent b) p q = absurd (repeats events (named_events events) b q.1 p.1)
one_fault unique events (RepeatedSend a) (RepeatedSend b) p q = ap (λ (n : ℕ). RepeatedSend n) (one_repeat events (sends_of events) a b p.2 q.2)
one_fault unique events (RepeatedSend a) (RepeatedRecv b) p q = absurd (repeats events (sends_of events) a p.2 q.2)
one_fault unique events (RepeatedSend a) (ClockRange b) p q = absurd (repeats events (sends_of events) a p.2 q.2.0)
one_fault unique events (RepeatedRecv a) Memory p q = absurd q
one_fault unique events (RepeatedRecv a) (TooManyEvents b) p q = absurd (too_many events b q p.0)
one_fault unique events (RepeatedRecv a) (RepeatedEvent b) p q = absurd (repeats events (named_events events) b q.1 p.1)
one_fault unique events (RepeatedRecv a) (RepeatedSend b) p q = absurd (repeats events (sends_of events) b q.2 p.2)
one_fault unique events (RepeatedRecv a) (RepeatedRecv b) p q = ap (λ (n : ℕ). RepeatedRecv n) (one_repeat events (receipts_of events) a b p.3 q.3)
one_fault unique events (RepeatedRecv a) (ClockRange b) p q = absurd (repeats events (receipts_of events) a p.3 q.2.1)
one_fault unique events (ClockRange a) Memory p q = absurd q
one_fault unique events (ClockRange a) (TooManyEvents b) p q = absurd (too_many events b q p.0)
one_fault unique events (ClockRange a) (RepeatedEvent b) p q = absurd (repeats events (named_events events) b q.1 p.1)
one_fault unique events (ClockRange a) (RepeatedSend b) p q = absurd (repeats events (sends_of events) b q.2 p.2.0)
one_fault unique events (ClockRange a) (RepeatedRecv b) p q = absurd (repeats events (receipts_of events) b q.3 p.2.1)
one_fault unique events (ClockRange a) (ClockRange b) p q = ap (λ (n : ℕ). ClockRange n) (one_range unique events a b p.3 q.3)

-- a trace that is cut has no fault
pub no_fault : HaveOneOffset → (request : List ℕ) (events : List Event) (t : Trace) (fault : TraceFault) → IsCut request events t → IsTraceFault events fault → ⊥
no_fault unique request events t Memory c p = p
no_fault unique request events t (TooManyEvents a) c p = too_many events a p c.valid.short
no_fault unique request events t (RepeatedEvent a) c p = repeats events (named_events events) a p.1 c.valid.named_once
no_fault unique request events t (RepeatedSend a) c p = repeats events (sends_of events) a p.2 c.valid.messages_once.0
no_fault unique request events t (RepeatedRecv a) c p = repeats events (receipts_of events) a p.3 c.valid.messages_once.1
no_fault unique request events t (ClockRange a) c (s, n, m, (k, lt, (u, has, out), before, is)) =
    let e : length c.times ≡ length events = c.adjusted.each in
    out (subst IsInClockRange (one_time unique events k (adjusted_at c.times k) u (c.adjusted.value k lt) has) (All-get_or IsInClockRange c.times k (pos 0) (omega arith) c.valid.in_range))
