-- The traces of a drill are few, have few names and tasks, and are of few days.
use Rattle.std.proofs.Common.{◌≡◌, ◌≢◌, ℕ, zero, suc, ◌+◌, ◌/◌, ◌<◌, ◌≤◌, ◌&&◌, List, [], ◌∷◌, Bool, true, false, Result, Ok, Err, length, map, take, refl, sym, ap, subst, arith}
use Rattle.std.specs.Prelude.{All, Contains, ℤ, flat_map, nat_eq}
use Rattle.std.specs.Bool.{Decides}
use Rattle.std.specs.List.{AllZip, range_with_len}
use Rattle.std.specs.Str.{bytes_eq}
use Rattle.std.proofs.lemmas.Bool.{and_parts, eqb-true, eq-eqb}
use Rattle.std.proofs.lemmas.List.Elements.{All-append, All-cons, All-filter, All-head, All-nil, All-tail}
use Rattle.std.proofs.lemmas.Slice.Eq.{bytes_eq-Decides}
use Rattle.std.proofs.lemmas.List.{length-map}
use Rattle.certificate_laws.proofs.TakenLemmas.{all_taken, length-with_taken}
use Rattle.certificate_laws.proofs.TraceLemmas.{valid_few}
use Rattle.digest_facts.specs.Digests.{empty_digest}
use Rattle.segment_cut.specs.Cutting.{IsCut, IsSegment}
use Rattle.segment_cut.specs.declared.trace_fault.TraceFault.{TraceFault}
use Rattle.segment_names.specs.Known.{same_name, with_traces}
use Rattle.session_rules.specs.Batches.{AreJudged, IsJudged, valid_of}
use Rattle.session_rules.specs.KeptTraces.{Kept, day_of, kept_with, days_of}
use Rattle.session_rules.specs.Sessions.{PassesLimitOf, first_state, graced, kept_after}
use Rattle.session_rules.specs.declared.limit.Limit.{Limit}
use Rattle.session_rules.specs.declared.refused.Refused.{Refused}
use Rattle.session_rules.specs.declared.limit.Limit.TheVariants.{Names, Tasks, Days, Traces}
use Rattle.trace_types.specs.Batch.{PlainTrace, is_of_request, requests_of, trace_of, traces_of}
use Rattle.trace_types.specs.Events.{event_name_at, task_at, time_at}
use Rattle.trace_types.specs.Segments.{SegmentName, name_of, task_of}
use Rattle.trace_types.specs.declared.event.Event.{Event}
use Rattle.trace_types.specs.declared.segment.Segment.{Segment}
use Rattle.trace_types.specs.declared.trace.Trace.{Trace}
use Rattle.trace_types.proofs.ListingLemmas.{Contains-cons, cons_here}
use Rattle.trace_types.proofs.ElementLemmas.{contains_map, Contains-flat_map, mapped_all}
use Rattle.drill_laws.proofs.FewLemmas.{few_firsts}
use Rattle.drill_laws.proofs.InputLemmas.{IsDrillEvent, event_pairs}

-- ---- what stands in which list

-- the pairs of events, and that of no event
abbrev some_pairs : List (List ℕ × List ℕ)
some_pairs = ([], []) ∷ event_pairs

-- their tasks
abbrev some_tasks : List (List ℕ)
some_tasks = map (λ (p : List ℕ × List ℕ). p.0) some_pairs

-- all names of a pair and an event's name
abbrev some_names : List SegmentName
some_names = flat_map (λ (p : List ℕ × List ℕ). map (λ (q : List ℕ × List ℕ). (p.0, p.1, q.1)) some_pairs) some_pairs

-- the days
abbrev some_days : List ℕ
some_days = 0 ∷ range_with_len 19800 20

not_same : (a d : ℕ) → nat_eq a d ≡ false → a ≢ d
not_same a d f same = cc (f, eq-eqb a d same)

contains_range : (a n d : ℕ) → a ≤ d → d < a + n → Contains (range_with_len a n) d
contains_range a zero d low high = absurd (omega arith)
contains_range a (suc n) d low high = by (nat_eq a d) refl (contains_range (a + 1) n d)
  where
    by : (b : Bool) → nat_eq a d ≡ b → (a + 1 ≤ d → d < a + 1 + n → Contains (range_with_len (a + 1) n) d) → Contains (range_with_len a (suc n)) d
    by true e later = subst (λ (m : ℕ). Contains (range_with_len a (suc n)) m) (eqb-true a d e) (cons_here a (range_with_len (a + 1) n))
    by false e later = let ne : a ≢ d = not_same a d e in Contains-cons a (range_with_len (a + 1) n) d (later (omega arith) (omega arith))

-- ---- events

pair_at : (events : List Event) (i : ℕ) → All IsDrillEvent events → Contains some_pairs (task_at events i, event_name_at events i)
pair_at [] i h = cons_here ([], []) event_pairs
pair_at (e ∷ events) zero h = Contains-cons ([], []) event_pairs (e.task, e.event) (All-head IsDrillEvent e events h).pair
pair_at (e ∷ events) (suc i) h = pair_at events i (All-tail IsDrillEvent e events h)

day_at : (events : List Event) → All IsDrillEvent events → Contains some_days (time_at events 0 / 86400000000000)
day_at [] h = cons_here 0 (range_with_len 19800 20)
day_at (e ∷ events) h =
    let good = All-head IsDrillEvent e events h in
    Contains-cons 0 (range_with_len 19800 20) (e.time / 86400000000000) (contains_range 19800 20 (e.time / 86400000000000) (omega (arith, good.from)) (omega (arith, good.until)))

-- ---- segments and traces

-- the name and the task are of the drill
record IsDrillSegment (s : Segment) : Type 0 where
  name : Contains some_names (name_of s)
  task : Contains some_tasks (task_of s)

record IsDrillTrace (t : Trace) : Type 0 where
  segments : All IsDrillSegment t.segments
  day : Contains some_days t.day

segment_of_drill : (events : List Event) (times : List ℤ) (places : ℕ × ℕ) (s : Segment) → All IsDrillEvent events → IsSegment events times places s → IsDrillSegment s
segment_of_drill events times places s h is =
    let first = pair_at events places.0 h in
    let second = pair_at events places.1 h in
    let p : List ℕ × List ℕ = (task_at events places.0, event_name_at events places.0) in
    let q : List ℕ × List ℕ = (task_at events places.1, event_name_at events places.1) in
    record {
      name = rw (is.task, is.start_event, is.end_event) (Contains-flat_map (λ (x : List ℕ × List ℕ). map (λ (y : List ℕ × List ℕ). (x.0, x.1, y.1)) some_pairs) some_pairs p (p.0, p.1, q.1) first (contains_map (λ (y : List ℕ × List ℕ). (p.0, p.1, y.1)) some_pairs q second));
      task = rw is.task (contains_map (λ (x : List ℕ × List ℕ). x.0) some_pairs p first);
    }

segments_of_drill : (events : List Event) (times : List ℤ) (pairs : List (ℕ × ℕ)) (segments : List Segment) → All IsDrillEvent events → AllZip (IsSegment events times) pairs segments → All IsDrillSegment segments
segments_of_drill events times [] [] h each = All-nil IsDrillSegment
segments_of_drill events times [] (s ∷ segments) h each = absurd each
segments_of_drill events times (p ∷ pairs) [] h each = absurd each
segments_of_drill events times (p ∷ pairs) (s ∷ segments) h each =
    All-cons IsDrillSegment s segments (segment_of_drill events times p s h each.0) (segments_of_drill events times pairs segments h each.1)

trace_of_drill : (raw : PlainTrace) (trace : Trace) → All IsDrillEvent raw.events → IsCut raw.request raw.events trace → IsDrillTrace trace
trace_of_drill raw trace h cut = record {
  segments = segments_of_drill raw.events cut.times cut.segments.pairs trace.segments h cut.segments.each;
  day = subst (λ (d : ℕ). Contains some_days d) (sym cut.day) (day_at raw.events h);
}

raws_of_drill : (batch : List Event) (requests : List (List ℕ)) → All IsDrillEvent batch → All (λ (raw : PlainTrace). All IsDrillEvent raw.events) (map (trace_of batch) requests)
raws_of_drill batch [] h = All-nil (λ (raw : PlainTrace). All IsDrillEvent raw.events)
raws_of_drill batch (request ∷ requests) h =
    All-cons (λ (raw : PlainTrace). All IsDrillEvent raw.events) (trace_of batch request) (map (trace_of batch) requests) (All-filter (is_of_request request) IsDrillEvent batch h) (raws_of_drill batch requests h)

valid_by : (raws : List PlainTrace) (verdicts : List (Result Trace TraceFault)) → All (λ (raw : PlainTrace). All IsDrillEvent raw.events) raws → AllZip IsJudged raws verdicts → All IsDrillTrace (valid_of verdicts)
valid_by [] [] h each = All-nil IsDrillTrace
valid_by [] (v ∷ verdicts) h each = absurd each
valid_by (raw ∷ raws) [] h each = absurd each
valid_by (raw ∷ raws) (Ok trace ∷ verdicts) h each =
    All-cons IsDrillTrace trace (valid_of verdicts) (trace_of_drill raw trace (All-head (λ (r : PlainTrace). All IsDrillEvent r.events) raw raws h) each.0)
    (valid_by raws verdicts (All-tail (λ (r : PlainTrace). All IsDrillEvent r.events) raw raws h) each.1)
valid_by (raw ∷ raws) (Err fault ∷ verdicts) h each = valid_by raws verdicts (All-tail (λ (r : PlainTrace). All IsDrillEvent r.events) raw raws h) each.1

-- ---- limits

name_exact : (a b : SegmentName) → Decides (same_name a b) (a ≡ b)
name_exact a b = (
  λ e.
      let p = and_parts (bytes_eq a.0 b.0) (bytes_eq a.1 b.1 && bytes_eq a.2 b.2) e in
      let q = and_parts (bytes_eq a.1 b.1) (bytes_eq a.2 b.2) p.1 in
      let x = (bytes_eq-Decides a.0 b.0).0 p.0 in
      let y = (bytes_eq-Decides a.1 b.1).0 q.0 in
      let z = (bytes_eq-Decides a.2 b.2).0 q.1 in
      λ i. (x i, y i, z i),
  λ e.
      let x = (bytes_eq-Decides a.0 b.0).1 (ap (λ (n : SegmentName). n.0) e) in
      let y = (bytes_eq-Decides a.1 b.1).1 (ap (λ (n : SegmentName). n.1) e) in
      let z = (bytes_eq-Decides a.2 b.2).1 (ap (λ (n : SegmentName). n.2) e) in
      λ i. x i && (y i && z i),
)

number_exact : (a b : ℕ) → Decides (nat_eq a b) (a ≡ b)
number_exact a b = (eqb-true a b, eq-eqb a b)

-- of all segments of traces
all_segments : (ts : List Trace) → All IsDrillTrace ts → All IsDrillSegment (flat_map (λ (t : Trace). t.segments) ts)
all_segments [] h = All-nil IsDrillSegment
all_segments (t ∷ ts) h = All-append IsDrillSegment t.segments (flat_map (λ (u : Trace). u.segments) ts) (All-head IsDrillTrace t ts h).segments (all_segments ts (All-tail IsDrillTrace t ts h))

taken : (n : ℕ) (ts : List Trace) → All IsDrillTrace ts → All IsDrillTrace (take n ts)
taken zero ts h = All-nil IsDrillTrace
taken (suc n) [] h = All-nil IsDrillTrace
taken (suc n) (t ∷ ts) h = All-cons IsDrillTrace t (take n ts) (All-head IsDrillTrace t ts h) (taken n ts (All-tail IsDrillTrace t ts h))

few_names : (ts : List Trace) → All IsDrillTrace ts → length (with_traces (first_state empty_digest).known ts).names ≤ 144
few_names ts h = few_firsts same_name name_exact (map name_of (flat_map (λ (t : Trace). t.segments) ts)) some_names (mapped_all IsDrillSegment (Contains some_names) name_of _ (λ s g. g.name) (all_segments ts h))

few_tasks : (ts : List Trace) → All IsDrillTrace ts → length (with_traces (first_state empty_digest).known ts).tasks ≤ 12
few_tasks ts h = few_firsts bytes_eq bytes_eq-Decides (map task_of (flat_map (λ (t : Trace). t.segments) ts)) some_tasks (mapped_all IsDrillSegment (Contains some_tasks) task_of _ (λ s g. g.task) (all_segments ts h))

-- ---- days

few_days : (ts : List Trace) → All IsDrillTrace ts → length (days_of (kept_after (first_state empty_digest) ts)) ≤ 21
few_days ts h =
    let P : Kept → Type 0 = λ k. Contains some_days (day_of k) in
    let kept = all_taken P [] (graced (first_state empty_digest) ts) (All-nil P) (mapped_all IsDrillTrace P (kept_with 0) ts (λ t g. g.day) h) in
    few_firsts nat_eq number_exact (map day_of (kept_after (first_state empty_digest) ts)) some_days (mapped_all P (Contains some_days) day_of (kept_after (first_state empty_digest) ts) (λ k g. g) kept)

-- ---- how many there are

few_kept : (ts : List Trace) → length (kept_after (first_state empty_digest) ts) ≤ length ts
few_kept ts = omega (arith, length-with_taken [] (graced (first_state empty_digest) ts), length-map ts (kept_with 0))

-- ---- an add of a drill

passes : (valid : List Trace) → All IsDrillTrace valid → length valid ≤ 220000 → (limit : Limit) → PassesLimitOf (first_state empty_digest) valid limit → ⊥
passes valid h few (Names count) (k, within, fits, passed) = absurd (omega (arith, few_names (take (k + 1) valid) (taken (k + 1) valid h), passed.0))
passes valid h few (Tasks count) (k, within, fits, passed) = absurd (omega (arith, few_tasks (take (k + 1) valid) (taken (k + 1) valid h), passed.1))
passes valid h few (Days count) (fits, more, is) = absurd (omega (arith, few_days valid h, more))
passes valid h few Traces (fits, days, more) = absurd (omega (arith, few_kept valid, few, more))

-- the first add of a drill passes no limit
pub add_passes : (batch : List Event) (valid : List Trace) (refused : List Refused) → All IsDrillEvent batch → length batch ≤ 220000 → AreJudged (traces_of batch) valid refused → (limit : Limit) → PassesLimitOf (first_state empty_digest) valid limit → ⊥
add_passes batch valid refused h few judged limit over =
    let small : length valid ≤ 220000 = omega (arith, ap (λ (ts : List Trace). length ts) judged.valid_are, valid_few batch judged.verdicts judged.each, few) in
    passes valid (subst (All IsDrillTrace) (sym judged.valid_are) (valid_by (traces_of batch) judged.verdicts (raws_of_drill batch (requests_of batch) h) judged.each)) small limit over
