-- What a trace keeps follows from what its segments are.
use Rattle.std.proofs.Common.{◌≡◌, ℕ, zero, suc, ◌+◌, ◌<◌, ◌≤◌, ℤ, Some, List, [], ◌∷◌, length, get_or, arith, sym, ap, ◌∙◌, subst, ⊎_elim, inl, inr}
use Rattle.std.specs.List.{AllZip}
use Rattle.std.proofs.lemmas.Bool.{cases_lt}
use Rattle.std.proofs.lemmas.Int.{ints}
use Rattle.std.proofs.lemmas.List.{length-map}
use Rattle.std.proofs.lemmas.List.Elements.{All-get_or}
use Rattle.trace_types.specs.declared.event.Event.{Event}
use Rattle.trace_types.specs.declared.segment.Segment.{Segment}
use Rattle.trace_types.specs.Segments.{name_of, task_of, start_of, end_of}
use Rattle.trace_types.specs.SegmentLists.{NamesDiffer, TasksStandTogether, JoinInTasks}
use Rattle.trace_types.specs.Repeats.{AreDistinct, IsRepeated}
use Rattle.trace_types.specs.Events.{task_at, event_name_at, named_events}
use Rattle.trace_types.proofs.ZipLemmas.{zip_length}
use Rattle.segment_cut.specs.AdjustedTimes.{adjusted_at}
use Rattle.segment_cut.specs.Neighbours.{AreNeighbours, IsListedBefore, AreAllNeighbours}
use Rattle.segment_cut.specs.Cutting.{IsSegment}
use Rattle.segment_cut.specs.inner.Keys.{Key, AreKeys, adjacent_pairs}
use Rattle.segment_cut.specs.inner.Segments.{AreListed}
use Rattle.clock_offsets.specs.declared.first_events.Field.TheVariants.{Task}
use Rattle.clock_offsets.specs.FirstEvents.{AreFirstEvents}
use Rattle.segment_cut.proofs.PairLemmas.{ArePairs, adjacent_are, all_neighbours, pairs_join}
use Rattle.segment_cut.proofs.RepeatLemmas.{named_at}

pub zip_at : {A B : Type 0} (R : A → B → Type 0) (xs : List A) (ys : List B) (k : ℕ) (d : A) (e : B) → AllZip R xs ys → k < length xs → R (get_or xs k d) (get_or ys k e)
zip_at R [] ys k d e z lt = absurd (omega arith)
zip_at R (x ∷ xs) [] k d e z lt = absurd z
zip_at R (x ∷ xs) (y ∷ ys) zero d e z lt = z.0
zip_at R (x ∷ xs) (y ∷ ys) (suc k) d e z lt = zip_at R xs ys k d e z.1 (omega arith)

-- a segment is not listed before itself
not_itself : (events : List Event) (times : List ℤ) (i : ℕ) → IsListedBefore events times i i → ⊥
not_itself events times i (inl (f, within, same, none)) = none f (omega arith) same
not_itself events times i (inr (same, inl low)) = omega (arith, ints)
not_itself events times i (inr (same, inr both)) = let lt : i < i = both.1 in omega arith

listed_apart : (events : List Event) (times : List ℤ) (i j : ℕ) → IsListedBefore events times i j → i ≡ j → ⊥
listed_apart events times i j l e = not_itself events times i (subst (λ (k : ℕ). IsListedBefore events times i k) (sym e) l)

-- two events have not both task and name alike
named_apart : (events : List Event) (i j : ℕ) → AreDistinct (named_events events) → i < length events → j < length events → task_at events i ≡ task_at events j → event_name_at events i ≡ event_name_at events j → i ≡ j
named_apart events i j d li lj t m = ⊎_elim
    (λ (low : i < j). absurd (d j (repeats i j low lj t m)))
    (λ (high : j ≤ i). ⊎_elim
    (λ (below : j < i). absurd (d i (repeats j i below li (sym t) (sym m))))
    (λ (over : i ≤ j). omega arith)
    (cases_lt j i))
    (cases_lt i j)
  where
    repeats : (a b : ℕ) → a < b → b < length events → task_at events a ≡ task_at events b → event_name_at events a ≡ event_name_at events b → IsRepeated (named_events events) b
    repeats a b lt lb t m = (
      a,
      (task_at events b, event_name_at events b),
      lt,
      simp length-map lb,
      named_at events a (omega arith) ∙ (ap (λ (x : List ℕ). Some (x, event_name_at events a)) t ∙ ap (λ (y : List ℕ). Some (task_at events b, y)) m),
      named_at events b lb,
    )

module _ (events : List Event) (times : List ℤ) (pairs : List (ℕ × ℕ)) (segments : List Segment) (n : AreAllNeighbours events times pairs) (z : AllZip (IsSegment events times) pairs segments) where
  count : length pairs ≡ length segments
  count = zip_length (IsSegment events times) pairs segments z

  at : (k : ℕ) (d : Segment) → k < length pairs → IsSegment events times (get_or pairs k (0, 0)) (get_or segments k d)
  at k d lt = zip_at (IsSegment events times) pairs segments k (0, 0) d z lt

  right : (k : ℕ) → k < length pairs → AreNeighbours events times (get_or pairs k (0, 0)).0 (get_or pairs k (0, 0)).1
  right k lt = All-get_or (λ x. AreNeighbours events times x.0 x.1) pairs k (0, 0) lt n.right

  pub names_differ : AreDistinct (named_events events) → NamesDiffer name_of segments
  names_differ distinct i j d lt within same =
      let c : length pairs ≡ length segments = count in
      let li : i < length pairs = omega arith in
      let lj : j < length pairs = omega arith in
      let si = at i d li in
      let sj = at j d lj in
      let t : task_at events (get_or pairs i (0, 0)).0 ≡ task_at events (get_or pairs j (0, 0)).0 = sym si.task ∙ (ap (λ (x : List ℕ × List ℕ × List ℕ). x.0) same ∙ sj.task) in
      let m : event_name_at events (get_or pairs i (0, 0)).0 ≡ event_name_at events (get_or pairs j (0, 0)).0 = sym si.start_event ∙ (ap (λ (x : List ℕ × List ℕ × List ℕ). x.1) same ∙ sj.start_event) in
      listed_apart events times (get_or pairs i (0, 0)).0 (get_or pairs j (0, 0)).0 (n.order i j (0, 0) lt lj)
      (named_apart events (get_or pairs i (0, 0)).0 (get_or pairs j (0, 0)).0 distinct (right i li).first (right j lj).first t m)

  pub together : TasksStandTogether task_of segments
  together i j k d lij ljk within same =
      let c : length pairs ≡ length segments = count in
      let li : i < length pairs = omega arith in
      let lj : j < length pairs = omega arith in
      let lk : k < length pairs = omega arith in
      let t : task_at events (get_or pairs i (0, 0)).0 ≡ task_at events (get_or pairs k (0, 0)).0 = sym (at i d li).task ∙ (same ∙ (at k d lk).task) in
      (at j d lj).task ∙ (by (get_or pairs i (0, 0)).0 (get_or pairs j (0, 0)).0 (get_or pairs k (0, 0)).0 t (n.order i j (0, 0) lij lj) (n.order j k (0, 0) ljk lk) ∙ sym (at k d lk).task)
    where
      by : (a b c : ℕ) → task_at events a ≡ task_at events c → IsListedBefore events times a b → IsListedBefore events times b c → task_at events b ≡ task_at events c
      by a b c same (inr ab) bc = sym ab.0 ∙ same
      by a b c same (inl ab) (inr bc) = bc.0
      by a b c same (inl (f, lf, tf, none_f)) (inl (g, lg, tg, none_g)) = ⊎_elim
          (λ (low : f < g). absurd (none_g f (omega arith) (tf ∙ same)))
          (λ (high : g ≤ f). absurd (none_f g high tg))
          (cases_lt f g)

  pub joined : ((k : ℕ) → k + 1 < length pairs → task_at events (get_or pairs k (0, 0)).0 ≡ task_at events (get_or pairs (k + 1) (0, 0)).0 → (get_or pairs k (0, 0)).1 ≡ (get_or pairs (k + 1) (0, 0)).0) → JoinInTasks task_of start_of end_of segments
  joined join k d within same =
      let c : length pairs ≡ length segments = count in
      let lk : k < length pairs = omega arith in
      let ln : k + 1 < length pairs = omega arith in
      let s = at k d lk in
      let t = at (k + 1) d ln in
      s.end ∙ (ap (adjusted_at times) (join k ln (sym s.task ∙ (same ∙ t.task))) ∙ sym t.start)

  -- there are no more segments than pairs of events
  pub few_segments : (most : ℕ) → length pairs ≤ most → length segments ≤ most
  few_segments most few = let c : length pairs ≡ length segments = count in omega arith

-- what is cut at the adjacent keys is the list of the trace's segments
pub listed_are : (events : List Event) (tasks : List ℕ) (times : List ℤ) (keys : List Key) (pairs : List (ℕ × ℕ)) (segments : List Segment) → AreFirstEvents Task events tasks → AreKeys tasks times keys → pairs ≡ adjacent_pairs keys → AreDistinct (named_events events)
    → AllZip (IsSegment events times) pairs segments → AreListed events times segments
listed_are events tasks times keys pairs segments firsts sorted is distinct zip =
    let are : ArePairs keys pairs = subst (λ (ps : List (ℕ × ℕ)). ArePairs keys ps) (sym is) (adjacent_are keys) in
    let all : AreAllNeighbours events times pairs = all_neighbours events tasks times keys firsts sorted pairs are in
    record {
      segments_are = record { pairs = pairs; neighbours = all; each = zip };
      names_differ = names_differ events times pairs segments all zip distinct;
      together = together events times pairs segments all zip;
      joined = joined events times pairs segments all zip (pairs_join events tasks times keys firsts sorted pairs are);
      few = few_segments events times pairs segments all zip (length events) (let f : length pairs ≤ length keys = are.few in let k : length keys ≡ length tasks = sorted.each in let e : length tasks ≡ length events = firsts.each in omega arith);
    }
