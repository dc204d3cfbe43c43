-- The rows on traces.
use Rattle.std.specs.Prelude.{ℕ, ◌≡◌, ◌+◌, ◌-◌, ◌*◌, ◌/◌, ◌==◌, ◌++◌, List, [], ◌∷◌, Bool, false}
use Rattle.std.specs.Prelude.{MatchOption, Option, None, Some, codes, if◌then◌else◌, length, map}
use Rattle.std.specs.Prelude.{nat_lt, slice_index_or}
use Rattle.std.specs.List.{AllZip, flat_map, position, sum_by}
use Rattle.segment_cut.specs.Cutting.{nanoseconds_per_day}
use Rattle.trace_types.specs.Batch.{PlainTrace}
use Rattle.machine_quality.specs.Told.{AreTold, NamedClock}
use Rattle.trace_groups.specs.Groups.{counts_cut, counts_grouped}
use Rattle.trace_quality.specs.Extremes.{AreExtremes}
use Rattle.trace_quality.specs.Facts.{IsFacts}
use Rattle.trace_quality.specs.Measures.{counted, counted_of, refusal_text}
use Rattle.trace_quality.specs.Slowest.{counts_slow, counts_slow_refused}
use Rattle.trace_quality.specs.declared.measure.Measure.{Measure}
use Rattle.trace_quality.specs.declared.measure.Measure.TheVariants.{NoTime, OverADay, Valid}
use Rattle.trace_quality.specs.declared.measure.Measure.TheVariants.{Refused, NeverReceived}
use Rattle.trace_quality.specs.declared.measure.Measure.TheVariants.{NeverSent, Wait}
use Rattle.trace_quality.specs.declared.measure.Measure.TheVariants.{NoOffset, Contradiction}
use Rattle.trace_quality.specs.declared.refusal.Refusal.TheVariants.{ManyEvents, EventTwice}
use Rattle.trace_quality.specs.declared.refusal.Refusal.TheVariants.{SentTwice, ReceivedTwice}
use Rattle.trace_quality.specs.declared.refusal.Refusal.TheVariants.{ClockRange}
use Rattle.trace_quality.specs.declared.tallies.Tally.{Tally}
use Rattle.trace_quality.specs.declared.times.Times.{Times}
use Rattle.trace_quality.specs.declared.trace_facts.TraceFacts.{TraceFacts}
use Rattle.inspect_run.specs.Levels.{all_level, any_level, share_level, slowest_level}
use Rattle.inspect_run.specs.Levels.{valid_level}
use Rattle.inspect_run.specs.MachineRows.{machine_rows}
use Rattle.inspect_run.specs.Rows.{no_example, row_text}
use Rattle.inspect_run.specs.declared.level.Level.{Level}
use Rattle.inspect_run.specs.declared.level.Level.TheVariants.{Fine, Note}

-- a part of what each trace counts is added up; the first trace that counts any is at this index
abbrev pub tally_of : {X : Type 0} → (part whole : X → ℕ) → List X → Tally
tally_of part whole xs = record {
  count = sum_by part xs;
  of = sum_by whole xs;
  first = position (λ x. nat_lt 0 (part x)) xs;
}

-- the request at this index, or none
abbrev pub example_at : List (List ℕ) → Option ℕ → List ℕ
example_at requests None = no_example
example_at requests (Some index) = slice_index_or requests index []

-- the kind of the row of a measure
abbrev pub measure_kind : Measure → List ℕ
measure_kind NoTime = codes "time"
measure_kind OverADay = codes "time"
measure_kind Valid = codes "traces"
measure_kind (Refused refusal) = codes "refused"
measure_kind NoOffset = codes "clock"
measure_kind Contradiction = codes "clock"
measure_kind NeverReceived = codes "message"
measure_kind NeverSent = codes "message"
measure_kind Wait = codes "wait"

-- what is counted, as it is printed
abbrev pub measure_text : Measure → List ℕ
measure_text NoTime = codes "no time passes"
measure_text OverADay = codes "longer than a day"
measure_text Valid = codes "valid"
measure_text (Refused refusal) = refusal_text refusal
measure_text NoOffset = codes "no offset"
measure_text Contradiction = codes "delays contradict"
measure_text NeverReceived = codes "never received"
measure_text NeverSent = codes "never sent"
measure_text Wait = codes "from a send to a receipt"

-- how good the input is by a measure
abbrev pub measure_level : Measure → Tally → Level
measure_level NoTime t = all_level t
measure_level OverADay t = any_level t
measure_level Valid t = valid_level t
measure_level (Refused refusal) t = share_level t
measure_level NoOffset t = share_level t
measure_level Contradiction t = share_level t
measure_level NeverReceived t = share_level t
measure_level NeverSent t = share_level t
measure_level Wait t = share_level t

-- which trace is the example: none of valid ones, else the first that counts
abbrev pub measure_example : Measure → Option ℕ → Option ℕ
measure_example NoTime first = first
measure_example OverADay first = first
measure_example Valid first = None
measure_example (Refused refusal) first = first
measure_example NoOffset first = first
measure_example Contradiction first = first
measure_example NeverReceived first = first
measure_example NeverSent first = first
measure_example Wait first = first

-- a reason for which no trace is refused has no row
abbrev pub is_left_out : Measure → Tally → Bool
is_left_out NoTime t = false
is_left_out OverADay t = false
is_left_out Valid t = false
is_left_out (Refused refusal) t = t.count == 0
is_left_out NoOffset t = false
is_left_out Contradiction t = false
is_left_out NeverReceived t = false
is_left_out NeverSent t = false
is_left_out Wait t = false

-- the row of a measure that counts so many in the traces of these requests
abbrev pub tally_row : (requests : List (List ℕ)) → Measure → Tally → List ℕ
tally_row requests measure t =
    if is_left_out measure t then []
    else row_text (measure_kind measure) (measure_level measure t) t.count t.of
    (example_at requests (measure_example measure t.first)) (measure_text measure)

abbrev pub measure_row : (requests : List (List ℕ)) → List TraceFacts → Measure → List ℕ
measure_row requests facts measure =
    tally_row requests measure (tally_of (counted measure) (counted_of measure) facts)

-- the measures whose rows stand before that of the slowest traces, those on clocks, and those on
-- messages
abbrev pub first_measures : List Measure
first_measures =
    NoTime ∷ OverADay ∷ Valid ∷ Refused ManyEvents ∷ Refused EventTwice ∷ Refused SentTwice
    ∷ Refused ReceivedTwice ∷ Refused ClockRange ∷ []

abbrev pub clock_measures : List Measure
clock_measures = NoOffset ∷ Contradiction ∷ []

abbrev pub message_measures : List Measure
message_measures = NeverReceived ∷ NeverSent ∷ []

-- the row of the slowest twentieth of the traces: how many of them are refused
abbrev pub slowest_tally_row : (requests : List (List ℕ)) → (valid slowest : Tally) → List ℕ
slowest_tally_row requests valid t =
    row_text (codes "refused") (slowest_level valid t) t.count t.of (example_at requests t.first)
    (codes "slowest twentieth")

abbrev pub slowest_row : (requests : List (List ℕ)) → List TraceFacts → List ℕ
slowest_row requests facts =
    slowest_tally_row requests (tally_of (counted Valid) (counted_of Valid) facts)
    (tally_of (counts_slow_refused facts) (counts_slow facts) facts)

-- a note where all events are in the first year after 1970, since the unit is then likely wrong
abbrev pub level_of_times : (greatest : ℕ) → Level
level_of_times greatest = if nat_lt greatest (365 * nanoseconds_per_day) then Note else Fine

-- the least and the greatest time in nanoseconds since 1970, 0 where there is no event
abbrev pub extremes_row : Level → (least greatest : ℕ) → List ℕ
extremes_row level least greatest =
    row_text (codes "time") level least greatest no_example (codes "least and greatest")

abbrev pub times_row : Option Times → List ℕ
times_row None = extremes_row Fine 0 0
times_row (Some t) = extremes_row (level_of_times t.greatest) t.least t.greatest

-- from the day of the first event to that of the last one, both counted
abbrev pub count_days : Option Times → ℕ
count_days None = 0
count_days (Some t) = t.greatest / nanoseconds_per_day - t.least / nanoseconds_per_day + 1

abbrev pub days_row : Option Times → (traces : ℕ) → List ℕ
days_row times traces =
    row_text (codes "time") Fine (count_days times) traces no_example (codes "days")

-- the requests of traces
abbrev pub requests_in : List PlainTrace → List (List ℕ)
requests_in traces = map (λ (t : PlainTrace). t.request) traces

-- the row of the traces that lack an event that nine of ten of their group have
abbrev pub cut_tally_row : (requests : List (List ℕ)) → Tally → List ℕ
cut_tally_row requests t =
    row_text (codes "cut") (share_level t) t.count t.of (example_at requests t.first)
    (codes "lacks what nine of ten have")

abbrev pub cut_row : List PlainTrace → List ℕ
cut_row traces =
    cut_tally_row (requests_in traces) (tally_of (counts_cut traces) (counts_grouped traces) traces)

-- the rows on times and verdicts of traces with these facts
abbrev pub verdict_rows : List PlainTrace → List TraceFacts → Option Times → List ℕ
verdict_rows traces facts times =
    times_row times ++ days_row times (length facts)
    ++ flat_map (measure_row (requests_in traces) facts) first_measures
    ++ slowest_row (requests_in traces) facts

-- those on the clocks of machines, of which they tell this
abbrev pub clock_rows : List PlainTrace → List TraceFacts → List NamedClock → List ℕ
clock_rows traces facts told =
    flat_map (measure_row (requests_in traces) facts) clock_measures ++ machine_rows told

-- those on messages, on traces that were cut short, and on waits
abbrev pub message_rows : List PlainTrace → List TraceFacts → List ℕ
message_rows traces facts =
    flat_map (measure_row (requests_in traces) facts) message_measures
    ++ cut_row traces ++ measure_row (requests_in traces) facts Wait

-- the rows on traces with these facts, which tell this of their machines
abbrev pub trace_rows : List PlainTrace → List TraceFacts → List NamedClock → Option Times
    → List ℕ
trace_rows traces facts told times =
    verdict_rows traces facts times ++ clock_rows traces facts told ++ message_rows traces facts

-- these are the least and the greatest time of all events of traces with these facts
abbrev pub AreTimesOf : List TraceFacts → Option Times → Type 0
AreTimesOf facts times = MatchOption times (facts ≡ []) (AreExtremes facts)

-- the rows on traces, by the facts of each and what they tell of their machines
pub record AreTraceRows (traces : List PlainTrace) (rows : List ℕ) : Type 0 where
  pub facts : List TraceFacts
  pub found : AllZip IsFacts traces facts
  pub told : List NamedClock
  pub heard : AreTold traces told
  pub times : Option Times
  pub extremes : AreTimesOf facts times
  pub printed : rows ≡ trace_rows traces facts told times
