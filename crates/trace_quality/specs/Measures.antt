-- What is counted in a trace, by its facts.
use Rattle.std.specs.Prelude.{ℕ, ◌==◌, List, Bool, false, Option, codes, is_none, nat_lt}
use Rattle.std.specs.Prelude.{if◌then◌else◌}
use Rattle.std.specs.Option.{option_map_or}
use Rattle.std.specs.Str.{bytes_eq}
use Rattle.segment_cut.specs.Cutting.{nanoseconds_per_day}
use Rattle.segment_cut.specs.Faults.{fault_reason}
use Rattle.segment_cut.specs.declared.trace_fault.TraceFault.{TraceFault}
use Rattle.trace_quality.specs.Times.{span_of}
use Rattle.trace_quality.specs.declared.measure.Measure.{Measure}
use Rattle.trace_quality.specs.declared.measure.Measure.TheVariants.{NoTime, OverADay, Valid}
use Rattle.trace_quality.specs.declared.measure.Measure.TheVariants.{Refused, NeverReceived}
use Rattle.trace_quality.specs.declared.measure.Measure.TheVariants.{NeverSent, Wait}
use Rattle.trace_quality.specs.declared.measure.Measure.TheVariants.{NoOffset, Contradiction}
use Rattle.trace_quality.specs.declared.refusal.Refusal.{Refusal}
use Rattle.trace_quality.specs.declared.refusal.Refusal.TheVariants.{ManyEvents, EventTwice}
use Rattle.trace_quality.specs.declared.refusal.Refusal.TheVariants.{SentTwice, ReceivedTwice}
use Rattle.trace_quality.specs.declared.refusal.Refusal.TheVariants.{ClockRange}
use Rattle.trace_quality.specs.declared.trace_facts.TraceFacts.{TraceFacts}

-- the reason as it is printed
abbrev pub refusal_text : Refusal → List ℕ
refusal_text ManyEvents = codes "too many events"
refusal_text EventTwice = codes "repeated event"
refusal_text SentTwice = codes "repeated send"
refusal_text ReceivedTwice = codes "repeated receive"
refusal_text ClockRange = codes "clock out of range"

-- there is a fault, and it is printed as this reason
abbrev pub is_refused_for : Refusal → Option TraceFault → Bool
is_refused_for refusal fault =
    option_map_or (λ f. bytes_eq (fault_reason f) (refusal_text refusal)) fault false

-- one where the test passes, else none
abbrev pub one_if : Bool → ℕ
one_if passes = if passes then 1 else 0

-- how many the measure counts in a trace
abbrev pub counted : Measure → TraceFacts → ℕ
counted NoTime f = one_if (span_of f.times == 0)
counted OverADay f = one_if (nat_lt nanoseconds_per_day (span_of f.times))
counted Valid f = one_if (is_none f.verdict.fault)
counted (Refused refusal) f = one_if (is_refused_for refusal f.verdict.fault)
counted NoOffset f = f.clocks.unreached
counted Contradiction f = f.clocks.contradicted
counted NeverReceived f = f.messages.lost
counted NeverSent f = f.messages.unsent
counted Wait f = f.verdict.waits

-- of how many: the trace itself, its machines but the reference, those of them that have an offset,
-- its messages that are sent or received, or its segments
abbrev pub counted_of : Measure → TraceFacts → ℕ
counted_of NoTime f = 1
counted_of OverADay f = 1
counted_of Valid f = 1
counted_of (Refused refusal) f = 1
counted_of NoOffset f = f.clocks.all
counted_of Contradiction f = f.clocks.reached
counted_of NeverReceived f = f.messages.sent
counted_of NeverSent f = f.messages.received
counted_of Wait f = f.verdict.segments
