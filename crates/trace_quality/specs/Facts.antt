-- What a trace tells of the quality of the input.
use Rattle.std.specs.Prelude.{ℕ, ◌≡◌, List, length, Option, Some, None}
use Rattle.trace_types.specs.declared.event.Event.{Event}
use Rattle.trace_types.specs.declared.trace.Trace.{Trace}
use Rattle.trace_types.specs.Batch.{PlainTrace}
use Rattle.trace_types.specs.Events.{receipts_of, sends_of}
use Rattle.segment_cut.specs.Cutting.{IsCut}
use Rattle.segment_cut.specs.Faults.{IsTraceFault}
use Rattle.segment_cut.specs.declared.trace_fault.TraceFault.{TraceFault}
use Rattle.trace_quality.specs.Clocks.{AreClocks}
use Rattle.trace_quality.specs.Messages.{count_alone, count_messages}
use Rattle.trace_quality.specs.Times.{AreTimes}
use Rattle.trace_quality.specs.Waits.{count_waits}
use Rattle.trace_quality.specs.declared.messages.MessageCounts.{MessageCounts}
use Rattle.trace_quality.specs.declared.trace_facts.TraceFacts.{TraceFacts}
use Rattle.trace_quality.specs.declared.verdicts.Verdict.{Verdict}

-- the trace is valid, and has so many segments, of which so many are waits; or it has this fault
abbrev pub IsJudged : PlainTrace → Option TraceFault → (segments waits : ℕ) → Type 0
IsJudged t None segments waits =
    (trace : Trace) × IsCut t.request t.events trace × (segments ≡ length trace.segments)
    × (waits ≡ count_waits t.events trace.segments)
IsJudged t (Some fault) segments waits =
    IsTraceFault t.events fault × (segments ≡ 0) × (waits ≡ 0)

abbrev pub IsVerdict : PlainTrace → Verdict → Type 0
IsVerdict t v = IsJudged t v.fault v.segments v.waits

-- how many messages are sent and how many of them never received, and the other way round
pub record AreMessages (events : List Event) (m : MessageCounts) : Type 0 where
  pub sent : m.sent ≡ count_messages (sends_of events)
  pub lost : m.lost ≡ count_alone (receipts_of events) (sends_of events)
  pub received : m.received ≡ count_messages (receipts_of events)
  pub unsent : m.unsent ≡ count_alone (sends_of events) (receipts_of events)

-- the facts of a trace
pub record IsFacts (t : PlainTrace) (f : TraceFacts) : Type 0 where
  pub times : AreTimes t.events f.times
  pub verdict : IsVerdict t f.verdict
  pub messages : AreMessages t.events f.messages
  pub clocks : AreClocks t.events f.verdict.fault f.clocks
