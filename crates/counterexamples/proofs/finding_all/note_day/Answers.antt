use Rattle.std.proofs.Common.{arith}
use Rattle.counterexamples.proofs.DayLemmas.{day_within}
use Rattle.counterexamples.proofs.FirstLemmas.{day_noted, some_trace_at}
use Rattle.counterexamples.proofs.finding_all.note_day.Goals as goal

pub overflow_cast-count : goal.overflow_cast-count
overflow_cast-count c =
    let part = day_within c.args.book.now.days c.args.place c.traces-2.result.now c.traces-2.ensures in
    let few = c.requires.kept.counted in
    omega arith

pub note_trace-requires-clause-stands : goal.note_trace-requires-clause-stands
note_trace-requires-clause-stands c = some_trace_at c.args.book.now.days (record { place = c.args.place; index = c.traces.index }) c.traces-2.result.now c.traces-2.ensures (omega arith)

pub returns : goal.returns
returns c = day_noted c.args.book.now c.traces.words c.args.place c.traces.index c.traces-2.result.now c.traces-2.ensures (omega arith) c.traces.invariant
