use Rattle.std.proofs.Common.{Bor, map}
use Rattle.trace_types.specs.declared.named_trace.NamedTrace.{NamedTrace}
use Rattle.name_meetings.proofs.TableLemmas.{TracesSoFar}
use Rattle.name_meetings.proofs.noting.note_traces.Given as goal

abbrev pub invariant-traces : goal.invariant-traces
invariant-traces g l = TracesSoFar l.names l.first g.G.Gap.value (map (λ (t : Bor NamedTrace). t.now) l.traces) l.index l.figures
