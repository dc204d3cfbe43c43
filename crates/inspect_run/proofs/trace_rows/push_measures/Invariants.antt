use Rattle.std.proofs.Common.{◌≡◌, ◌++◌, take}
use Rattle.std.specs.List.{flat_map}
use Rattle.inspect_run.specs.TraceRows.{measure_row, requests_in}
use Rattle.inspect_run.proofs.trace_rows.push_measures.Given as goal

-- the rows so far were appended
abbrev pub invariant-loop-measure : goal.invariant-loop-measure
invariant-loop-measure l = l.text.items ≡ l.fn.text.items ++ flat_map (measure_row (requests_in l.traces.traces) l.facts) (take l.measure-index l.measures)
