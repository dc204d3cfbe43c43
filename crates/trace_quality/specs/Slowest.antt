-- The slowest traces, by their events' own clocks.
use Rattle.std.specs.Prelude.{ℕ, ◌*◌, ◌&&◌, List, Bool, count_by, is_some, length, map, nat_lt}
use Rattle.trace_quality.specs.Measures.{one_if}
use Rattle.trace_quality.specs.Times.{span_of}
use Rattle.trace_quality.specs.declared.trace_facts.TraceFacts.{TraceFacts}

-- how long each trace lasted
abbrev pub spans_of : List TraceFacts → List ℕ
spans_of facts = map (λ (f : TraceFacts). span_of f.times) facts

-- the one lasted longer than the other
abbrev pub outlasts : TraceFacts → TraceFacts → Bool
outlasts g f = nat_lt (span_of f.times) (span_of g.times)

-- fewer than one in twenty of the traces lasted longer
abbrev pub is_slow : List TraceFacts → TraceFacts → Bool
is_slow facts f = nat_lt (20 * count_by (λ g. outlasts g f) facts) (length facts)

-- one for each slow trace, and one for each of them that is refused
abbrev pub counts_slow : List TraceFacts → TraceFacts → ℕ
counts_slow facts f = one_if (is_slow facts f)

abbrev pub counts_slow_refused : List TraceFacts → TraceFacts → ℕ
counts_slow_refused facts f = one_if (is_slow facts f && is_some f.verdict.fault)
