use Rattle.std.proofs.Common.{◌<◌, ◌∙◌, All, List, ap, arith, length, subst, sym}
use Rattle.trace_types.specs.Batch.{PlainTrace}
use Rattle.trace_types.specs.Times.{AreTimely}
use Rattle.event_lines.specs.LineParts.{lines_of_runs}
use Rattle.event_table.specs.Gathered.{events_of_tables}
use Rattle.inspect_run.proofs.LoggedLemmas.{events_few, events_timely}
use Rattle.inspect_run.proofs.ResultLemmas.{if_ok_with}
use Rattle.inspect_run.proofs.traces.gather_traces.Goals as goal

pub gather-requires-clause-few : goal.gather-requires-clause-few
gather-requires-clause-few g c κs within =
    let lines = lines_of_runs c.args.runs.items in
    let same = c.into_parts.ensures ∙ c.in_ok-events.ensures in
    omega (arith, ap length same, events_few lines, c.requires.short)

pub returns-clause-count : goal.returns-clause-count
returns-clause-count g c =
    let lines = lines_of_runs c.args.runs.items in
    let events = events_of_tables c.into_parts.result.items in
    let same = c.into_parts.ensures ∙ c.in_ok-events.ensures in
    if_ok_with c.gather.result (λ x. x.traces) (λ (ts : List PlainTrace). length ts < 4294967296) _ c.gather.ensures.traces (omega (arith, c.traces_are_few.ensures events, ap length same, events_few lines, c.requires.short))

pub returns-clause-few : goal.returns-clause-few
returns-clause-few g c =
    let lines = lines_of_runs c.args.runs.items in
    let events = events_of_tables c.into_parts.result.items in
    let same = c.into_parts.ensures ∙ c.in_ok-events.ensures in
    let short : length events < 4294967296 = omega (arith, ap length same, events_few lines, c.requires.short) in
    if_ok_with c.gather.result (λ x. x.traces) (All (λ (t : PlainTrace). length t.events < 4294967296)) _ c.gather.ensures.traces (c.traces_keep_facts.ensures.few events 4294967296 short)

pub returns-clause-timely : goal.returns-clause-timely
returns-clause-timely g c =
    let lines = lines_of_runs c.args.runs.items in
    let events = events_of_tables c.into_parts.result.items in
    let same = c.into_parts.ensures ∙ c.in_ok-events.ensures in
    let timely : AreTimely events = subst AreTimely (sym same) (events_timely lines c.requires.known) in
    if_ok_with c.gather.result (λ x. x.traces) (All (λ (t : PlainTrace). AreTimely t.events)) _ c.gather.ensures.traces (c.traces_keep_facts.ensures.timely events timely)
