use Rattle.std.proofs.Common.{◌≡◌, ◌<◌, Bor, List, length, map, get_or, sym, ap, ◌∙◌, subst, arith}
use Rattle.std.proofs.lemmas.List.{get_or-map, length-map, take_all}
use Rattle.trace_types.specs.declared.named_trace.NamedTrace.{NamedTrace}
use Rattle.name_meetings.specs.inner.Noting.{Meetings, TellsBoth, and_then, meetings_among, met_onward, met_turned, onward_meeting, turned_meeting}
use Rattle.name_meetings.proofs.TableLemmas.{traces_more, traces_none, traces_some}
use Rattle.name_meetings.proofs.noting.note_traces.Goals as goal

pub traces-init : goal.traces-init
traces-init g c = traces_none c.args.names c.args.first g.G.Gap.value (map (λ (t : Bor NamedTrace). t.now) c.args.traces.now) c.args.figures.now c.requires.none

pub note_trace-requires-clause-told : goal.note_trace-requires-clause-told
note_trace-requires-clause-told g c = λ κs live. traces_some c.args.names c.args.first g.G.Gap.value (map (λ (t : Bor NamedTrace). t.now) c.args.traces.now) c.traces.index c.traces.figures c.traces.invariant

pub traces-preserved : goal.traces-preserved
traces-preserved g c =
    let value = g.G.Gap.value in
    let now = λ (t : Bor NamedTrace). t.now in
    let lent : List (Bor NamedTrace) = c.args.traces.now in
    let traces : List NamedTrace = map now lent in
    let names = c.args.names in
    let first = c.args.first in
    let at = c.traces.index in
    let x : Bor NamedTrace = c.index-traces-index.result in
    let long = length-map lent now in
    let inside : at < length lent = omega (arith, c.traces-test.true, c.traces.auto.index-end) in
    let e : get_or traces at x.now ≡ x.now = get_or-map now lent at x x.now inside ∙ sym (ap now c.index-traces-index.is) in
    let after = c.note_trace.new.figures in
    traces_more names first value traces at x.now c.traces.figures after (omega (arith, long, inside)) c.traces.invariant
    (subst (λ (t : NamedTrace). (met back : Meetings) → TellsBoth value names first c.traces.figures met back → TellsBoth value names first after (and_then met (meetings_among (onward_meeting at t) t.segments t.segments)) (and_then back (meetings_among (turned_meeting at t) t.segments t.segments))) (sym e) c.note_trace.ensures.told)
    c.note_trace.ensures.few

pub returns : goal.returns
returns g c =
    let now = λ (t : Bor NamedTrace). t.now in
    let traces : List NamedTrace = map now c.args.traces.now in
    let long = length-map c.args.traces.now now in
    subst (λ (l : List NamedTrace). TellsBoth g.G.Gap.value c.args.names c.args.first c.traces.figures (met_onward l) (met_turned l))
    (take_all c.traces.index traces (omega (arith, c.traces-test.false, c.traces.auto.index-end, long))) c.traces.invariant.told
