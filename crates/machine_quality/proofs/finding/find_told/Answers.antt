use Rattle.std.proofs.Common.{◌<◌, ◌^◌, None, length, get_or, subst, arith, rules}
use Rattle.std.proofs.lemmas.Option.{get_or_from_slice_get, slice_get_within}
use Rattle.event_table.specs.Texts.{TextLists}
use Rattle.trace_types.specs.Batch.{PlainTrace}
use Rattle.trace_types.specs.Times.{AreTimely}
use Rattle.trace_quality.specs.Facts.{IsFacts}
use Rattle.trace_quality.specs.declared.trace_facts.TraceFacts.{TraceFacts}
use Rattle.machine_quality.specs.Told.{AreBelow}
use Rattle.machine_quality.specs.inner.Numbered.{Appends}
use Rattle.machine_quality.proofs.ListLemmas.{zip_at, zip_long}
use Rattle.machine_quality.proofs.TellingLemmas.{told_more}
use Rattle.machine_quality.proofs.finding.find_told.Goals as goal

-- what the check writes beyond the end of facts
abbrev nothing : TraceFacts
nothing = record {
  times = record { least = 0; greatest = 0 };
  verdict = record { fault = None; segments = 0; waits = 0 };
  messages = record { sent = 0; lost = 0; received = 0; unsent = 0 };
  clocks = record { all = 0; reached = 0; unreached = 0; contradicted = 0 };
}

pub bounds-facts-index : goal.bounds-facts-index
bounds-facts-index c = omega (arith, zip_long IsFacts c.args.gathered.now.traces c.args.facts.now c.requires.known, c.traces-test.true, c.len-index-end.ensures)

pub offset_bounds-facts-index : goal.offset_bounds-facts-index
offset_bounds-facts-index c =
    let within : c.traces.index < length c.args.facts.now = omega (arith, zip_long IsFacts c.args.gathered.now.traces c.args.facts.now c.requires.known, c.traces-test.true, c.len-index-end.ensures) in
    search rules

pub push_told-requires-clause-few : goal.push_told-requires-clause-few
push_told-requires-clause-few c =
    let t = c.trace.result.trace in
    subst (λ (u : PlainTrace). length u.events < 2 ^ 32) (get_or_from_slice_get c.args.gathered.now.traces c.traces.index t t c.trace.ensures.trace)
    (c.requires.few c.traces.index t (slice_get_within c.args.gathered.now.traces c.traces.index t c.trace.ensures.trace))

pub push_told-requires-clause-timely : goal.push_told-requires-clause-timely
push_told-requires-clause-timely c =
    let t = c.trace.result.trace in
    subst (λ (u : PlainTrace). AreTimely u.events) (get_or_from_slice_get c.args.gathered.now.traces c.traces.index t t c.trace.ensures.trace)
    (c.requires.timely c.traces.index t (slice_get_within c.args.gathered.now.traces c.traces.index t c.trace.ensures.trace))

pub push_told-requires-clause-judged : goal.push_told-requires-clause-judged
push_told-requires-clause-judged c =
    let t = c.trace.result.trace in
    (subst (λ (u : PlainTrace). IsFacts u (get_or c.args.facts.now c.traces.index nothing)) (get_or_from_slice_get c.args.gathered.now.traces c.traces.index t t c.trace.ensures.trace)
    (zip_at IsFacts c.args.gathered.now.traces c.args.facts.now c.traces.index t nothing c.requires.known (slice_get_within c.args.gathered.now.traces c.traces.index t c.trace.ensures.trace))).verdict

pub traces-preserved : goal.traces-preserved
traces-preserved c =
    let t = c.trace.result.trace in
    let f : TraceFacts = get_or c.args.facts.now c.traces.index nothing in
    let known : IsFacts t f = subst (λ (u : PlainTrace). IsFacts u f) (get_or_from_slice_get c.args.gathered.now.traces c.traces.index t t c.trace.ensures.trace)
    (zip_at IsFacts c.args.gathered.now.traces c.args.facts.now c.traces.index t nothing c.requires.known (slice_get_within c.args.gathered.now.traces c.traces.index t c.trace.ensures.trace)) in
    let appended : Appends c.args.gathered.now.texts.machines t f.verdict.fault c.traces.told.items c.push_told.new.told.items = subst (λ (s : TextLists). Appends s.machines t f.verdict.fault c.traces.told.items c.push_told.new.told.items) c.trace.ensures.texts c.in_ok-push_told.ensures.appended in
    record {
      told = told_more c.args.gathered.now.traces c.args.gathered.now.texts.machines c.traces.index t f c.traces.told.items c.push_told.new.told.items c.trace.ensures.trace known c.traces.invariant.told appended;
      below = subst (λ (s : TextLists). AreBelow (length s.machines) c.push_told.new.told.items) c.trace.ensures.texts c.in_ok-push_told.ensures.within;
    }
