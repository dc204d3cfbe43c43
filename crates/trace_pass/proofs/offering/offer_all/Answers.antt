use Rattle.std.proofs.Common.{rules, ◌≡◌, List, length, drop, ap, subst, sym, ◌∙◌}
use Rattle.std.proofs.lemmas.List.{drop_at}
use Rattle.word_rule.specs.Holdings.{Holding}
use Rattle.trace_rules.specs.Halving.{shares_of}
use Rattle.trace_pass.specs.States.{RecordingState}
use Rattle.trace_pass.specs.Watch.{HasWatched}
use Rattle.trace_rules.specs.declared.watch_line.WatchLine.{WatchLine}
use Rattle.trace_pass.specs.inner.Parts.{PartState, part_of, rest_of}
use Rattle.trace_pass.proofs.PartLemmas.{watched_part}
use Rattle.trace_pass.proofs.offering.offer_all.Goals as goal

pub returns-in-Ok-offer_block-clause-watched : goal.returns-in-Ok-offer_block-clause-watched
returns-in-Ok-offer_block-clause-watched g c =
    let every = c.args.every in let width = c.args.recorder.now.table.width in let mine = c.recording.inside in
    let new : RecordingState = record { pass = c.in-Ok-offer_block.pass; traces = c.in-Ok.all.items; names = mine.names } in
    let part : PartState = part_of mine.pass c.as_slice.result.now c.len-base.result mine.names in
    let base : length mine.traces.items ≡ c.len-base.result = search rules in
    let rest : rest_of part ≡ c.args.traces.items = ap (drop c.len-base.result) (c.as_slice.ensures.value ∙ c.in-Ok.ensures.ok) ∙ drop_at mine.traces.items c.args.traces.items c.len-base.result base in
    let after : Holding → RecordingState = λ h. record { pass = h; traces = c.in-Ok.all.items; names = mine.names } in
    subst (λ (h : Holding). HasWatched every width (shares_of c.args.traces.items c.args.recording.pass.view.shares) c.args.recording (after h) c.of.result) (sym c.tell.ensures.same)
    (subst (λ (r : RecordingState). HasWatched every width (shares_of c.args.traces.items r.pass.view.shares) r new c.of.result) c.recording.view_is
    (subst (λ (ls : List WatchLine). HasWatched every width (shares_of c.args.traces.items mine.pass.view.shares) (record { pass = mine.pass; traces = mine.traces.items; names = mine.names }) new ls) (sym c.of.ensures)
    (watched_part every width _ part c.in-Ok-offer_block.pass c.args.traces.items mine.traces.items c.in-Ok.all.items c.in-Ok-offer_block.lines.items rest c.in-Ok-offer_block.ensures.ok.worked.watched)))
