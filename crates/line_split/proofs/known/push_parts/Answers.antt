use Rattle.std.proofs.Common.{◌≡◌, ◌≤◌, ◌∙◌, ◌++◌, ℕ, List, arith, ap, map, length}
use Rattle.std.proofs.lemmas.List.{take_all}
use Rattle.event_table.specs.LentEvents.{event_lent}
use Rattle.trace_types.specs.declared.event.Event.{Event}
use Rattle.line_split.specs.Parts as parts
use Rattle.line_split.specs.inner.Calls.{call_of_line}
use Rattle.line_split.specs.inner.Known.{event_part}
use Rattle.line_split.proofs.KnownLemmas.{event_more}
use Rattle.line_split.proofs.known.push_parts.Goals as goal

pub events-preserved : goal.events-preserved
events-preserved c =
    let call = call_of_line c.args.call in
    let e = event_lent c.event.result in
    let part : c.part_of.result ≡ event_part call e = c.part_of.ensures.part ∙ ap (λ (r : List ℕ). parts.part_of call.parts call.seed r) c.as_str.ensures in
    c.in_ok-push.ensures.items ∙ event_more call c.args.events.now c.events.index e c.events.parts.items c.args.parts.now.items c.part_of.result c.event.ensures part c.events.invariant

pub returns : goal.returns
returns c =
    let call = call_of_line c.args.call in
    let all : length c.args.events.now ≤ c.events.index = omega (arith, c.len-index-end.ensures) in
    c.events.invariant ∙ ap (λ (es : List Event). c.args.parts.now.items ++ map (event_part call) es) (take_all c.events.index c.args.events.now all)
