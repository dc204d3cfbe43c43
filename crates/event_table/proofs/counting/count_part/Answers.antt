use Rattle.std.proofs.Common.{◌≡◌, List, ◌++◌, get_or, take, sym, subst, ◌∙◌, length-append, arith}
use Rattle.std.proofs.lemmas.List.{length-map, length-take}
use Rattle.event_table.specs.declared.event_numbers.EventNumbers.{EventNumbers}
use Rattle.event_table.specs.inner.Placing.{AreCounted}
use Rattle.event_table.specs.inner.Renumbering.{part_events, renumbered}
use Rattle.event_table.proofs.CountLemmas.{counted_more, few_with}
use Rattle.event_table.proofs.StepLemmas.{next_events, nothing, request_at, within_part}
use Rattle.event_table.proofs.counting.count_part.Goals as goal

pub count_event-requires-clause-within : goal.count_event-requires-clause-within
count_event-requires-clause-within c =
    let part = c.args.part.now in
    let items = c.deref-event-items.result.now in
    let i = c.loop-event.event-index in
    let inside = within_part part items c.deref-event-items.ensures.value i c.loop-event-test.true in
    let key : (get_or (part_events part) i nothing).request ≡ c.request.result = request_at part items c.deref-event-items.ensures.value i c.loop-event-test.true c.request.result c.request.ensures in
    let below = c.requires.below i nothing inside in
    let long = c.loop-event.invariant.long in
    omega arith

pub count_event-requires-clause-few : goal.count_event-requires-clause-few
count_event-requires-clause-few c =
    let part = c.args.part.now in
    let items = c.deref-event-items.result.now in
    let i = c.loop-event.event-index in
    let inside = within_part part items c.deref-event-items.ensures.value i c.loop-event-test.true in
    let key : (get_or (part_events part) i nothing).request ≡ c.request.result = request_at part items c.deref-event-items.ensures.value i c.loop-event-test.true c.request.result c.request.ensures in
    let below = c.requires.below i nothing inside in
    let long = c.loop-event.invariant.long in
    let done = c.requires.counted.0 in
    let so_far = c.loop-event.invariant.counted done c.requires.counted.1 in
    let count = so_far.each c.request.result (omega arith) in
    let few = few_with (done ++ take i (part_events part)) c.request.result in
    let sum = length-append done (take i (part_events part)) in
    let taken = length-take i (part_events part) in
    let all = length-map part.events.items (renumbered part) in
    let room = c.requires.counted.2 in
    omega arith

pub loop-event-preserved : goal.loop-event-preserved
loop-event-preserved c =
    let part = c.args.part.now in
    let items = c.deref-event-items.result.now in
    let i = c.loop-event.event-index in
    let event = get_or (part_events part) i nothing in
    let inside = within_part part items c.deref-event-items.ensures.value i c.loop-event-test.true in
    let key : event.request ≡ c.request.result = request_at part items c.deref-event-items.ensures.value i c.loop-event-test.true c.request.result c.request.ensures in
    let below = c.requires.below i nothing inside in
    let long = c.loop-event.invariant.long in record {
      counted = λ done counted.
          subst (λ (events : List EventNumbers). AreCounted events c.count_event.new.requests.items c.count_event.new.counts) (sym (next_events part items c.deref-event-items.ensures.value i c.loop-event-test.true done))
          (counted_more (done ++ take i (part_events part)) event c.request.result c.loop-event.requests.items c.loop-event.counts c.count_event.new.requests.items c.count_event.new.counts
          (c.loop-event.invariant.counted done counted) key (omega arith) c.in_ok-count_event.ensures.counts c.in_ok-count_event.ensures.requests);
      long = c.in_ok-count_event.ensures.long ∙ long;
    }
