use Rattle.std.proofs.Common.{◌≡◌, ◌+◌, ◌++◌, ◌∷◌, [], List, get_or, take, drop, length, sym, ap, subst, ◌∙◌, arith}
use Rattle.std.proofs.lemmas.List.{length-map, take_all}
use Rattle.event_table.specs.declared.event_numbers.EventNumbers.{EventNumbers}
use Rattle.event_table.specs.inner.Placing.{IsPlacing}
use Rattle.event_table.specs.inner.Renumbering.{part_events, renumbered}
use Rattle.event_table.proofs.StepLemmas.{event_at, later_events, next_events, nothing, own_at}
use Rattle.event_table.proofs.placing.place_part.Goals as goal

pub place_event-requires-clause-own : goal.place_event-requires-clause-own
place_event-requires-clause-own c = own_at c.args.part.now c.deref-event-items.result.now c.deref-event-items.ensures.value c.loop-event.event-index c.loop-event-test.true

pub place_event-requires-clause-placing : goal.place_event-requires-clause-placing
place_event-requires-clause-placing c =
    let part = c.args.part.now in
    let items = c.deref-event-items.result.now in
    let same = c.deref-event-items.ensures.value in
    let i = c.loop-event.event-index in
    let lt = c.loop-event-test.true in
    let p = c.requires.placing in
    let done = p.0 in
    let later = p.2 in
    let event : renumbered part (get_or items i nothing) ≡ get_or (part_events part) i nothing = sym (event_at part items same i lt) in (
      done ++ take i (part_events part),
      p.1,
      drop (i + 1) (part_events part) ++ later,
      p.3,
      p.4 ∙ later_events part items same i lt done later ∙ ap (λ (e : EventNumbers). (done ++ take i (part_events part)) ++ e ∷ (drop (i + 1) (part_events part) ++ later)) (sym event),
      c.loop-event.invariant done p.1 later p.3 p.4 p.5,
    )

pub loop-event-preserved : goal.loop-event-preserved
loop-event-preserved c =
    let part = c.args.part.now in
    let items = c.deref-event-items.result.now in
    let same = c.deref-event-items.ensures.value in
    let i = c.loop-event.event-index in
    let lt = c.loop-event-test.true in
    let event : renumbered part (get_or items i nothing) ≡ get_or (part_events part) i nothing = sym (event_at part items same i lt) in
    λ done all later requests all_is p.
    subst (λ (events : List EventNumbers). IsPlacing events all requests c.place_event.new.next c.place_event.new.events)
    (ap (λ (e : EventNumbers). (done ++ take i (part_events part)) ++ e ∷ []) event ∙ sym (next_events part items same i lt done))
    (c.place_event.ensures.placing (done ++ take i (part_events part)) all (drop (i + 1) (part_events part) ++ later) requests
    (all_is ∙ later_events part items same i lt done later ∙ ap (λ (e : EventNumbers). (done ++ take i (part_events part)) ++ e ∷ (drop (i + 1) (part_events part) ++ later)) (sym event))
    (c.loop-event.invariant done all later requests all_is p))

pub returns : goal.returns
returns c =
    let part = c.args.part.now in
    let past = c.loop-event-test.false in
    let items : length c.deref-event-items.result.now ≡ length part.events.items = ap (λ (es : List EventNumbers). length es) c.deref-event-items.ensures.value in
    let long = length-map part.events.items (renumbered part) in
    let whole : take c.loop-event.event-index (part_events part) ≡ part_events part = take_all c.loop-event.event-index (part_events part) (omega arith) in record {
      placing = λ done all later requests all_is p.
          subst (λ (events : List EventNumbers). IsPlacing (done ++ events) all requests c.loop-event.next c.loop-event.events) whole (c.loop-event.invariant done all later requests all_is p);
    }
