use Rattle.std.proofs.Common.{◌≡◌, ◌<◌, ℕ, List, get_or, take, length, sym, ap, subst, ◌∙◌, arith}
use Rattle.std.proofs.lemmas.List.{length-map}
use Rattle.std.proofs.lemmas.List.Folds.{length-flat_map-take}
use Rattle.event_table.specs.declared.event_numbers.EventNumbers.{EventNumbers}
use Rattle.event_table.specs.declared.numbered_part.NumberedPart.{NumberedPart}
use Rattle.event_table.specs.inner.Placing.{AreCounted, HaveRequestsBelow}
use Rattle.event_table.specs.inner.Renumbering.{part_events, renumbered, whole_events}
use Rattle.event_table.proofs.StepLemmas.{each_part}
use Rattle.event_table.proofs.counting.count_requests.Goals as goal

pub count_part-requires-clause-below : goal.count_part-requires-clause-below
count_part-requires-clause-below c =
    let parts = c.args.parts.now in
    let i = c.loop-part.part-index in
    let part = c.part-item.result in
    let long : length c.deref_mut.result.now ≡ c.args.count = ap (λ (xs : List ℕ). length xs) c.deref_mut.ensures.value ∙ c.loop-part.invariant.long in
    subst (λ (count : ℕ). HaveRequestsBelow count (part_events part)) (sym long)
    (subst (λ (p : NumberedPart). HaveRequestsBelow c.args.count (part_events p)) (sym c.part-item.is) (each_part (λ (e : EventNumbers). e.request < c.args.count) parts i part c.loop-part-test.true c.requires.below))

pub count_part-requires-clause-counted : goal.count_part-requires-clause-counted
count_part-requires-clause-counted c =
    let parts = c.args.parts.now in
    let i = c.loop-part.part-index in
    let part = c.part-item.result in
    let up = length-flat_map-take part_events parts i part c.loop-part-test.true in
    let same : length (part_events (get_or parts i part)) ≡ length part.events.items = ap (λ (p : NumberedPart). length (part_events p)) (sym c.part-item.is) ∙ length-map part.events.items (renumbered part) in
    let few = c.requires.few in (
      whole_events (take i parts),
      subst (λ (counts : List ℕ). AreCounted (whole_events (take i parts)) c.loop-part.requests.items counts) (sym c.deref_mut.ensures.value) c.loop-part.invariant.counted,
      omega arith,
    )
