use Rattle.std.proofs.Common.{◌≡◌, ◌+◌, ◌<◌, ◌++◌, ℕ, List, length, get_or, drop, take, sym, ap, subst, ◌∙◌}
use Rattle.std.proofs.lemmas.List.{drop_more, take-append-drop}
use Rattle.std.proofs.lemmas.List.Concat.{flat_map-append}
use Rattle.event_table.specs.declared.event_numbers.EventNumbers.{EventNumbers}
use Rattle.event_table.specs.declared.numbered_part.NumberedPart.{NumberedPart}
use Rattle.event_table.specs.inner.Placing.{IsPlacing}
use Rattle.event_table.specs.inner.Renumbering.{part_events, whole_events}
use Rattle.event_table.proofs.StepLemmas.{next_part}
use Rattle.event_table.proofs.placing.place_parts.Goals as goal

-- the parts so far, this one, and those after it
cut : (parts : List NumberedPart) (i : ℕ) (part : NumberedPart) → i < length parts → part ≡ get_or parts i part
    → whole_events parts ≡ whole_events (take i parts) ++ (part_events part ++ whole_events (drop (i + 1) parts))
cut parts i part lt is =
    ap whole_events (sym (take-append-drop i parts)) ∙ flat_map-append part_events (take i parts) (drop i parts)
    ∙ ap (λ (ps : List NumberedPart). whole_events (take i parts) ++ whole_events ps) (drop_more parts i part lt)
    ∙ ap (λ (p : NumberedPart). whole_events (take i parts) ++ (part_events p ++ whole_events (drop (i + 1) parts))) (sym is)

pub place_part-requires : goal.place_part-requires
place_part-requires c =
    let parts = c.args.parts.now in
    let i = c.loop-part.part-index in
    let part = c.part-item.result in
    let p = c.requires.placing in record {
      placing = (
        whole_events (take i parts),
        whole_events parts,
        whole_events (drop (i + 1) parts),
        p.0,
        cut parts i part c.loop-part-test.true c.part-item.is,
        c.loop-part.invariant p.0 p.1,
      );
    }

pub loop-part-preserved : goal.loop-part-preserved
loop-part-preserved c = λ requests first.
    let parts = c.args.parts.now in
    let i = c.loop-part.part-index in
    let part = c.part-item.result in
    subst (λ (events : List EventNumbers). IsPlacing events (whole_events parts) requests c.place_part.new.next c.place_part.new.events)
    (ap (λ (p : NumberedPart). whole_events (take i parts) ++ part_events p) c.part-item.is ∙ sym (next_part parts i part c.loop-part-test.true))
    (c.place_part.ensures.placing (whole_events (take i parts)) (whole_events parts) (whole_events (drop (i + 1) parts)) requests
    (cut parts i part c.loop-part-test.true c.part-item.is) (c.loop-part.invariant requests first))
