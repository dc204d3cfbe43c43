use Rattle.std.proofs.Common.{◌≡◌, List, [], ◌++◌, take, drop, length, sym, ap, subst, ◌∙◌, arith}
use Rattle.event_table.specs.declared.event_numbers.EventNumbers.{EventNumbers}
use Rattle.event_table.specs.inner.Cuts.{AreStops, cut_at}
use Rattle.event_table.specs.inner.Placing.{IsPlacing}
use Rattle.event_table.specs.inner.Renumbering.{whole_events}
use Rattle.event_table.proofs.GroupLemmas.{placed_groups, placed_stops, placing_slices, sizes_few, written_back}
use Rattle.event_table.proofs.placing.place_block.Goals as goal

pub start_requests-requires-clause-few : goal.start_requests-requires-clause-few
start_requests-requires-clause-few c = sizes_few (whole_events c.args.parts.now) c.args.counts.now c.args.requests.now c.requires

pub place_parts-requires : goal.place_parts-requires
place_parts-requires c = record {
  placing = (
    c.args.requests.now,
    placing_slices (whole_events c.args.parts.now) c.args.counts.now c.args.requests.now c.requires c.in_ok-next.next.items c.deref_mut.result.now c.start_requests.new.next c.deref_mut-3.result.now c.in_ok-next.next.len c.in_ok-count.count
        c.in_ok-events.events.items c.deref_mut-2.result.now c.deref_mut.ensures.value c.in_ok-count.ensures.long c.deref_mut-3.ensures.value (let fits = c.in_ok-next.next.ok in omega arith) (let fits = c.in_ok-next.next.ok in let places = c.in_ok-next.ensures.len in omega arith)
        c.in_ok-count.ensures.starts c.in_ok-count.ensures.nowhere c.deref_mut-2.ensures.value (let fits = c.in_ok-events.events.ok in let room = c.in_ok-events.ensures.len in omega arith) c.in_ok-count.ensures.sum,
  );
}

pub invariant_of-result : goal.invariant_of-result
invariant_of-result c =
    let events = c.in_ok-events.events in
    let kept = c.place_parts.auto.events in
    let room = events.ok in
    let out : length c.deref_mut-2.result.now ≡ length events.items = ap (λ (xs : List EventNumbers). length xs) c.deref_mut-2.ensures.value in
    let count = c.in_ok-events.ensures.len in
    let sum = c.in_ok-count.ensures.sum in
    let back : take events.len (c.place_parts.new.events ++ drop (length c.place_parts.new.events) events.items) ≡ c.place_parts.new.events = written_back events.len events.items c.place_parts.new.events (omega arith) (omega arith) in record {
      cut = subst (λ (es : List EventNumbers). AreStops 0 c.start_requests.new.ends.items (length es)) (sym back)
          (placed_stops (whole_events c.args.parts.now) c.args.counts.now c.args.requests.now c.requires c.start_requests.new.ends.items c.place_parts.new.events c.in_ok-count.ensures.ends (omega arith));
    }

pub returns : goal.returns
returns c =
    let requests = c.args.requests.now in
    let events = c.in_ok-events.events in
    let kept = c.place_parts.auto.events in
    let room = events.ok in
    let out : length c.deref_mut-2.result.now ≡ length events.items = ap (λ (xs : List EventNumbers). length xs) c.deref_mut-2.ensures.value in
    let back : take events.len (c.place_parts.new.events ++ drop (length c.place_parts.new.events) events.items) ≡ c.place_parts.new.events = written_back events.len events.items c.place_parts.new.events (omega arith) (omega arith) in
    let first : IsPlacing [] (whole_events c.args.parts.now) requests c.deref_mut-3.result.now c.deref_mut-2.result.now =
    placing_slices (whole_events c.args.parts.now) c.args.counts.now c.args.requests.now c.requires c.in_ok-next.next.items c.deref_mut.result.now c.start_requests.new.next c.deref_mut-3.result.now c.in_ok-next.next.len c.in_ok-count.count
    c.in_ok-events.events.items c.deref_mut-2.result.now c.deref_mut.ensures.value c.in_ok-count.ensures.long c.deref_mut-3.ensures.value (let fits = c.in_ok-next.next.ok in omega arith) (let fits = c.in_ok-next.next.ok in let places = c.in_ok-next.ensures.len in omega arith)
    c.in_ok-count.ensures.starts c.in_ok-count.ensures.nowhere c.deref_mut-2.ensures.value (let fits = c.in_ok-events.events.ok in let room = c.in_ok-events.ensures.len in omega arith) c.in_ok-count.ensures.sum in
    ap (cut_at 0 c.start_requests.new.ends.items) back
    ∙ placed_groups (whole_events c.args.parts.now) c.args.counts.now requests c.requires c.place_parts.new.next c.start_requests.new.ends.items c.place_parts.new.events (c.place_parts.ensures.placing requests first) c.in_ok-count.ensures.ends
