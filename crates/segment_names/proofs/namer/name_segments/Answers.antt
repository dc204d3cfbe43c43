use Rattle.std.proofs.Common.{arith}
use Rattle.segment_cut.specs.NumberedCuts.{segment_under}
use Rattle.segment_names.proofs.NumberingLemmas.{short_keys}
use Rattle.segment_names.proofs.SlotLemmas.{all_numbered, known_below, next_numbered, unknown_there}
use Rattle.segment_names.proofs.namer.name_segments.Goals as goal

pub returns-in_default-clause-unknown : goal.returns-in_default-clause-unknown
returns-in_default-clause-unknown c = unknown_there c.args.catalogue.now c.args.texts.now c.args.segments.now c.loop-segment.segment-index c.segment-item.result c.loop-segment-test.true c.segment-item.is c.in_default.ensures.absent

pub make_by_slot-requires-clause-name : goal.make_by_slot-requires-clause-name
make_by_slot-requires-clause-name c = (known_below c.args.catalogue.now (segment_under c.args.texts.now c.segment-item.result) c.in-Some.slot c.names-names.ensures.kept c.in-Some.ensures.known).0

pub make_by_slot-requires-clause-task : goal.make_by_slot-requires-clause-task
make_by_slot-requires-clause-task c = (known_below c.args.catalogue.now (segment_under c.args.texts.now c.segment-item.result) c.in-Some.slot c.names-names.ensures.kept c.in-Some.ensures.known).1

pub loop-segment-preserved : goal.loop-segment-preserved
loop-segment-preserved c =
    let v = c.loop-segment.invariant in
    let e = c.in_ok-number.ensures in
    let told = c.make_by_slot.ensures in
    let keys = c.loop-segment.elements.keys in
    let new = c.number_element.new.elements.keys in record {
      slots = c.in-Some.ensures.slots;
      numbers = next_numbered c.args.catalogue.now keys new e.grown.0 c.args.texts.now c.args.segments.now c.loop-segment.segment-index c.loop-segment.named.items c.push.new.self.items c.make_by_slot.result c.segment-item.result
          c.in-Some.slot c.in_ok-element.element c.in_ok-number.number v.numbers c.loop-segment-test.true c.segment-item.is c.in-Some.ensures.known c.in_ok-element.ensures e.grown.1 e.differ e.keys e.number
          told.name told.task told.element told.start told.end c.in_ok-push.ensures.items;
      few = short_keys keys new c.in_ok-element.element c.loop-segment.segment-index e.keys v.few;
    }

pub returns-clause-named : goal.returns-clause-named
returns-clause-named c = all_numbered c.args.catalogue.now c.loop-segment.elements.keys c.args.texts.now c.args.segments.now c.loop-segment.segment-index c.loop-segment.named.items c.names-names.ensures.kept c.loop-segment.invariant.numbers (omega arith)
