use Rattle.std.proofs.Common.{false, refl, arith}
use Rattle.segment_names.proofs.SlotLemmas.{slots_set}
use Rattle.segment_names.proofs.namer.find.Goals as goal

pub returns-then-is_of-clause-known : goal.returns-then-is_of-clause-known
returns-then-is_of-clause-known c =
    let slots = c.requires.slots in
    let count = slots.count in
    let right = slots.right c.slot_index-index.result (record { task = 0; start_event = 0; end_event = 0; name = 0; known_task = 0; has_element = false }) (omega arith) in
    right (c.if-is_of.ensures.filled refl) c.args.segment.now (c.if-is_of.ensures.of refl)

pub returns-clause-slots : goal.returns-clause-slots
returns-clause-slots c = slots_set c.args.catalogue.now c.args.texts.now c.args.slots.now c.slot_index-index.result c.in_ok-found.found c.args.segment.now c.requires.slots c.in_ok-found.ensures.of c.in_ok-found.ensures.known
