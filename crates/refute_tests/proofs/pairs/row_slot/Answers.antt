use Rattle.std.proofs.Common.{arith}
use Rattle.refute_tests.proofs.MaskLemmas.{slot_of, slots_end}
use Rattle.refute_tests.proofs.pairs.row_slot.Goals as goal

pub overflow_mul-result : goal.overflow_mul-result
overflow_mul-result c = let slot = slot_of 0 c.args.greater c.requires.some c.place-place.result c.place-place.ensures in let end = slots_end c.pairs_follow.ensures c.args.greater c.requires.small in omega arith

pub overflow_add-result : goal.overflow_add-result
overflow_add-result c = let slot = slot_of 0 c.args.greater c.requires.some c.place-place.result c.place-place.ensures in let end = slots_end c.pairs_follow.ensures c.args.greater c.requires.small in omega arith

pub returns-clause-room : goal.returns-clause-room
returns-clause-room c = let slot = slot_of 0 c.args.greater c.requires.some c.place-place.result c.place-place.ensures in let end = slots_end c.pairs_follow.ensures c.args.greater c.requires.small in omega arith
