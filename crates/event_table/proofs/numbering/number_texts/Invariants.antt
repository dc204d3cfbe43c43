use Rattle.std.specs.Vec.Iter.{into_iter_items}
use Rattle.event_table.proofs.RenumberLemmas.{AreNumberedUpTo}
use Rattle.event_table.proofs.numbering.number_texts.Given as goal

-- the texts so far have their numbers
abbrev pub invariant-loop-text : goal.invariant-loop-text
invariant-loop-text l = AreNumberedUpTo l.fn.whole l.whole (into_iter_items l.initial.text-iterator) (into_iter_items l.text-iterator) l.numbers.items
