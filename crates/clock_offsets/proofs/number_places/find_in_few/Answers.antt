use Rattle.std.proofs.Common.{◌≡◌, ◌∙◌, sym, refl, ◌+◌, ◌-◌, ◌<◌, length, slice_index_or, arith}
use Rattle.clock_offsets.proofs.NumberChainLemmas.{few_start, few_on, entry_is, no_entry}
use Rattle.clock_offsets.proofs.number_places.find_in_few.Goals as goal

pub older-init : goal.older-init
older-init c = few_start c.args.entries.now c.args.group c.args.number _ refl

pub older-preserved : goal.older-preserved
older-preserved c =
    let now : (c.older.next - 1) + 1 ≡ c.older.next = omega arith in
    let lt : c.older.next - 1 < length c.args.entries.now = omega (arith, c.older.invariant.within) in
    few_on c.args.entries.now c.args.group c.args.number c.older.next (c.older.next - 1) (slice_index_or c.args.entries.now (c.older.next - 1) no_entry) now (entry_is c.args.entries.now (c.older.next - 1) lt) c.older.invariant (sym c.is_entry_of.ensures ∙ c.if-is_entry_of.false)
