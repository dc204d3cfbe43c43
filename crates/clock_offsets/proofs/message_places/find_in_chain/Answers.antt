use Rattle.std.proofs.Common.{◌≡◌, ◌∙◌, sym, ◌+◌, ◌-◌, ◌<◌, length, slice_index_or, arith}
use Rattle.clock_offsets.proofs.ChainLemmas.{way_start, way_on, way_falls, entry_is, no_entry}
use Rattle.clock_offsets.proofs.message_places.find_in_chain.Goals as goal

pub older-init : goal.older-init
older-init c = way_start c.args.chains.now c.args.entries.now c.args.digest c.args.message.now c.pick_chain.result c.requires.digests c.requires.chained c.requires.digest c.pick_chain.ensures.chain c.pick_chain.ensures.within

pub older-smaller : goal.older-smaller
older-smaller c =
    let now : (c.older.next - 1) + 1 ≡ c.older.next = omega arith in
    way_falls c.args.chains.now c.args.entries.now (c.older.next - 1) c.older.next c.requires.chained now c.older.invariant.within

pub older-preserved : goal.older-preserved
older-preserved c =
    let now : (c.older.next - 1) + 1 ≡ c.older.next = omega arith in
    let lt : c.older.next - 1 < length c.args.entries.now = omega (arith, c.older.invariant.within) in
    way_on c.args.chains.now c.args.entries.now c.args.digest c.args.message.now c.older.next (c.older.next - 1) (slice_index_or c.args.entries.now (c.older.next - 1) no_entry) c.requires.digests c.requires.chained c.requires.digest now (entry_is c.args.entries.now (c.older.next - 1) lt) c.older.invariant (sym c.is_entry_of.ensures ∙ c.if-is_entry_of.false)
