use Rattle.std.proofs.lemmas.List.{get_or_read}
use Rattle.day_partitions.proofs.SlotLemmas.{slots_removed}
use Rattle.day_partitions.proofs.dropping.drop_at.Goals as goal

pub returns-clause-slots : goal.returns-clause-slots
returns-clause-slots g c =
    let ds = c.args.days.now.items in
    slots_removed c.args.tree.now c.remove.new.self ds c.remove-dropped.new.self.items c.args.place c.remove-dropped.result c.requires.slots c.requires.place (λ e. get_or_read ds c.args.place _ c.requires.place c.remove-dropped.ensures.value e) c.remove.ensures.removed c.remove-dropped.ensures.items
