use Rattle.std.proofs.Common.{length, refl}
use Rattle.segment_cut.specs.inner.Keys.{key_times}
use Rattle.segment_cut.proofs.KeyLemmas.{keys_done, made_to}
use Rattle.segment_cut.proofs.ordering.sort_keys.Goals as goal

pub returns-2 : goal.returns-2
returns-2 c = keys_done c.args.tasks.now (key_times c.args.keys.items) (length c.args.tasks.now) c.args.keys.items c.sort_unstable.new.self.items (made_to c.args.tasks.now c.args.keys.items c.requires.made) refl c.sort_unstable.ensures.permutation c.sort_unstable.ensures.sorted
