use Rattle.std.proofs.Common.{arith, refl}
use Rattle.mystery_io.proofs.FeedLemmas.{counted_on}
use Rattle.mystery_io.proofs.feeder.Feeder.add.Goals as goal

pub returns-clause-feeds : goal.returns-clause-feeds
returns-clause-feeds g c = counted_on _ _ _ c.args.count c.index.result.now (omega arith) (omega (arith, c.args.self.now.buffer.ok.0)) c.index.ensures refl refl refl refl refl
