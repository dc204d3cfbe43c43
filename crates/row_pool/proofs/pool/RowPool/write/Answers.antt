use Rattle.std.proofs.Common.{ap}
use Rattle.row_pool.proofs.PoolLemmas.{live_in, within_live, written, seen}
use Rattle.row_pool.proofs.pool.RowPool.write.Goals as goal

pub write-requires-clause-row : goal.write-requires-clause-row
write-requires-clause-row c =
    within_live c.self.inside _ c.self.invariant (live_in c.self.inside c.args.self.now _ _ c.self.view_is c.number.ensures c.requires.live)

pub invariant_of-self : goal.invariant_of-self
invariant_of-self c = (written c.self.inside c.args.self.now _ _ _ _ c.self.view_is c.self.invariant c.number.ensures c.requires.live c.write.ensures).sound

pub returns : goal.returns
returns c =
    let h = written c.self.inside c.args.self.now _ _ _ _ c.self.view_is c.self.invariant c.number.ensures c.requires.live c.write.ensures in
    seen c.self.inside c.args.self.now _ _ _ _ _ _ c.self.view_is h (ap (λ q. q.spare) c.self.view_is)
