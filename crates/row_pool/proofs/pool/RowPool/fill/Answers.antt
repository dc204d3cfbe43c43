use Rattle.std.proofs.Common.{ap}
use Rattle.std.specs.FinMap.{insert}
use Rattle.word_rows.specs.Words.{full_words as full}
use Rattle.row_pool.proofs.PoolLemmas.{live_in, within_live, written, seen_at}
use Rattle.row_pool.proofs.pool.RowPool.fill.Goals as goal

pub fill-requires : goal.fill-requires
fill-requires c =
    within_live c.self.inside _ c.self.invariant (live_in c.self.inside c.args.self.now _ _ c.self.view_is c.number.ensures c.requires)

pub invariant_of-self : goal.invariant_of-self
invariant_of-self c = (written c.self.inside c.args.self.now _ _ _ _ c.self.view_is c.self.invariant c.number.ensures c.requires c.fill.ensures).sound

pub returns : goal.returns
returns c =
    let h = written c.self.inside c.args.self.now _ _ _ _ c.self.view_is c.self.invariant c.number.ensures c.requires c.fill.ensures in
    seen_at c.self.inside c.args.self.now _ _ _ _ _ _ _ c.self.view_is h (ap (λ q. insert c.args.self.now.rows c.args.id.now (full q.width)) c.self.view_is) (ap (λ q. q.spare) c.self.view_is)
