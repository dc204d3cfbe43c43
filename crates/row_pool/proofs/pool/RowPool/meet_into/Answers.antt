use Rattle.std.proofs.Common.{◌∙◌, sym, ap}
use Rattle.row_pool.specs.Pools.{with_row, row_at}
use Rattle.row_pool.specs.inner.Layout.{row_in}
use Rattle.row_pool.proofs.CallerLemmas.{row_at-same}
use Rattle.row_pool.proofs.PoolLemmas.{live_in, within_live, met_into}
use Rattle.row_pool.proofs.pool.RowPool.meet_into.Goals as goal

pub meet-requires-clause-rows : goal.meet-requires-clause-rows
meet-requires-clause-rows g c =
    let a = c.self.inside in let p = c.args.self.now in let s = c.self.invariant in (
      within_live a _ s (live_in a p _ _ c.self.view_is c.number.ensures c.requires.live.0),
      within_live a _ s (live_in a p _ _ c.self.view_is c.number-2.ensures c.requires.live.1),
      within_live a _ s (live_in a p _ _ c.self.view_is c.number-3.ensures c.requires.live.2),
    )

pub invariant_of-self : goal.invariant_of-self
invariant_of-self g c = (met_into c.self.inside c.args.self.now _ _ _ _ _ _ _ c.self.view_is c.self.invariant c.number.ensures c.number-2.ensures c.number-3.ensures c.requires.live.0 c.requires.live.1 c.requires.live.2 c.meet.ensures).sound

pub returns-clause-met : goal.returns-clause-met
returns-clause-met g c =
    let p = c.args.self.now in
    let m = met_into c.self.inside p _ _ _ _ _ _ _ c.self.view_is c.self.invariant c.number.ensures c.number-2.ensures c.number-3.ensures c.requires.live.0 c.requires.live.1 c.requires.live.2 c.meet.ensures in
    rw (m.pool_is, row_at-same p c.args.to.now (row_in _ c.self.inside.width c.args.to.now)) m.met

pub returns-clause-others : goal.returns-clause-others
returns-clause-others g c =
    let p = c.args.self.now in let to = c.args.to.now in
    let m = met_into c.self.inside p _ _ _ _ _ _ _ c.self.view_is c.self.invariant c.number.ensures c.number-2.ensures c.number-3.ensures c.requires.live.0 c.requires.live.1 c.requires.live.2 c.meet.ensures in
    m.pool_is ∙ ap (with_row p to) (sym (ap (λ q. row_at q to) m.pool_is ∙ row_at-same p to (row_in _ c.self.inside.width to)))
