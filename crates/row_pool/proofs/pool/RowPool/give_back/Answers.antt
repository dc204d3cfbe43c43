use Rattle.std.proofs.Common.{◌∙◌, ◌+◌, arith, ap}
use Rattle.row_pool.proofs.PoolLemmas.{live_in, within_live, given, seen}
use Rattle.row_pool.proofs.MapLemmas.{len-remove_old}
use Rattle.row_pool.proofs.pool.RowPool.give_back.Goals as goal

pub set-requires : goal.set-requires
set-requires c =
    let there = live_in c.self.inside c.args.self.now _ _ c.self.view_is c.number-number.ensures c.requires in
    omega (arith, within_live c.self.inside _ c.self.invariant there, c.self.invariant.wide)

pub overflow_add-self : goal.overflow_add-self
overflow_add-self c =
    let there = live_in c.self.inside c.args.self.now _ _ c.self.view_is c.number-number.ensures c.requires in
    record { fits = omega (arith, len-remove_old _ _ there, c.self.invariant.counted, c.self.invariant.short) }

pub invariant_of-self : goal.invariant_of-self
invariant_of-self c =
    (given c.self.inside c.args.self.now _ _ _ _ c.self.view_is c.self.invariant c.number-number.ensures (c.from-self-inside.ensures ∙ c.number-number.ensures) c.requires c.set.ensures).sound

pub returns : goal.returns
returns c =
    let h = given c.self.inside c.args.self.now _ _ _ _ c.self.view_is c.self.invariant c.number-number.ensures (c.from-self-inside.ensures ∙ c.number-number.ensures) c.requires c.set.ensures in
    seen c.self.inside c.args.self.now _ _ _ _ _ _ c.self.view_is h (ap (λ q. q.spare + 1) c.self.view_is)
