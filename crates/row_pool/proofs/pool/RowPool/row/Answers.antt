use Rattle.std.proofs.Common.{◌≡◌, ◌∙◌, ◌+◌, ◌-◌, ◌*◌, arith, ap, length, take, drop}
use Rattle.row_pool.proofs.PoolLemmas.{live_in, within_live, row_is}
use Rattle.row_pool.proofs.pool.RowPool.row.Goals as goal

pub offset_bounds-words-from : goal.offset_bounds-words-from
offset_bounds-words-from c =
    let there = live_in c.self.inside c.args.self.now _ _ c.self.view_is c.number.ensures c.requires in
    record { fits = omega (arith, within_live c.self.inside _ c.self.invariant there, c.words.type_inv, ap length c.words.ensures) }

pub slice_bounds-result-end : goal.slice_bounds-result-end
slice_bounds-result-end c =
    let there = live_in c.self.inside c.args.self.now _ _ c.self.view_is c.number.ensures c.requires in
    let within = within_live c.self.inside _ c.self.invariant there in
    omega (arith, within, ap length c.words.ensures)

pub returns-clause-words : goal.returns-clause-words
returns-clause-words c =
    let from = c.number.result * c.self.inside.width in
    let e : from + c.self.inside.width - from ≡ c.self.inside.width = omega arith in
    ap (λ n. take n (drop from c.words.result.now)) e
    ∙ row_is c.self.inside c.args.self.now _ _ _ c.self.view_is c.number.ensures c.requires c.words.ensures
