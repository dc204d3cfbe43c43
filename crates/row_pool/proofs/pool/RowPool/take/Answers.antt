use Rattle.std.proofs.Common.{◌∙◌, arith, ap, sym, ◌-◌}
use Rattle.std.specs.FinMap.{insert, get}
use Rattle.word_rows.specs.Words.{full_words as full}
use Rattle.row_pool.proofs.PoolLemmas.{within_next, taken, seen_at}
use Rattle.row_pool.proofs.pool.RowPool.take.Goals as goal

pub fill-requires : goal.fill-requires
fill-requires c =
    (within_next c.self.inside c.self.invariant (omega arith)).1

pub overflow_cast-first : goal.overflow_cast-first
overflow_cast-first c =
    record { fits = omega (arith, within_next c.self.inside c.self.invariant (omega arith), c.self.invariant.short) }

pub invariant_of-self : goal.invariant_of-self
invariant_of-self c =
    (taken c.self.inside c.args.self.now _ _ _ c.self.view_is c.self.invariant (omega arith) c.words.ensures c.fill.ensures).0.sound

pub returns-clause-new : goal.returns-clause-new
returns-clause-new c =
    let t = taken c.self.inside c.args.self.now _ _ _ c.self.view_is c.self.invariant (omega arith) c.words.ensures c.fill.ensures in
    ap (get c.args.self.now.rows) c.new.ensures ∙ t.1

pub returns-clause-taken : goal.returns-clause-taken
returns-clause-taken c =
    let t = taken c.self.inside c.args.self.now _ _ _ c.self.view_is c.self.invariant (omega arith) c.words.ensures c.fill.ensures in
    let rows = ap (λ q. insert c.args.self.now.rows c.self.inside.next (full q.width)) c.self.view_is ∙ ap (λ i. insert c.args.self.now.rows i (full c.args.self.now.width)) (sym c.new.ensures) in
    seen_at c.self.inside c.args.self.now _ _ _ _ _ _ _ c.self.view_is t.0 rows (ap (λ q. q.spare - 1) c.self.view_is)
