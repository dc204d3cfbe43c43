use Rattle.std.proofs.Common.{◌≡◌, ◌+◌, ◌-◌, ◌*◌, ◌<◌, ◌≤◌, ℕ, List, arith, ap, sym, refl, length, length-set, subst, max, length-append}
use Rattle.std.proofs.lemmas.List.{length-replicate}
use Rattle.row_pool.specs.inner.Layout.{IsSoundPool}
use Rattle.row_pool.proofs.PoolLemmas.{grown, added, made}
use Rattle.row_pool.proofs.RowLemmas.{row_within}
use Rattle.row_pool.proofs.pool.RowPool.reserve.Goals as goal

at_row : (ws : List ℕ) (w t T : ℕ) → 0 < w → t < T → T * w ≤ length ws → t * w < length ws
at_row ws w t T wide below room = omega (arith, row_within w t T below)

pub rows-init : goal.rows-init
rows-init c =
    record {
      has = grown c.self.inside c.args.self.now _ _ c.self.view_is c.self.invariant c.in_ok-grow.ensures.ok;
      width = refl;
      spare = omega arith;
      total = omega arith;
      room = c.in_ok-grow.ensures.long;
    }

pub invariant_of-self-in-rows : goal.invariant_of-self-in-rows
invariant_of-self-in-rows c =
    let i = c.rows.invariant in
    subst (λ w. IsSoundPool c.rows.self-inside.storage w c.rows.self-inside.total c.rows.self-inside.next c.rows.self-inside.spare) (sym i.width) i.has.sound

pub set-requires : goal.set-requires
set-requires c = at_row c.rows.self-inside.storage c.self.inside.width c.rows.self-inside.total _ c.rows.invariant.has.sound.wide (omega arith) c.rows.invariant.room

pub overflow_add-self : goal.overflow_add-self
overflow_add-self c = record { fits = omega (arith, c.type_inv.total.fits, c.rows.invariant.total) }

pub overflow_add-self-in-rows : goal.overflow_add-self-in-rows
overflow_add-self-in-rows c = record { fits = omega (arith, c.ranges.n.fits, c.rows.invariant.spare) }

pub rows-preserved : goal.rows-preserved
rows-preserved c =
    let i = c.rows.invariant in
    let h = added c.rows.self-inside.storage _ c.self.inside.width c.rows.self-inside.total c.rows.self-inside.next c.rows.self-inside.spare _ (c.self.inside.total + (c.args.n - c.self.inside.spare)) _ i.has c.set.ensures c.from-self-inside.ensures (omega arith) (omega (arith, c.type_inv.total.fits)) i.room in
    record {
      has = h;
      width = i.width;
      spare = omega (arith, i.spare);
      total = omega (arith, i.total);
      room = omega (arith, i.room, ap length c.set.ensures, length-set {A = ℕ});
    }

pub returns-clause-ok : goal.returns-clause-ok
returns-clause-ok c =
    let i = c.rows.invariant in
    let k : c.rows.self-inside.spare ≡ max c.args.self.now.spare c.args.n = omega (arith, i.spare, ap (λ q. q.spare) c.self.view_is, c.rows.auto, c.rows-test.false) in
    made c.rows.self-inside c.args.self.now c.self.inside.width _ i.width (ap (λ q. q.width) c.self.view_is) i.has k
