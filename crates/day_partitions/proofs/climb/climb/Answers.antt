use Rattle.std.proofs.Common.{◌≡◌, ◌∙◌, ◌+◌, ◌-◌, ◌*◌, ◌/◌, ◌^◌, ◌<◌, sym, arith, subst}
use Rattle.row_pool.specs.Pools.{row_at}
use Rattle.day_partitions.specs.inner.Nodes.{AreMetBut}
use Rattle.day_partitions.proofs.ClimbLemmas.{stepped, changes_none, changes_more, halved}
use Rattle.day_partitions.proofs.PlaceLemmas.{own_inner}
use Rattle.day_partitions.proofs.climb.climb.Goals as goal

pub levels-init : goal.levels-init
levels-init g c =
    record {
      rows = c.requires.tree.rows;
      met = c.requires.tree.met;
      others = changes_none _ _ _;
      low = omega arith;
      high = omega arith;
      within = omega arith;
      steps = omega arith;
    }

pub meet_into-requires-clause-apart : goal.meet_into-requires-clause-apart
meet_into-requires-clause-apart g c =
    let i = c.levels.invariant in let m = c.levels.at / 2 in
    let h = halved c.levels.counter c.levels.at c.levels-test.true i.low i.high in
    let mine = own_inner c.args.leaves.now m (omega (arith, i.within)) in (
      λ e. i.rows.apart m (2 * m) (omega (arith, i.within)) (omega (arith, i.within)) mine (λ s. omega (arith, h.0)) (sym c.node.ensures ∙ e ∙ c.node-in-levels.ensures),
      λ e. i.rows.apart m (2 * m + 1) (omega (arith, i.within)) (omega (arith, i.within)) mine (λ s. omega (arith, h.0)) (sym c.node.ensures ∙ e ∙ c.node-in-levels-2.ensures),
    )

pub levels-preserved : goal.levels-preserved
levels-preserved g c =
    let i = c.levels.invariant in let m = c.levels.at / 2 in
    let h = halved c.levels.counter c.levels.at c.levels-test.true i.low i.high in
    let s = stepped c.levels.pool c.meet_into.new.self c.args.nodes.now c.args.leaves.now m _ _ _ (row_at c.meet_into.new.self c.node.result.now) i.rows h.0 (omega (arith, i.within)) i.met c.node.ensures c.node-in-levels.ensures c.node-in-levels-2.ensures c.meet_into.ensures.met c.meet_into.ensures.others in
    record {
      rows = s.rows;
      met = s.met;
      others = changes_more _ _ _ _ _ i.others s.others;
      low = h.1;
      high = h.2;
      within = omega (arith, i.within);
      steps = omega (arith, i.steps, c.meet_into.ensures.step);
    }

pub returns-clause-met : goal.returns-clause-met
returns-clause-met g c =
    let i = c.levels.invariant in
    let none : c.levels.counter ≡ 6 = omega (arith, c.levels.auto, c.levels-test.false) in
    let top : c.levels.at / 2 ≡ 0 = (let h : c.levels.at < 2 * 2 ^ (6 - 6) = subst (λ k. c.levels.at < 2 * 2 ^ (6 - k)) none i.high in omega arith) in
    subst (λ k. AreMetBut c.levels.pool c.args.nodes.now c.args.leaves.now k) top i.met
