use Rattle.std.proofs.Common.{◌≡◌, ◌∙◌, ◌+◌, ℕ, ap, arith, take}
use Rattle.std.specs.List.{count_by}
use Rattle.indexmap.specs.IndexMap.{get}
use Rattle.call_trees.proofs.OrdinalLemmas.{counts_more, few, ordinals_all, ordinals_more}
use Rattle.call_trees.proofs.ordinals.find_ordinals.Goals as goal

pub overflow_add-ordinal : goal.overflow_add-ordinal
overflow_add-ordinal g c =
    omega (arith, few g.K.PartialEq.eq c.args.keys.now c.loop-key.key-index c.key-item.result c.loop-key-test.true, c.count_of-ordinal.ensures, c.loop-key.invariant.counts c.key-item.result, c.requires)

pub loop-key-preserved : goal.loop-key-preserved
loop-key-preserved g c =
    let keys = c.args.keys.now in
    let i = c.loop-key.key-index in
    let k = c.key-item.result in
    let n : ℕ = c.count_of-ordinal.result + 1 in
    let count : n ≡ count_by (g.K.PartialEq.eq k) (take i keys) + 1 = ap (λ m. m + 1) (c.count_of-ordinal.ensures ∙ c.loop-key.invariant.counts k) in
    record {
      counts = counts_more g.K.PartialEq.eq g.met.K.Eq.laws keys i k n (λ q. get g.K.PartialEq.eq c.loop-key.counts q) (λ q. get g.K.PartialEq.eq c.insert.new.self q) c.loop-key-test.true c.key-item.is count (λ q. c.in_ok-insert.ensures.updates.0 q) c.loop-key.invariant.counts;
      ordinals = ordinals_more g.K.PartialEq.eq keys i k n c.loop-key.ordinals.items c.push.new.self.items c.loop-key-test.true c.key-item.is count c.loop-key.invariant.ordinals c.in_ok-push.ensures.items;
    }

pub returns : goal.returns
returns g c = ordinals_all g.K.PartialEq.eq c.args.keys.now c.loop-key.key-index c.loop-key.ordinals.items c.loop-key-test.false c.loop-key.invariant.ordinals
