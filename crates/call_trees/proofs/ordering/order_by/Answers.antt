use Rattle.std.proofs.Common.{◌≡◌, ◌∙◌, List, ℕ, Vec, Global, ap, sym, subst}
use Rattle.std.proofs.lemmas.Result.{IfOk-weaker}
use Rattle.call_trees.specs.Orders.{AreInOrder}
use Rattle.call_trees.specs.inner.IndexedKeys.{indexes_of}
use Rattle.call_trees.proofs.OrderLemmas.{are_in_order}
use Rattle.call_trees.proofs.ordering.order_by.Goals as goal

pub returns : goal.returns
returns g c = IfOk-weaker c.take_indexes.result _ _ (λ (v : Vec ℕ Global) (h : v.items ≡ indexes_of c.deref.result.now).
    subst (λ (ns : List ℕ). AreInOrder g.K.Ord.cmp c.args.keys.now ns) (sym (h ∙ ap (λ (ps : List (g.row.K.Denot × ℕ)). indexes_of ps) c.deref.ensures.value))
    (are_in_order g.K.Ord.cmp c.args.keys.now c.in_ok-pairs.pairs.items c.sort_unstable.new.self.items c.in_ok-pairs.ensures.keys c.in_ok-pairs.ensures.indexes c.sort_unstable.ensures.permutation c.sort_unstable.ensures.sorted)) c.take_indexes.ensures
