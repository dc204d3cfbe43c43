use Rattle.std.proofs.Common.{◌≡◌, ◌∙◌, ◌<◌, All, List, ℕ, Vec, Global, ap, length, sym, subst}
use Rattle.std.proofs.lemmas.Result.{IfOk-weaker}
use Rattle.call_trees.specs.Orders.{AreInOrder}
use Rattle.call_trees.specs.Walks.{IsShallow, walk_through}
use Rattle.call_trees.proofs.GroupLemmas.{groups_length}
use Rattle.call_trees.proofs.OrderLemmas.{order-map, order_within}
use Rattle.span_calls.specs.Calls.{moments_cmp}
use Rattle.span_calls.specs.inner.CallKeys.{moments_of}
use Rattle.span_calls.proofs.CallLemmas.{key_cmp}
use Rattle.span_calls.proofs.ShallowLemmas.{all_shallow}
use Rattle.span_calls.proofs.listing.list_calls.Goals as goal

pub group_below-requires-clause-within : goal.group_below-requires-clause-within
group_below-requires-clause-within c =
    subst (All (λ j. j < length c.args.callers.now)) (sym c.deref.ensures.value) (order_within key_cmp c.args.keys.now c.in_ok-order.order.items (length c.args.callers.now) (sym c.requires.same) c.in_ok-order.ensures)

pub walk-requires : goal.walk-requires
walk-requires c =
    let callers = c.args.callers.now in
    let order = c.deref.result.now in
    let within : All (λ j. j < length callers) order = subst (All (λ j. j < length callers)) (sym c.deref.ensures.value) (order_within key_cmp c.args.keys.now c.in_ok-order.order.items (length callers) (sym c.requires.same) c.in_ok-order.ensures) in
    subst (λ (ls : List (List ℕ)). All (IsShallow ls (length ls)) c.args.entries.now) (sym (c.deref-2.ensures.value ∙ c.in_ok-below.ensures)) (all_shallow callers order c.requires.ends within c.args.entries.now c.requires.within)

pub returns-clause-listed : goal.returns-clause-listed
returns-clause-listed c = IfOk-weaker c.walk.result _ _ (λ (v : Vec ℕ Global) (h : v.items ≡ walk_through c.deref-2.result.now c.args.entries.now). record {
  order = c.deref.result.now;
  ordered = order-map moments_of moments_cmp c.args.keys.now c.deref.result.now (subst (AreInOrder key_cmp c.args.keys.now) (sym c.deref.ensures.value) c.in_ok-order.ensures);
  listed = h ∙ ap (λ (ls : List (List ℕ)). walk_through ls c.args.entries.now) (c.deref-2.ensures.value ∙ c.in_ok-below.ensures);
}) c.walk.ensures.walk

pub returns-clause-within : goal.returns-clause-within
returns-clause-within c = IfOk-weaker c.walk.result _ _ (λ (v : Vec ℕ Global) (h : All (λ n. n < length c.deref-2.result.now) v.items).
    subst (λ m. All (λ n. n < m) v.items) (ap length (c.deref-2.ensures.value ∙ c.in_ok-below.ensures) ∙ groups_length c.args.callers.now c.deref.result.now) h) c.walk.ensures.within
