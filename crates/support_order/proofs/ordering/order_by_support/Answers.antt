use Rattle.std.proofs.Common.{◌≡◌, ℕ, ◌+◌, ◌<◌, ◌≤◌, Some, List, length, map, take, get_or, slice_get, sym, ap, ◌∙◌, subst, arith}
use Rattle.std.proofs.lemmas.List.{take_all}
use Rattle.std.proofs.lemmas.Option.{slice_get-get_or}
use Rattle.support_order.specs.Orders.{IsOrder}
use Rattle.support_order.proofs.OrderLemmas.{AreKeys, keys_push, ordered, support_of}
use Rattle.support_order.proofs.ordering.order_by_support.Goals as goal

pub supports-preserved : goal.supports-preserved
supports-preserved c =
    let xs : List ℕ = c.args.supports.now in
    let n = c.supports.place in
    let s = get_or xs n 0 in
    let inside : n < length xs = omega (arith, c.supports-test.true) in
    let f = c.type_inv.supports n in
    let fits : s ≤ 4294967295 = omega arith in
    let at : slice_get xs n ≡ Some s = slice_get-get_or xs n 0 inside in
    subst (AreKeys xs (n + 1)) (sym c.in_ok-push.ensures.items) (keys_push xs n s c.supports.keys.items fits at c.supports.invariant)

pub returns : goal.returns
returns c =
    let xs : List ℕ = c.args.supports.now in
    let sorted : List (ℕ × ℕ) = c.sort_unstable.new.self.items in
    let lent : List (ℕ × ℕ) = c.deref-key-items.result.now in
    let all : take c.keys.key-index lent ≡ lent = take_all c.keys.key-index lent (omega (arith, c.keys-test.false)) in
    subst (IsOrder xs) (sym (c.keys.invariant ∙ ap (map support_of) (all ∙ c.deref-key-items.ensures.value)))
    (ordered xs c.supports.place c.supports.keys.items sorted (omega (arith, c.supports-test.false)) c.supports.invariant c.sort_unstable.ensures.permutation c.sort_unstable.ensures.sorted)
